use Rattle.std.proofs.Common.{◌≡◌, ◌∙◌, sym, ap, true, false, arith}
use Rattle.tcp_stream.specs.Network.{run, start}
use Rattle.app_options.specs.declared.agreed.Agreed.{Agreed}
use Rattle.app_options.specs.Timestamps.{takes}
use Rattle.app_connection.specs.declared.connection.Connection.{Connection}
use Rattle.app_connection.specs.States.{state_from}
use Rattle.app_socket.specs.Segments.{rejects}
use Rattle.app_socket.specs.Times.{is_open}
use Rattle.app_socket.proofs.Rounds.{bare_taken, count_some, no_flag, none_rejected, round_of}
use Rattle.app_socket.proofs.laws.a_round_is_acknowledged.Goals as goal

pub returns : goal.returns
returns c = λ after initial room events waits less opened space.
    let old = c.args.socket.now in
    let mid = c.step.new.self in
    let new = c.step-2.new.self in
    let outgoing = c.args.outgoing.now in
    let s = c.args.answer.now in
    let resends = c.step.ensures.resends tt c.requires.opened c.requires.patient in
    let sends = resends.expires (count_some (run events (start initial)) old.connection.sending outgoing waits less) c.requires.due c.requires.probed in
    let still : is_open (state_from mid.connection) ≡ true = ap (λ (x : Connection). is_open (state_from x)) resends.only ∙ c.requires.opened in
    let fresh : takes mid.agreed.recent c.args.options.now.timestamp c.args.times.1 ≡ true = ap (λ (a : Agreed). takes a.recent c.args.options.now.timestamp c.args.times.1) resends.agreed ∙ c.requires.taken in
    let taken : rejects mid c.args.times.1 s c.args.options.now ≡ false = none_rejected _ _ _ fresh in
    let learns = c.step-2.ensures.learns still after taken in
    let synced : mid.connection.receiving.is_open ≡ true = ap (λ (x : Connection). x.receiving.is_open) resends.only ∙ c.requires.synced in
    let syn : s.syn ≡ false = no_flag s.syn (omega (arith, c.requires.bare)) in
    let place : s.number ≡ mid.connection.receiving.next = c.requires.number ∙ sym (ap (λ (x : Connection). x.receiving.next) resends.only) in
    round_of initial room events old.connection mid.connection new.connection outgoing c.step.result s.ack sends c.requires.out.small waits less opened space
    (learns.hears synced c.requires.no_rst syn (bare_taken mid.connection.receiving.next _ s.number _ place c.requires.bare))
