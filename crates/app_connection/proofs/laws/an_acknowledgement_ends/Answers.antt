use Rattle.std.proofs.Common.{◌≡◌, refl, sym, ◌∙◌, ap, subst, ℕ, Bool, length, true, false}
use Rattle.std.specs.Prelude.{Some, None, IfSome, if◌then◌else◌}
use Rattle.tcp_stream.specs.Stands.{room_of}
use Rattle.app_connection.specs.Endpoints.{acknowledgement_of, answers_bare, is_of_unsent, TakesAck}
use Rattle.app_connection.specs.Sequence.{is_taken_at}
use Rattle.app_connection.specs.declared.segment.Reply.{Reply}
use Rattle.app_connection.proofs.Quiet.{quiet, unsent, taken, bare, no_len}
use Rattle.app_connection.proofs.laws.an_acknowledgement_ends.Goals as goal

pub returns-clause-ends : goal.returns-clause-ends
returns-clause-ends c = λ there back sent received consumed read out rings sender receiver comes.
    let s = c.args.sender.now in
    let r = c.args.receiver.now in
    let reply = c.acknowledgement-reply in
    let window = room_of r.receiving (length c.args.incoming.now) in
    let no : answers_bare r window reply.result.number reply.result.ack ≡ false =
    subst (λ (x : Reply). answers_bare r window x.number x.ack ≡ false) (sym reply.ensures.value) (quiet there back sent received consumed read s r out rings c.args.outgoing.now c.args.incoming.now sender receiver comes window)
    in
    c.on_segment.ensures.bare c.requires.phase c.requires.state (bare reply.result.syn reply.result.rst _ reply.ensures.syn reply.ensures.rst refl)
    ∙ ap (λ (b : Bool). if b then Some (acknowledgement_of r) else None) no

pub returns-clause-taken : goal.returns-clause-taken
returns-clause-taken c = λ there back sent received consumed read out rings opened sender receiver comes few.
    let s = c.args.sender.now in
    let r = c.args.receiver.now in
    let reply = c.acknowledgement-reply in
    let window = room_of r.receiving (length c.args.incoming.now) in
    let in_time = subst (λ (x : Reply). (len : ℕ) → len ≡ 0 → is_taken_at r.receiving.next window x.number len ≡ true) (sym reply.ensures.value)
    (λ len none. taken there back sent received consumed read s r out rings c.args.outgoing.now c.args.incoming.now sender receiver comes window len opened few none) in
    let no : is_of_unsent r reply.result.ack ≡ false =
    subst (λ (x : Reply). is_of_unsent r x.ack ≡ false) (sym reply.ensures.value) (unsent there back sent received consumed read s r out rings c.args.outgoing.now c.args.incoming.now sender receiver comes)
    in
    subst (λ (x : Reply). IfSome x.ack (λ ack. TakesAck r c.on_segment.new.self x.number c.args.window ack)) reply.ensures.value
    (c.on_segment.ensures.takes c.requires.phase c.requires.state opened reply.ensures.rst reply.ensures.syn (in_time _ (no_len reply.result.syn _ reply.ensures.syn refl)) no)
