use Rattle.std.proofs.Common.{◌≡◌, sym, ◌∙◌, ap, subst, ℕ, ◌<◌, true, length, arith}
use Rattle.std.specs.Prelude.{Some, IfSome, ◌&&◌}
use Rattle.app_connection.specs.declared.connection.Connection.{Connection}
use Rattle.app_connection.specs.declared.state.State.{State}
use Rattle.app_connection.specs.States.{state_from}
use Rattle.app_options.specs.Options.{own_scale}
use Rattle.tcp_stream.specs.Stands.{room_of}
use Rattle.app_socket.specs.declared.socket.Socket.{Socket}
use Rattle.app_socket.specs.Resends.{is_room_news, waits_for_bytes}
use Rattle.app_socket.specs.Times.{is_open, mss_of}
use Rattle.app_socket.specs.Window.{is_update_due, least_growth, promised, read_as}
use Rattle.app_socket.proofs.Calling.{ack_some}
use Rattle.app_socket.proofs.Lost.{all_news, goes_with, le_between}
use Rattle.app_socket.proofs.laws.losses.a_window_that_opens_is_told.Goals as goal

pub returns : goal.returns
returns c = λ much.
    let old = c.args.socket.now in
    let mid = c.read.new.self in
    let size = length c.args.incoming.now in
    let same = c.read.ensures.same in
    let reads = c.read.ensures.reads.same in
    let state = ap state_from reads ∙ c.requires.opened in
    let opened : is_open (state_from mid.connection) ≡ true = ap is_open state in
    let patient : c.args.now < mid.timers.ends_at = omega (arith, c.requires.patient, ap (λ (s : Socket). s.timers.ends_at) same) in
    let synced : mid.connection.receiving.is_open ≡ true = ap (λ (x : Connection). x.receiving.is_open) reads ∙ c.requires.synced in
    let next : mid.connection.receiving.next ≡ old.connection.receiving.next = ap (λ (x : Connection). x.receiving.next) reads in
    let acks = c.step.ensures.acknowledges tt opened patient in
    let r = c.step.ensures.resends tt opened patient in
    let closed : promised mid.edge mid.connection.receiving.next ≡ 0 = ap (λ (e : ℕ). promised e mid.connection.receiving.next) (ap (λ (s : Socket). s.edge) same) ∙ ap (λ (n : ℕ). promised old.edge n) next ∙ c.requires.closed in
    let least = least_growth size (mss_of mid.options) in
    let mss : least ≡ least_growth size (mss_of old.options) = ap (λ (s : Socket). least_growth size (mss_of s.options)) same in
    let shift = own_scale mid.agreed size in
    let room : read_as (room_of mid.connection.receiving size) shift ≡ read_as (room_of c.step.new.self.connection.receiving size) (own_scale old.agreed size) =
    ap (λ (s : Socket). read_as (room_of mid.connection.receiving size) (own_scale s.agreed size)) same ∙ sym (ap (λ (x : Connection). read_as (room_of x.receiving size) (own_scale old.agreed size)) r.only)
    in
    let much2 = le_between least (least_growth size (mss_of old.options)) (read_as (room_of c.step.new.self.connection.receiving size) (own_scale old.agreed size)) (read_as (room_of mid.connection.receiving size) shift) mss room much in
    let due = all_news mid.edge mid.connection.receiving.next (room_of mid.connection.receiving size) least shift closed (omega arith) much2 in
    let news : is_room_news mid size ≡ true =
    ap (λ (s : State). waits_for_bytes s && is_update_due mid.edge mid.connection.receiving.next (room_of mid.connection.receiving size) least shift) state ∙ due
    in
    let all : room_of mid.connection.receiving size ≡ room_of c.step.new.self.connection.receiving size = sym (ap (λ (x : Connection). room_of x.receiving size) r.only) in
    goes_with c.step.result (Some old.connection.receiving.next) _ (room_of c.step.new.self.connection.receiving size) (acks.room synced news) acks.ack (ack_some mid.connection synced ∙ ap Some next)
    (subst (λ (n : ℕ). IfSome c.step.result (λ s. s.window ≡ n)) all (acks.opens synced news))
