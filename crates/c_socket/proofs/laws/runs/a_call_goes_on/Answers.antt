use Rattle.std.proofs.Common.{◌≡◌, sym, subst, ℤ, w32, rules}
use Rattle.std.proofs.lemmas.Int.{to_z-of_z}
use Rattle.app_connection.specs.Runs.{MayCome}
use Rattle.app_socket.specs.Fields.{socket_of}
use Rattle.app_socket.specs.Segments.{taken_of}
use Rattle.app_socket.specs.declared.step.Event.{Event}
use Rattle.app_socket.specs.declared.step.Event.TheVariants as event
use Rattle.c_socket.specs.Calls.{IsArrival}
use Rattle.c_socket.specs.Extends.{GoesOn, IsShort, MayTake, end_at}
use Rattle.c_socket.specs.Options.{summary_of}
use Rattle.c_socket.specs.Runs.{aborts, closes, connection_of, listens, stepped, stored}
use Rattle.c_socket.specs.Segments.{segment_of}
use Rattle.c_socket.specs.declared.laws.runs.Call.{Call}
use Rattle.c_socket.proofs.Extending.{goes_on, may_take, met_goes}
use Rattle.c_socket.proofs.laws.runs.a_call_goes_on.Goals as goal

pub returns-in-Connect : goal.returns-in-Connect
returns-in-Connect c = λ h b opens may fits.
    let f = c.args.here.now in
    let it = c.connect in
    let a = end_at f c.args.outgoing.now c.args.incoming.now h in
    subst (λ (z : ℤ). GoesOn a b (stepped a b it.new.connection it.new.incoming (stored z it.new.out))) (sym (to_z-of_z w32 it.result (search rules)))
    (met_goes (λ e. e ≡ event.Open c.in-Connect.iss) f it.new.connection c.args.outgoing.now c.args.incoming.now it.new.incoming h b c.args.now c.args.out.now it.new.out it.result opens
    (λ e is. subst (λ (x : Event). MayCome (taken_of (socket_of f) c.args.now x) (connection_of a) (connection_of b)) (sym is) tt) (record { out = c.requires.out; rings = c.requires.rings }) it.ensures)

pub returns-in-Take : goal.returns-in-Take
returns-in-Take c = λ h b opens may fits.
    let f = c.args.here.now in
    let it = c.take in
    let x = c.in-Take.segment.now in
    let a = end_at f c.args.outgoing.now c.args.incoming.now h in
    let short = subst IsShort c.in-Take.is c.requires.short in
    let from = subst (λ (y : Call). MayTake y b h) c.in-Take.is may in
    subst (λ (z : ℤ). GoesOn a b (stepped a b it.new.connection it.new.incoming (stored z it.new.out))) (sym (to_z-of_z w32 it.result (search rules)))
    (met_goes (IsArrival (segment_of x) (summary_of x.options) c.in-Take.fresh) f it.new.connection c.args.outgoing.now c.args.incoming.now it.new.incoming h b c.args.now c.args.out.now it.new.out it.result opens
    (may_take (socket_of f) c.args.now (connection_of a) (connection_of b) (segment_of x) (summary_of x.options) c.in-Take.fresh from) (record { out = c.requires.out; rings = c.requires.rings }) (it.ensures.short short))

pub returns-in-Tick : goal.returns-in-Tick
returns-in-Tick c = λ h b opens may fits.
    let f = c.args.here.now in
    let it = c.tick in
    let a = end_at f c.args.outgoing.now c.args.incoming.now h in
    subst (λ (z : ℤ). GoesOn a b (stepped a b it.new.connection it.new.incoming (stored z it.new.out))) (sym (to_z-of_z w32 it.result (search rules)))
    (met_goes (λ e. e ≡ event.Tick) f it.new.connection c.args.outgoing.now c.args.incoming.now it.new.incoming h b c.args.now c.args.out.now it.new.out it.result opens
    (λ e is. subst (λ (x : Event). MayCome (taken_of (socket_of f) c.args.now x) (connection_of a) (connection_of b)) (sym is) tt) (record { out = c.requires.out; rings = c.requires.rings }) it.ensures)

pub returns-in-Listen : goal.returns-in-Listen
returns-in-Listen c = λ h b opens may fits. goes_on (end_at c.args.here.now c.args.outgoing.now c.args.incoming.now h) b _ (listens c.listen.new.connection fits c.listen.ensures)

pub returns-in-Close : goal.returns-in-Close
returns-in-Close c = λ h b opens may fits. goes_on (end_at c.args.here.now c.args.outgoing.now c.args.incoming.now h) b _ (closes c.close.new.connection fits c.close.ensures)

pub returns-in-Abort : goal.returns-in-Abort
returns-in-Abort c = λ h b opens may fits.
    let it = c.abort in
    let a = end_at c.args.here.now c.args.outgoing.now c.args.incoming.now h in
    subst (λ (z : ℤ). GoesOn a b (stepped a b it.new.connection c.args.incoming.now (stored z it.new.out))) (sym (to_z-of_z w32 it.result (search rules)))
    (goes_on a b _ (aborts it.new.connection c.args.out.now it.new.out it.result fits it.ensures))
