use Rattle.std.proofs.Common.{refl, sym, subst, ℤ, w32, rules}
use Rattle.std.proofs.lemmas.Int.{to_z-of_z}
use Rattle.app_socket.specs.declared.step.Event.{Event}
use Rattle.c_socket.specs.Calls.{IsArrival, Meets}
use Rattle.c_socket.specs.Options.{summary_of}
use Rattle.c_socket.specs.Segments.{segment_of}
use Rattle.c_socket.proofs.Meeting.{meets_as}
use Rattle.c_socket.proofs.calls.take.Goals as goal

pub returns-clause-short : goal.returns-clause-short
returns-clause-short c = λ short.
    let a = c.args in
    let Is : Event → Type 0 = IsArrival (segment_of a.segment.now) (summary_of a.segment.now.options) a.fresh in
    subst (λ (z : ℤ). Meets Is a.connection.now c.meet.new.connection a.outgoing.now a.incoming.now c.meet.new.incoming a.now a.out.now c.meet.new.out z)
    (sym (to_z-of_z w32 c.meet.result (search rules)))
    (meets_as _ Is a.connection.now c.meet.new.connection a.outgoing.now a.incoming.now c.meet.new.incoming a.now a.out.now c.meet.new.out c.meet.result
    (λ e is. subst Is (sym is) (c.value-arrived.ensures, c.summary_of-options.ensures, refl)) c.meet.ensures)
