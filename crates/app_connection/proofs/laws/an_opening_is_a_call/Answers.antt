use Rattle.std.proofs.Common.{sym, ◌∙◌, ap, subst, refl, ℕ, List, length}
use Rattle.std.specs.Prelude.{option_map}
use Rattle.app_connection.specs.declared.connection.Connection.{Connection}
use Rattle.app_connection.specs.declared.step.Event.TheVariants as event
use Rattle.app_connection.specs.Endpoints.{OutFits}
use Rattle.app_connection.specs.Openings.{opens, present}
use Rattle.app_connection.specs.States.{has_peer, state_from}
use Rattle.app_connection.specs.Steps.{Steps}
use Rattle.app_connection.specs.Worlds.{said}
use Rattle.app_connection.proofs.laws.an_opening_is_a_call.Goals as goal

pub returns : goal.returns
returns c = λ a b new k connection outgoing incoming shut number others is.
    let e = event.Open c.args.iss in
    let d = c.step.new.self in
    let o = option_map said c.step.result in
    let steps = c.step.ensures.steps in
    let with_incoming = subst (λ (l : List ℕ). Steps c.args.here.now d c.args.outgoing.now l c.step.new.incoming e o) (sym incoming) steps in
    let with_rings = subst (λ (l : List ℕ). Steps c.args.here.now d l (present a).incoming c.step.new.incoming e o) (sym outgoing) with_incoming in
    opens new k e d c.step.new.incoming o number others shut (ap (λ (x : Connection). has_peer (state_from x)) connection ∙ c.requires.none) (steps.active c.args.iss refl c.requires.none) tt
    (subst (λ (l : List ℕ). OutFits d.sending (length l)) (sym outgoing) c.step.ensures.out)
    (subst (λ (x : Connection). Steps x d (present a).outgoing (present a).incoming c.step.new.incoming e o) (sym connection) with_rings) is
