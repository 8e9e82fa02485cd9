use Rattle.std.proofs.Common.{rules, subst, subst₂, sym, w64}
use Rattle.std.proofs.lemmas.Int.{to_z-of_z}
use Rattle.c_routing.proofs.sources.check_addr.Goals as goal
use Rattle.c_routing.specs.Routes.{Chooses}
use Rattle.c_routing.specs.Sources.{IsBack}

pub returns-in-Some : goal.returns-in-Some
returns-in-Some c known =
    let src = c.args.src.now in
    let chosen = subst₂ (λ routes place. Chooses routes src place) (sym c.in_bounds.ensures.value) (sym (to_z-of_z w64 c.choose_route.result (search rules))) (c.choose_route.ensures _ known) in
    let back = subst (λ routes. IsBack routes src c.back-back.result) c.in_bounds.ensures.value (c.back-back.ensures src chosen) in
    search rules
