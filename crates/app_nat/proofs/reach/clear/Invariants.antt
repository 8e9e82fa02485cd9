use Rattle.std.proofs.Common.{ℕ, ◌≡◌, ◌<◌}
use Rattle.app_nat.specs.Mapping.{with_reach}
use Rattle.app_nat.specs.Reach.{at_place}
use Rattle.app_nat.proofs.reach.clear.Given as goal

abbrev pub invariant-loop-mapping : goal.invariant-loop-mapping
invariant-loop-mapping l =
    ((place : ℕ) → at_place l.mappings place ≡ with_reach (at_place l.mappings place).reach (at_place l.fn.mappings place))
    × ((place : ℕ) → place < l.mapping-index → (at_place l.mappings place).reach ≡ 0)
