use Rattle.std.proofs.Common.{◌≡◌, ◌+◌, ◌<◌}
use Rattle.app_nat.specs.Reach.{Raises}
use Rattle.app_nat.proofs.reach.raise.Given as goal

abbrev pub invariant-loop-index : goal.invariant-loop-index
invariant-loop-index l =
    Raises l.nat l.fn.mappings l.mappings l.now (λ p port. (p ≡ l.protocol) × (port < l.nat.first_port + l.index))
