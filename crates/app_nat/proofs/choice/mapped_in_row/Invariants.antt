use Rattle.std.proofs.Common.{ℕ, ◌≡◌, ◌+◌, ◌*◌, ◌%◌, ◌<◌, length, max}
use Rattle.app_nat.specs.Table.{MapsTo, port_after, ports}
use Rattle.app_nat.proofs.choice.mapped_in_row.Given as goal

abbrev pub invariant-loop-rank : goal.invariant-loop-rank
invariant-loop-rank l =
    (l.index ≡ (l.start + l.rank * l.step) % max 1 (ports l.nat (length l.mappings)))
    × ((rank : ℕ) → rank < l.rank → ¬ MapsTo l.nat l.mappings l.now l.protocol (port_after l.nat (ports l.nat (length l.mappings)) l.start l.step rank) l.inside)
