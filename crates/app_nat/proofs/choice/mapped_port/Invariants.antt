use Rattle.std.proofs.Common.{ℕ, ◌≡◌, ◌+◌, ◌*◌, ◌%◌, ◌<◌, length, max}
use Rattle.app_nat.specs.Table.{MapsTo, port_in_rows, ports, row_len}
use Rattle.app_nat.proofs.choice.mapped_port.Given as goal

abbrev pub invariant-loop-row : goal.invariant-loop-row
invariant-loop-row l =
    (l.first ≡ (l.start + l.row) % max 1 (ports l.nat (length l.mappings)))
    × ((rank : ℕ) → rank < l.row * row_len (ports l.nat (length l.mappings)) l.step → ¬ MapsTo l.nat l.mappings l.now l.protocol (port_in_rows l.nat (ports l.nat (length l.mappings)) l.start l.step rank) l.inside)
