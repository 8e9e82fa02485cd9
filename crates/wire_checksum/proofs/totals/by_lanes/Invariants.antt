use Rattle.std.proofs.Common.{◌≡◌, ◌+◌, ◌≤◌, ◌*◌, take, length, sum}
use Rattle.std.specs.Simd.Lanes.{Each1, sum_l}
use Rattle.wire_checksum.specs.WordSum.{words}
use Rattle.wire_checksum.proofs.Lanes.{evens}
use Rattle.wire_checksum.proofs.totals.by_lanes.Given as goal

abbrev pub invariant-loop-vector : goal.invariant-loop-vector
invariant-loop-vector l = record {
  long_all : length l.all ≡ 16;
  long_odd : length l.odd ≡ 16;
  small_odd : Each1 (λ a. a ≤ 255 * l.vector-index) l.odd;
  small_even : Each1 (λ a. a ≤ 255 * l.vector-index) (evens 16 l.all l.odd);
  so_far : 256 * sum_l (evens 16 l.all l.odd) + sum_l l.odd ≡ sum (words (take (l.vector-index * 32) l.bytes));
}
