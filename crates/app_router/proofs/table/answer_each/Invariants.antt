use Rattle.std.proofs.Common.{ℕ, ◌≡◌, ◌^◌, ◌<◌, ◌≤◌, List, get_or, length}
use Rattle.app_router.specs.Index.{IsIndex}
use Rattle.app_router.specs.Table.{Answers, answer_of, range_at, start_of}
use Rattle.ip_wire.specs.declared.IpCidr.{IpCidr}
use Rattle.app_router.proofs.table.answer_each.Given as goal

abbrev pub invariant-loop-i : goal.invariant-loop-i
invariant-loop-i l = record {
  fits : (k : ℕ) → get_or l.ranges k 0 < 2 ^ 64;
  starts : (k : ℕ) → start_of (range_at l.ranges k) ≡ start_of (range_at l.fn.ranges k);
  answers : (blocks : List IpCidr) → IsIndex blocks l.nodes → (k : ℕ) → k < l.i
      → Answers blocks (λ addr. addr ≡ start_of (range_at l.ranges k)) (answer_of (range_at l.ranges k));
  few : (blocks : List IpCidr) → IsIndex blocks l.nodes → (k : ℕ) → k < l.i → answer_of (range_at l.ranges k) ≤ length blocks;
}
