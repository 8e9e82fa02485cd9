use Rattle.std.proofs.Common.{◌≡◌, ◌≤◌, ℕ, List, Option, Some, None, Bor, take, length, suc, IfSome}
use Rattle.wire_addr.specs.Reading.{groups_read, groups_from, pieces_after}
use Rattle.wire_addr.proofs.groups_text.groups.Given as goal

-- the number of bytes that are left; a rest that may be empty counts as one more
abbrev left : Option (Bor (List ℕ)) → ℕ
left None = 0
left (Some rest) = suc (length rest.now)

abbrev pub invariant-loop-rest : goal.invariant-loop-rest
invariant-loop-rest l = record {
  read : groups_read l.text ≡ groups_from l.before (take l.len l.groups) (pieces_after 58 l.rest);
  size : length l.groups ≡ 8;
  few : l.len ≤ 8;
  within : IfSome l.before (λ n. n ≤ l.len);
}

abbrev pub decreases-loop-rest : goal.decreases-loop-rest
decreases-loop-rest l = left l.rest
