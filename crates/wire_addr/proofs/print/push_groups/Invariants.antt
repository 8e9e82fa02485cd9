use Rattle.std.proofs.Common.{◌≡◌, ◌+◌, ◌*◌, ◌≤◌, ◌++◌, ◌∷◌, get_or, length, take}
use Rattle.wire_addr.specs.Printed.{colon_hex}
use Rattle.wire_addr.proofs.print.push_groups.Given as goal

abbrev pub invariant-loop-group : goal.invariant-loop-group
invariant-loop-group g l = record {
  bytes : l.text.bytes ≡ l.fn.text.bytes ++ colon_hex (get_or l.groups 0 0 ∷ take l.group-index l.rest);
  room : length l.text.bytes + 1 ≤ length l.fn.text.bytes + 5 * (l.group-index + 1);
}
