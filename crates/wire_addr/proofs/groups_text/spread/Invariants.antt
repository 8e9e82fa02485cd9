use Rattle.std.proofs.Common.{◌≡◌, take, length}
use Rattle.wire_addr.specs.Reading.{spread}
use Rattle.wire_addr.proofs.groups_text.spread.Given as goal

abbrev pub invariant-loop-i : goal.invariant-loop-i
invariant-loop-i l = record {
  size : length l.all ≡ 8;
  front : take l.i l.all ≡ take l.i (spread l.before (take l.len l.groups));
}
