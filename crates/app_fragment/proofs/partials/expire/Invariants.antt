use Rattle.std.proofs.Common.{◌≡◌, length}
use Rattle.app_fragment.specs.Partials.{AreSilentBelow, EndBelow, table}
use Rattle.app_fragment.proofs.partials.expire.Given as goal

abbrev pub invariant-loop-i : goal.invariant-loop-i
invariant-loop-i l = record {
  end : EndBelow l.fn.partials l.partials l.now l.i;
  silent : AreSilentBelow (table l.fn.partials l.memory) l.now (length l.fn.out) l.i;
  same : l.out ≡ l.fn.out;
}
