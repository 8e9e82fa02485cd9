use Rattle.std.proofs.Common.{◌≡◌, ◌+◌, ◌-◌, ◌/◌, ◌^◌, ◌≤◌}
use Rattle.app_options.specs.Windows.{halvings}
use Rattle.app_options.proofs.scale.scale_of.Given as goal

-- The size was halved so often, and what is left is halved on.
abbrev pub invariant-loop-scale : goal.invariant-loop-scale
invariant-loop-scale l = record {
  small : l.scale ≤ 14;
  left : l.scale + halvings (14 - l.scale) (l.size / 2 ^ l.scale) ≡ halvings 14 l.size;
}

abbrev pub decreases-loop-scale : goal.decreases-loop-scale
decreases-loop-scale l = 14 - l.scale
