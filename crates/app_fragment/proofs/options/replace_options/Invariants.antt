use Rattle.std.proofs.Common.{◌≡◌, ◌≤◌, ◌-◌, ◌++◌, drop, length, take}
use Rattle.app_fragment.specs.Ipv4Options.{later_options}
use Rattle.app_fragment.proofs.options.replace_options.Given as goal

-- the options before this place are done, and the others are as they were
abbrev pub invariant-loop-len : goal.invariant-loop-len
invariant-loop-len l = record {
  same : length l.options ≡ length l.initial.options;
  within : l.at ≤ length l.options;
  walked : take l.at l.options ++ later_options (drop l.at l.options) ≡ later_options l.initial.options;
}

abbrev pub decreases-loop-len : goal.decreases-loop-len
decreases-loop-len l = length l.options - l.at
