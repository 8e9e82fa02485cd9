use Rattle.std.proofs.Common.{◌≡◌, ◌≤◌, length, take}
use Rattle.std.specs.Str.Parse.{AllDigits, digits_value}
use Rattle.wire_addr.proofs.number_text.first_number.Given as goal

abbrev pub invariant-loop-len : goal.invariant-loop-len
invariant-loop-len l = record {
  within : l.len ≤ length l.text;
  digits : AllDigits l.radix (take l.len l.text);
  value : l.value ≡ digits_value l.radix (take l.len l.text);
}
