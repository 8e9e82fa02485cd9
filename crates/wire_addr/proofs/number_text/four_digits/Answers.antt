use Rattle.std.proofs.Common.{◌≡◌, ℕ, Bool, true, IfSome, rules, arith}
use Rattle.std.specs.Bool.{then_some}
use Rattle.wire_addr.proofs.NumberTexts.{four_read}
use Rattle.wire_addr.proofs.number_text.four_digits.Goals as goal

-- what a passed test shows
told : (P : ℕ → Type 0) (t : Bool) (v : ℕ) → (t ≡ true → P v) → IfSome (then_some t v) P
told P t v h = grind arith

pub returns : goal.returns
returns c = rw c.then_some.ensures (told _ _ _ λ all. four_read c.args.text.now _ _ _ _ (search rules) c.hex_digit-a.ensures c.hex_digit-b.ensures c.hex_digit-c.ensures c.hex_digit-d.ensures all)
