-- Two tests of the same fact.
use Rattle.std.proofs.Common.{◌≡◌, ◌≢◌, ◌↔◌, ℕ, zero, suc, Bool, true, false, IsTrue, List, refl, sym, subst, ap, nat_eq, arith, ◌%◌, ◌/◌}
use Rattle.std.proofs.lemmas.Bool.{false≢true}
use Rattle.std.proofs.lemmas.Bool.Decides.{same_from_decides}
use Rattle.std.specs.Int.Bits.{bit_and}
use Rattle.std.proofs.lemmas.Nat.Bits.{and_pow}
use Rattle.std.specs.Prelude.{None, Option, Some}
use Rattle.ip_wire.specs.Block.{Block, IsIn}

-- two tests of one block have one result
pub same_block : (x y : Block) (address : List ℕ) (a b : Bool) → y ≡ x → (IsTrue a ↔ IsIn x address) → (IsTrue b ↔ IsIn y address) → a ≡ b
same_block x y address a b e is_a is_b = same_from_decides a b is_a (subst (λ z. IsTrue b ↔ IsIn z address) e is_b)

-- a test whether a number is not 0, and whether it makes 1
bit_test : (m x : ℕ) (r : Bool) → (IsTrue r ↔ m ≢ 0) → (m ≡ 0 → x ≡ 0) → (m ≢ 0 → x ≡ 1) → r ≡ nat_eq x 1
bit_test m x true is none some = sym (ap (λ y. nat_eq y 1) (some (is.0 refl)))
bit_test zero x false is none some = sym (ap (λ y. nat_eq y 1) (none refl))
bit_test (suc m) x false is none some = absurd (false≢true (is.1 (λ e. let no : ⊥ = omega arith in no)))

-- the lowest bit
pub lowest_bit : (n : ℕ) (r : Bool) → (IsTrue r ↔ bit_and n 1 ≢ 0) → r ≡ nat_eq (n % 2) 1
lowest_bit n r is = bit_test (bit_and n 1) (n % 2) r is (λ e. omega (arith, and_pow n 0, e)) (λ e. omega (arith, and_pow n 0, e))

-- the bit above the lowest
pub second_bit : (n : ℕ) (r : Bool) → (IsTrue r ↔ bit_and n 2 ≢ 0) → r ≡ nat_eq (n / 2 % 2) 1
second_bit n r is = bit_test (bit_and n 2) (n / 2 % 2) r is (λ e. omega (arith, and_pow n 1, e)) (λ e. omega (arith, and_pow n 1, e))

-- two answers that name one number exactly where it has a property are the same
pub same_option : {P : ℕ → Type 0} (a b : Option ℕ) → ((n : ℕ) → (a ≡ Some n) ↔ P n) → ((n : ℕ) → (b ≡ Some n) ↔ P n) → a ≡ b
same_option None None is_a is_b = refl
same_option (Some n) b is_a is_b = sym ((is_b n).1 ((is_a n).0 refl))
same_option None (Some n) is_a is_b = (is_a n).1 ((is_b n).0 refl)
