-- A reader that answers what bytes are read as, and the value that is computed of them.
use Rattle.std.proofs.Common.{ℕ, ◌≡◌, ◌↔◌, ◌==◌, Bool, true, IsTrue, Option, Some, None, Result, Ok, Err, refl, arith}
use Rattle.std.specs.Option.{option_map}
use Rattle.std.specs.Result.{result_ok}

-- a reader's answer is the computed value, if there is one
pub answer_computed : {V E : Type 0} (Reads : V → Type 0) (answer : Result V E) (computed : Option V)
    → ((v : V) → (answer ≡ Ok v) ↔ Reads v) → ((v : V) → (computed ≡ Some v) ↔ Reads v)
    → computed ≡ result_ok answer
answer_computed Reads (Ok v) computed reads is = (is v).1 ((reads v).0 refl)
answer_computed Reads (Err e) None reads is = refl
answer_computed Reads (Err e) (Some v) reads is = let no : Err e ≡ Ok v = (reads v).1 ((is v).0 refl) in absurd (cc)

-- an option that has no value is none
pub none_of : {A : Type 0} (o : Option A) → ((a : A) → ¬ (o ≡ Some a)) → o ≡ None
none_of o h = grind arith

-- a mapped option that has a value has it of one
pub option_map-Some : {M N : Type 0} (f : M → N) (o : Option M) (n : N) → option_map f o ≡ Some n → (m : M) × (o ≡ Some m) × (f m ≡ n)
option_map-Some f o n e = grind arith

-- a choice that gives a value
pub if-Some : {V : Type 0} (b : Bool) (v w : V) → (Rattle.std.specs.Prelude.if◌then◌else◌ b (Some v) None ≡ Some w) ↔ ((b ≡ true) × (v ≡ w))
if-Some b v w = grind arith

-- a flag that is set as a field says is the field's test
pub flag_test : (flag : Bool) (n : ℕ) → IsTrue flag ↔ (n ≡ 1) → flag ≡ (n == 1)
flag_test flag n h = grind arith
