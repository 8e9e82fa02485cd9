-- Options, and what is read into them.
use Rattle.std.proofs.Common.{◌≡◌, ◌∙◌, Bool, IsSome, true, false, is_some, Option, Some, None, refl, sym, ap, if◌then◌else◌}
use Rattle.std.specs.Option.{option_and_then, option_map}
pub use Rattle.net_base.proofs.Readings.{none_of, option_map-Some}

-- a value that an option has
pub value : {A : Type 0} (o : Option A) → IsSome o → (a : A) × (o ≡ Some a)
value None h = absurd (cc)
value (Some a) h = (a, refl)

pub lacks : {A : Type 0} (o : Option A) → is_some o ≡ false → o ≡ None
lacks None e = refl
lacks (Some a) e = absurd (cc)

-- what is computed is one value
pub computed-one : {A : Type 0} (o : Option A) (a b : A) → o ≡ Some a → o ≡ Some b → a ≡ b
computed-one o a b e f = let same : Some a ≡ Some b = sym e ∙ f in cc

pub option_and_then-Some : {M N : Type 0} (f : M → Option N) (o : Option M) (n : N) → option_and_then f o ≡ Some n → (m : M) × (o ≡ Some m) × (f m ≡ Some n)
option_and_then-Some f None n e = absurd (cc)
option_and_then-Some f (Some m) n e = (m, refl, e)

-- a mapping that may be made in two ways
pub option_map-commutes : {A B C D : Type 0} (f : B → D) (g : A → B) (h : C → D) (k : A → C) → ((a : A) → f (g a) ≡ h (k a)) → (o : Option A)
    → option_map f (option_map g o) ≡ option_map h (option_map k o)
option_map-commutes f g h k same None = refl
option_map-commutes f g h k same (Some a) = ap Some (same a)

-- a choice that gives a value where the test fails
pub else-Some : {A : Type 0} (b : Bool) (o : Option A) (d : A) → (if b then None else o) ≡ Some d → (b ≡ false) × (o ≡ Some d)
else-Some b o d e = by b refl e
  where
    by : (c : Bool) → b ≡ c → (if c then None else o) ≡ Some d → (b ≡ false) × (o ≡ Some d)
    by true is e = absurd (cc)
    by false is e = (is, e)
