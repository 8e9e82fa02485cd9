-- Where the fragments of successive numbers begin.
use Rattle.std.proofs.Common.{ℕ, zero, suc, ◌≡◌, ◌≢◌, ◌≤◌, ◌<◌, ◌+◌, ◌-◌, ◌*◌, ◌/◌, ◌%◌, ◌⊎◌, inr, inl, Bool, true, false, cond, nat_le, nat_lt, None, Option, Some, refl, ap, sym, ◌∙◌, arith}
use Rattle.std.proofs.lemmas.Bool.Decides.{nat_tests}
use Rattle.std.proofs.lemmas.Option.{none-some, same_Some}
use Rattle.std.specs.Option.{option_and_then}
use Rattle.app_fragment.specs.Fragments.{numbered_place, place_after}

-- a payload that fits is its only fragment
numbered-all : (room len n : ℕ) → len ≤ room → numbered_place room len (suc n) ≡ None
numbered-all room len zero fits = grind (arith, nat_tests, fits)
numbered-all room len (suc n) fits = ap (option_and_then (place_after room len)) (numbered-all room len n fits)

-- the place after that of a fragment which is not the last
step : (room len c k : ℕ) → c ≡ room / 8 * 8 → room < len
    → option_and_then (place_after room len) (cond (nat_lt (k + room) len) (Some (k + c)) None) ≡ cond (nat_lt (k + c + room) len) (Some (k + c + c)) None
step room len c k is long = by (nat_lt (k + room) len) refl
  where
    by : (b : Bool) → nat_lt (k + room) len ≡ b → option_and_then (place_after room len) (cond b (Some (k + c)) None) ≡ cond (nat_lt (k + c + room) len) (Some (k + c + c)) None
    by true e = grind (arith, nat_tests, e, is)
    by false e = grind (arith, nat_tests, e)

numbered-later : (room len n : ℕ) → room < len
    → numbered_place room len (suc n) ≡ cond (nat_lt (n * (room / 8 * 8) + room) len) (Some (n * (room / 8 * 8) + room / 8 * 8)) None
numbered-later room len zero long = grind (arith, nat_tests, long)
numbered-later room len (suc n) long =
    let c = room / 8 * 8 in
    let next : n * (room / 8 * 8) + room / 8 * 8 ≡ suc n * (room / 8 * 8) = omega arith in
    ap (option_and_then (place_after room len)) (numbered-later room len n long) ∙ step room len (room / 8 * 8) (n * (room / 8 * 8)) refl long
    ∙ ap (λ m. cond (nat_lt (m + room) len) (Some (m + c)) None) next

-- all fragments but the last have the same length
pub numbered-is : (room len number before : ℕ) → number ≢ 0 → before ≡ (number - 1) * (room / 8 * 8)
    → numbered_place room len number ≡ cond (nat_le (len - before) room) None (Some (before + room / 8 * 8))
numbered-is room len zero before some is = absurd (some refl)
numbered-is room len (suc n) before some is = by (nat_le len room) refl
  where
    earlier : n * (room / 8 * 8) ≡ before
    earlier = ap (λ k. k * (room / 8 * 8)) (omega arith) ∙ sym is

    by : (b : Bool) → nat_le len room ≡ b → numbered_place room len (suc n) ≡ cond (nat_le (len - before) room) None (Some (before + room / 8 * 8))
    by true e =
        let fits : len ≤ room = grind (arith, nat_tests, e) in
        let last : nat_le (len - before) room ≡ true = grind (arith, nat_tests, fits) in
        numbered-all room len n fits ∙ sym (ap (λ t. cond t None (Some (before + room / 8 * 8))) last)
    by false e =
        let long : room < len = grind (arith, nat_tests, e) in
        numbered-later room len n long ∙ ap (λ m. cond (nat_lt (m + room) len) (Some (m + room / 8 * 8)) None) earlier
        ∙ same
      where
        same : cond (nat_lt (before + room) len) (Some (before + room / 8 * 8)) None ≡ cond (nat_le (len - before) room) None (Some (before + room / 8 * 8))
        same = grind (arith, nat_tests)

-- a payload that fits begins at its beginning
pub numbered-only : (room len number at : ℕ) → len ≤ room → numbered_place room len number ≡ Some at → at ≡ 0
numbered-only room len zero at fits is = sym (same_Some 0 at is)
numbered-only room len (suc n) at fits is = absurd (none-some at (sym (numbered-all room len n fits) ∙ is))

-- it begins at a multiple of 8 in the payload, or at its beginning
pub numbered-begins : (room len number at : ℕ) → numbered_place room len number ≡ Some at → (at % 8 ≡ 0) × ((at < len) ⊎ (at ≡ 0))
numbered-begins room len zero at is = let first : at ≡ 0 = sym (same_Some 0 at is) in (omega (arith, first), inr first)
numbered-begins room len (suc n) at is = by (numbered_place room len n) (numbered-begins room len n) is
  where
    place : (before : ℕ) → before % 8 ≡ 0 → place_after room len before ≡ Some at → (at % 8 ≡ 0) × ((at < len) ⊎ (at ≡ 0))
    place before multiple e = all (nat_le (len - before) room) refl e
      where
        all : (b : Bool) → nat_le (len - before) room ≡ b
            → cond (nat_lt (before + cond b (len - before) (room / 8 * 8)) len) (Some (before + cond b (len - before) (room / 8 * 8))) None ≡ Some at
            → (at % 8 ≡ 0) × ((at < len) ⊎ (at ≡ 0))
        all true fits some = absurd (grind (arith, nat_tests, some))
        all false fits some =
            let (low, end) : (before + room / 8 * 8 < len) × (before + room / 8 * 8 ≡ at) = (grind (arith, nat_tests, some), grind (arith, nat_tests, some)) in
            (omega (arith, multiple, end), inl (omega (arith, low, end)))

    by : (o : Option ℕ) → ((p : ℕ) → o ≡ Some p → (p % 8 ≡ 0) × ((p < len) ⊎ (p ≡ 0))) → option_and_then (place_after room len) o ≡ Some at → (at % 8 ≡ 0) × ((at < len) ⊎ (at ≡ 0))
    by None earlier e = absurd (none-some at e)
    by (Some before) earlier e = place before (earlier before refl).0 e

-- none begins so far in
pub numbered-far : (room len number : ℕ) → number ≢ 0 → len ≤ (number - 1) * (room / 8 * 8) → numbered_place room len number ≡ None
numbered-far room len number some far =
    let last : nat_le (len - (number - 1) * (room / 8 * 8)) room ≡ true = grind (arith, nat_tests, far) in
    numbered-is room len number ((number - 1) * (room / 8 * 8)) some refl
    ∙ ap (λ t. cond t None (Some ((number - 1) * (room / 8 * 8) + room / 8 * 8))) last
