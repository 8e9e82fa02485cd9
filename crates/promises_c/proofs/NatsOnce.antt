-- A NAT with a table lets a frame through in one way, or rejects it for one reason.
use Rattle.std.proofs.Common.{ℕ, ℤ, pos, ◌≡◌, ◌∙◌, ◌<◌, ◌≤◌, List, inl, inr, length, ap, subst, subst₂, sym}
use Rattle.std.proofs.lemmas.Bool.{cases_lt}
use Rattle.app_nat.proofs.FlowsOnce.{in-once, in-unkept, inside-once, out-once, out-unkept, outside-once}
use Rattle.app_nat.specs.Flows.{ComesIn, GoesOut, IsKeptInside, IsKeptOutside}
use Rattle.app_nat.specs.Table.{IsTable}
use Rattle.app_nat.specs.declared.Mapping.{Mapping}
use Rattle.app_nat.specs.declared.Nat.{Nat}
use Rattle.app_nat.specs.declared.Rejection.{Rejection}
use Rattle.c_routing.proofs.Tables.{in_bounds-itself}
use Rattle.c_routing.specs.Lengths.{in_bounds}
use Rattle.c_routing.specs.Nat.{TranslatesIn, TranslatesOut}
use Rattle.c_routing.specs.Rejections.{of_nat, rejection_code}
use Rattle.c_structs.proofs.Filled.{within-is}
use Rattle.c_structs.specs.Written.{max_len, within}

-- ---- what C gets for a frame that goes out

pub record IsSame (new other : List Mapping) (after next : List ℕ) (a b : ℤ) : Type 0 where
  pub returned : a ≡ b
  pub table : new ≡ other
  pub frame : after ≡ next

out-usable : (nat : Nat) (old new : List Mapping) (now : ℕ) (before after : List ℕ) (r : Rejection) → IsTable nat old now → length old ≤ max_len
    → length before ≤ max_len → GoesOut nat old new now before after → ¬ IsKeptInside nat (in_bounds old) now (within before) r
out-usable nat old new now before after r table fits short out why =
    out-unkept nat old new now before after r table out (subst₂ (λ l b. IsKeptInside nat l now b r) (in_bounds-itself old fits) (within-is before short) why)

pub out_once : (nat : Nat) (old new other : List Mapping) (now : ℕ) (before after next : List ℕ) (a b : ℤ) → IsTable nat old now
    → TranslatesOut nat old new now before after a → TranslatesOut nat old other now before next b → IsSame new other after next a b
out_once nat old new other now before after next a b table (inl (zero, usable, out)) (inl (also, too, again)) =
    let same = out-once nat old new other now before after next table out again in record { returned = zero ∙ sym also; table = same.0; frame = same.1 }
out_once nat old new other now before after next a b table (inl (zero, usable, out)) (inr (r, is, why, stays, kept)) =
    absurd (out-usable nat old new now before after r table usable.short_table usable.short_frame out why)
out_once nat old new other now before after next a b table (inr (r, is, why, stays, kept)) (inl (zero, usable, out)) =
    absurd (out-usable nat old other now before next r table usable.short_table usable.short_frame out why)
out_once nat old new other now before after next a b table (inr (r, is, why, stays, kept)) (inr (s, also, cause, same, too)) =
    let one = inside-once nat (in_bounds old) now (within before) r s why cause in record {
      returned = is ∙ ap (λ x. pos (rejection_code (of_nat x))) one ∙ sym also;
      table = stays ∙ sym same;
      frame = kept ∙ sym too;
    }

-- ---- what C gets for a frame that comes in

in-usable : (nat : Nat) (old new other : List Mapping) (now : ℕ) (before after : List ℕ) (r : Rejection) → length old ≤ max_len → length other ≡ length old
    → length before ≤ max_len → ComesIn nat old new now before after → ¬ IsKeptOutside nat (in_bounds old) (in_bounds other) now (within before) r
in-usable nat old new other now before after r fits long short came why =
    in-unkept nat old new other now before after r came
    (subst₂ (λ l b. IsKeptOutside nat l other now b r) (in_bounds-itself old fits) (within-is before short)
    (subst (λ l. IsKeptOutside nat (in_bounds old) l now (within before) r) (in_bounds-itself other (subst (λ n. n ≤ max_len) (sym long) fits)) why))

same-table : (old new other : List Mapping) → length new ≡ length old → length other ≡ length old → (max_len < length old → new ≡ old)
    → (max_len < length old → other ≡ old) → in_bounds new ≡ in_bounds other → new ≡ other
same-table old new other long also stays too same = elim (cases_lt max_len (length old)) [
  | inl beyond ↦ stays beyond ∙ sym (too beyond)
  | inr fits ↦ sym (in_bounds-itself new (subst (λ n. n ≤ max_len) (sym long) fits)) ∙ same ∙ in_bounds-itself other (subst (λ n. n ≤ max_len) (sym also) fits)
]

pub in_once : (nat : Nat) (old new other : List Mapping) (now : ℕ) (before after next : List ℕ) (a b : ℤ) → length new ≡ length old → length other ≡ length old
    → (max_len < length old → new ≡ old) → (max_len < length old → other ≡ old) → TranslatesIn nat old new now before after a
    → TranslatesIn nat old other now before next b → IsSame new other after next a b
in_once nat old new other now before after next a b long wide stays too (inl (zero, usable, came)) (inl (also, _, again)) =
    let same = in-once nat old new other now before after next came again in record { returned = zero ∙ sym also; table = same.0; frame = same.1 }
in_once nat old new other now before after next a b long wide stays too (inl (zero, usable, came)) (inr (r, is, why, kept)) =
    absurd (in-usable nat old new other now before after r usable.short_table wide usable.short_frame came why)
in_once nat old new other now before after next a b long wide stays too (inr (r, is, why, kept)) (inl (zero, usable, came)) =
    absurd (in-usable nat old other new now before next r usable.short_table long usable.short_frame came why)
in_once nat old new other now before after next a b long wide stays too (inr (r, is, why, kept)) (inr (s, also, cause, same)) =
    let one = outside-once nat (in_bounds old) (in_bounds new) (in_bounds other) now (within before) r s why cause in record {
      returned = is ∙ ap (λ x. pos (rejection_code (of_nat x))) one.0 ∙ sym also;
      table = same-table old new other long wide stays too one.1;
      frame = kept ∙ sym same;
    }
