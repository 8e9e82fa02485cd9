use Rattle.std.proofs.Common.{◌≡◌, ℕ, ◌<◌, List, Some, length, arith, ◌∙◌, slice_index, inl, inr}
use Rattle.std.proofs.Math.ListN.{replicate, set}
use Rattle.std.proofs.lemmas.List.{get_or-replicate, get_or-set_same, get_or-set_other, length-set, length-replicate}
use Rattle.std.proofs.lemmas.Bool.{cases_eq}
use Rattle.hex.specs.Hex.{hex_digit_value}
use Rattle.hex_digits.proofs.Digits.new.Goals as goal

pub bytes-init : goal.bytes-init
bytes-init c = (
  length-replicate {A = ℕ} 256 255,
  λ d small digit.
      let e : slice_index (replicate 256 255) d ≡ 255 = get_or-replicate 256 d 255 0 small in
      absurd (omega (arith, e, digit)),
)

-- the table stays right where a value of its byte is written
kept : (values : List ℕ) (k v : ℕ) → k < length values → (v < 16 → hex_digit_value k ≡ Some v)
    → ((d : ℕ) → d < 256 → slice_index values d < 16 → hex_digit_value d ≡ Some (slice_index values d))
    → (d : ℕ) → d < 256 → slice_index (set values k v) d < 16 → hex_digit_value d ≡ Some (slice_index (set values k v) d)
kept values k v fits is before d small digit = elim (cases_eq d k) [
  | inl same ↦
      let e : slice_index (set values k v) d ≡ v = rw same (get_or-set_same values k v 0 fits) in
      rw (e, same) (is (rw e at digit))
  | inr other ↦
      let e : slice_index (set values k v) d ≡ slice_index values d = get_or-set_other values k d v 0 other in
      rw e (before d small (rw e at digit))
]

pub bytes-preserved : goal.bytes-preserved
bytes-preserved c =
    let values = c.bytes.values in
    let fits : length values ≡ 256 = c.bytes.invariant.0 in (
      length-set values c.bytes.i _ ∙ fits,
      kept values c.bytes.i _ (omega (arith, fits)) c.value.ensures c.bytes.invariant.1,
    )
