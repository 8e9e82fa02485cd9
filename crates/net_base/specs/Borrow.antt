-- What a mutable view leaves in the slice that it borrows.
-- Pinned by: `wire/nested`, `wire/arp`, `wire/ipv6fragment`
use Rattle.std.specs.Prelude.{ℕ, ◌≡◌, ◌↔◌, IsTrue, List, Result, length}
use Rattle.std.specs.Borrow.{MutBor, Fml, Lends, RestsIfErr, Array, u8}
use Rattle.net_base.specs.Field.{with_range}
use Rattle.net_base.specs.declared.checked.Checked.{Checked}
use Rattle.net_base.specs.declared.located.Located.{Located}

-- The new slice is the same borrow as the old one, so its owner sees what is written to it. It has the same length
-- and now holds these bytes.
pub record Holds (old new : MutBor (List ℕ)) (bytes : List ℕ) : Type 0 where
  pub same_borrow : new.ghost_name ≡ old.ghost_name
  pub same_length : length new.now ≡ length old.now
  pub holds : new.now ≡ bytes

-- The bytes of a slice from first up to last are borrowed on. At the end of that borrow the slice has the bytes that
-- were written to them, and its other bytes are unchanged.
abbrev pub BorrowsPart : MutBor (List ℕ) → ℕ → ℕ → MutBor (List ℕ) → Fml
BorrowsPart bytes first last part = Lends (Array u8 0) (Array u8 0) bytes part (with_range bytes.now first last)

-- The located part is the bytes of this slice from first up to last. The borrow is still the same, and its bytes are
-- unchanged.
pub record Locates (bytes : MutBor (List ℕ)) (first last : ℕ) (located : Located) : Type 0 where
  pub same_borrow : located.bytes.ghost_name ≡ bytes.ghost_name
  pub same_bytes : located.bytes.now ≡ bytes.now
  pub start : located.start ≡ first
  pub end : located.end ≡ last

-- The result says whether the bytes of a slice pass a check: `ok` is true exactly if φ holds. The borrow is still the
-- same, and its bytes are unchanged.
pub record Checks (bytes : MutBor (List ℕ)) (φ : Type 0) (checked : Checked) : Type 0 where
  pub same_borrow : checked.bytes.ghost_name ≡ bytes.ghost_name
  pub same_bytes : checked.bytes.now ≡ bytes.now
  pub ok : IsTrue checked.ok ↔ φ

-- An error leaves the slice unchanged. A view borrows it as `slice view`, and the slice ends with the bytes that were
-- last written through the view.
abbrev pub StaysIfErr : {V E : Type 0} → MutBor (List ℕ) → (V → MutBor (List ℕ)) → Result V E → Fml
StaysIfErr bytes slice r = RestsIfErr (Array u8 0) bytes (λ view. (slice view).ghost_name) r (λ last. last ≡ bytes.now)
