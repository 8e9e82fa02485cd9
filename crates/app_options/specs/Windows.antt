-- Windows in headers (RFC 7323, section 2), in bytes.
-- Pinned by: `options/windows`
use Rattle.std.specs.Prelude.{ℕ, zero, suc, ◌≤◌, ◌<◌, ◌+◌, ◌*◌, ◌/◌, ◌^◌, nat_lt, if◌then◌else◌, min}

-- How often a size is halved, at most n times, until 16 bits hold it.
unfoldable pub halvings : ℕ → ℕ → ℕ
halvings zero size = 0
halvings (suc n) size = if nat_lt size 65536 then 0 else 1 + halvings n (size / 2)

-- the shift count for windows of up to a size; the largest one is 14 (section 2.3)
unfoldable pub scale_of : ℕ → ℕ
scale_of size = halvings 14 size

-- What that means: it is at most 14, it is enough unless it is 14, and each smaller one is not.
pub record IsScale (size scale : ℕ) : Type 0 where
  pub most : scale ≤ 14
  pub enough : scale < 14 → size < 65536 * 2 ^ scale
  pub least : (smaller : ℕ) → smaller < scale → 65536 * 2 ^ smaller ≤ size

-- The field for a window (section 2.3: SND.WND >> scale). What 16 bits do not hold is told as 65535.
abbrev pub field_of : ℕ → ℕ → ℕ
field_of scale window = min 65535 (window / 2 ^ scale)

-- the window of a field (section 2.3: SEG.WND << scale)
abbrev pub window_of : ℕ → ℕ → ℕ
window_of scale field = min 65535 field * 2 ^ scale
