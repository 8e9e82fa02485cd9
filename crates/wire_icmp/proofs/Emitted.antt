-- What `emit` writes.
use Rattle.std.proofs.Common.{ℕ, ◌≡◌, List, ◌∷◌, ◌++◌, length, slice_set, take, refl}
use borrow.Rule.Slice.PartMut.{put_mid}
use Rattle.net_base.proofs.Cells.{cells-all}

-- the target, the type and length of an option, and its address
pub body_written : (type : ℕ) (target address front six rest others : List ℕ) → length target ≡ 16 → length address ≡ 6 → length rest ≡ 8
    → front ≡ target ++ rest → six ≡ address ++ others
    → take 24 (put_mid 18 6 (slice_set (slice_set front 16 type) 17 1) six) ≡ target ++ type ∷ 1 ∷ address
body_written type target address front six rest others sixteen six_long eight one two =
    rw (two, one, cells-all 16 target sixteen, cells-all 6 address six_long, cells-all 8 rest eight) refl
