-- The addresses of a packet as numbers: what the laws over getters and setters need.
use Rattle.std.proofs.Common.{ℕ, ◌≡◌, ◌≤◌, ◌+◌, ◌*◌, List, length, slice_range, ap, ◌∙◌, arith}
use Rattle.std.proofs.lemmas.Grind.{common_steps}
use Rattle.byteorder.specs.Endian.{big_number}
use Rattle.net_base.specs.Field.{field, with_field, with_range}
use Rattle.net_base.proofs.Ranges.{range_field, range-number}
use Rattle.net_base.proofs.Spelled.{AreBytes}

-- an address that is written
pub address-written : (bytes a : List ℕ) (first last n place : ℕ) → AreBytes a → length a ≡ n → last ≡ first + n → place ≡ 8 * first
    → with_range bytes first last a ≡ with_field bytes place (8 * n) (big_number (length a) a)
address-written bytes a first last n place are long end is = rw (end, is, long) (range_field bytes a first n are long)

-- an address that is read
pub address_read : (bytes a : List ℕ) (first last n place : ℕ) → AreBytes bytes → a ≡ slice_range bytes first last → last ≤ length bytes → last ≡ first + n
    → place ≡ 8 * first → (length a ≡ n) × (big_number (length a) a ≡ field bytes place (8 * n))
address_read bytes a first last n place are read room end is =
    let size : length (slice_range bytes first (first + n)) ≡ n = grind (arith, common_steps) in
    let part : a ≡ slice_range bytes first (first + n) = rw (← end) read in
    let long : length a ≡ n = ap length part ∙ size in
    (long, rw (long, is, part) (range-number bytes first n are))
