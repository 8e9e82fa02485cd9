-- Bytes, the groups that they make up, and their bits.
use Rattle.std.proofs.Common.{◌≡◌, ◌+◌, ◌-◌, ◌*◌, ◌/◌, ◌%◌, ◌<◌, ◌^◌, ◌∙◌, ℕ, suc, List, [], ◌∷◌, length, get_or, refl, sym, ap, arith}
use Rattle.std.proofs.NetLemmas.Arrays.{eight_items, sixteen_items}
use Rattle.std.specs.Int.{from_be_bytes, w128}
use Rattle.std.specs.Prelude.{slice_index}
pub use Rattle.ip_wire.proofs.Eui64.{xor_local, middle_of_six}
use Rattle.ip_wire.specs.Bytes.{groups_of, address_bytes}
use Rattle.ip_wire.specs.Prefix.{number_of}

-- the groups of the bytes of some groups are these groups
pub groups_back : (groups : List ℕ) → groups_of (address_bytes groups) ≡ groups
groups_back [] = refl
groups_back (g ∷ groups) =
    let one : g / 256 * 256 + g % 256 ≡ g = omega arith in
    let rest = groups_back groups in
    λ i. one i ∷ rest i

-- the bytes of eight groups, taken one by one
pub eight_groups : (g : List ℕ) → length g ≡ 8
    → address_bytes (get_or g 0 0 ∷ get_or g 1 0 ∷ get_or g 2 0 ∷ get_or g 3 0 ∷ get_or g 4 0 ∷ get_or g 5 0 ∷ get_or g 6 0 ∷ get_or g 7 0 ∷ []) ≡ address_bytes g
eight_groups g eight = sym (ap address_bytes (eight_items g eight))

-- sixteen bytes as a big-endian number
pub sixteen_bytes : (octets : List ℕ) → length octets ≡ 16 → number_of octets ≡ from_be_bytes w128 octets
sixteen_bytes octets sixteen = ap number_of (sixteen_items octets sixteen) ∙ omega arith

-- the bytes of the groups of some bytes are these bytes
pub bytes_back : (n : ℕ) (octets : List ℕ) → length octets ≡ 2 * n → ((k : ℕ) → slice_index octets k < 2 ^ 8) → address_bytes (groups_of octets) ≡ octets
bytes_back n [] len small = refl
bytes_back n (a ∷ []) len small = let no : ⊥ = omega arith in absurd no
bytes_back n (a ∷ b ∷ octets) len small =
    let below : b < 256 = small 1 in
    let high : (a * 256 + b) / 256 ≡ a = omega arith in
    let low : (a * 256 + b) % 256 ≡ b = omega arith in
    let rest = bytes_back (n - 1) octets (omega arith) (λ k. small (suc (suc k))) in
    λ i. high i ∷ low i ∷ rest i
