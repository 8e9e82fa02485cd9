-- Groups of two bytes.
use Rattle.std.proofs.Common.{◌≡◌, ◌+◌, ◌*◌, ◌<◌, ◌^◌, ◌/◌, ◌%◌, ◌∙◌, ℕ, suc, List, [], ◌∷◌, ◌++◌, refl, length, drop, slice_index, flat_map, arith, ap, sym, rules}
use Rattle.std.proofs.lemmas.Grind.{common_steps}
use Rattle.byteorder.specs.Endian.{IsRead, big_number, big_bytes}
use Rattle.wire_addr.specs.Bytes.{address_bytes, groups_of}

-- groups of two bytes each are those of the bytes that they were read from
pub read_groups : (octets groups : List ℕ) → length octets ≡ 2 * length groups → IsRead big_number 2 octets groups → groups ≡ groups_of octets
read_groups [] [] h r = refl
read_groups [] (g ∷ groups) h r = absurd (omega (arith, h))
read_groups (a ∷ []) [] h r = absurd (omega (arith, h))
read_groups (a ∷ []) (g ∷ groups) h r = absurd (omega (arith, h))
read_groups (a ∷ (b ∷ octets)) [] h r = absurd (omega (arith, h))
read_groups (a ∷ (b ∷ octets)) (g ∷ groups) h r =
    let lengths : length octets ≡ 2 * length groups = omega (arith, h) in
    let rest : IsRead big_number 2 octets groups = λ k small.
    let next : slice_index (g ∷ groups) (suc k) ≡ big_number 2 (drop (2 * suc k) (a ∷ b ∷ octets)) = r (suc k) (omega (arith, small)) in
    let twice : 2 * suc k ≡ suc (suc (2 * k)) = omega arith in
    next ∙ ap (λ n. big_number 2 (drop n (a ∷ b ∷ octets))) twice in
    let head : g ≡ big_number 2 (a ∷ b ∷ octets) = r 0 (omega arith) in
    let first : g ≡ a * 256 + b = omega (arith, head) in
    rw (first, read_groups octets groups lengths rest) refl

-- the bytes of groups
pub written_groups : (groups : List ℕ) → ((k : ℕ) → slice_index groups k < 2 ^ 16) → flat_map (big_bytes 2) groups ≡ address_bytes groups
written_groups [] h = refl
written_groups (g ∷ groups) h =
    let small : g < 65536 = h 0 in
    let high : g / 256 % 256 ≡ g / 256 = omega (arith, small) in
    rw (high, written_groups groups (λ k. h (suc k))) refl
