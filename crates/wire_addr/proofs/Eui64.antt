-- The modified EUI-64 of an Ethernet address.
use Rattle.std.proofs.Common.{◌≡◌, ℕ, List, [], ◌∷◌, ◌++◌, length, get_or, refl, ap, arith}
use Rattle.std.proofs.lemmas.Nat.Bits.{and_pow}
use Rattle.std.proofs.lemmas.Slice.Eq.{text_from_reads}
use Rattle.std.specs.Int.Bits.{bit_xor, xor_add_and}
use Rattle.std.specs.Prelude.{slice_range}
use Rattle.wire_addr.specs.Hardware.{with_local_inverted}

-- an array of six as its items
pub six_items : (octets : List ℕ) → length octets ≡ 6
    → octets ≡ get_or octets 0 0 ∷ get_or octets 1 0 ∷ get_or octets 2 0 ∷ get_or octets 3 0 ∷ get_or octets 4 0 ∷ get_or octets 5 0 ∷ []
six_items octets six = text_from_reads octets _ six (refl, (refl, (refl, (refl, (refl, (refl, tt))))))

-- the byte with its second bit inverted
pub xor_local : (octet : ℕ) → bit_xor octet 2 ≡ with_local_inverted octet
xor_local octet = omega (arith, xor_add_and octet 2, and_pow octet 1)

-- the bytes before the middle, except the first, and after it
pub middle_of_six : (octets : List ℕ) → length octets ≡ 6
    → slice_range octets 1 3 ++ 0xff ∷ 0xfe ∷ slice_range octets 3 6
    ≡ get_or octets 1 0 ∷ get_or octets 2 0 ∷ 0xff ∷ 0xfe ∷ get_or octets 3 0 ∷ get_or octets 4 0 ∷ get_or octets 5 0 ∷ []
middle_of_six octets six = ap (λ xs. slice_range xs 1 3 ++ 0xff ∷ 0xfe ∷ slice_range xs 3 6) (six_items octets six)
