-- The bytes of a number, from the bytes that spell it.
use Rattle.std.proofs.Common.{ℕ, ◌≡◌, ◌+◌, ◌*◌, ◌/◌, ◌%◌, ◌<◌, [], ◌∷◌, refl, arith}
use Rattle.byteorder.specs.Endian.{big_bytes}

-- the bytes of a number that two bytes spell
pub pair : (a b n : ℕ) → a < 256 → b < 256 → n ≡ 256 * a + b → big_bytes 2 n ≡ a ∷ b ∷ []
pair a b n fits_a fits_b is =
    let high : n / 256 % 256 ≡ a = omega (arith, is, fits_a, fits_b) in
    let low : n % 256 ≡ b = omega (arith, is, fits_a, fits_b) in
    rw (high, low) refl

-- the bytes of a number that four bytes spell
pub quad : (a b c d n : ℕ) → a < 256 → b < 256 → c < 256 → d < 256 → n ≡ 16777216 * a + 65536 * b + 256 * c + d → big_bytes 4 n ≡ a ∷ b ∷ c ∷ d ∷ []
quad a b c d n fits_a fits_b fits_c fits_d is = grind (arith, fits_a, fits_b, fits_c, fits_d, is)

-- the bytes of a number that eight bytes spell
pub octuple : (a b c d e f g h n : ℕ) → a < 256 → b < 256 → c < 256 → d < 256 → e < 256 → f < 256 → g < 256 → h < 256
    → n ≡ 72057594037927936 * a + 281474976710656 * b + 1099511627776 * c + 4294967296 * d + 16777216 * e + 65536 * f + 256 * g + h
    → big_bytes 8 n ≡ a ∷ b ∷ c ∷ d ∷ e ∷ f ∷ g ∷ h ∷ []
octuple a b c d e f g h n i j k l m o p q is =
    let a_is : n / 72057594037927936 % 256 ≡ a = omega (arith, i, j, k, l, m, o, p, q, is) in
    let b_is : n / 281474976710656 % 256 ≡ b = omega (arith, i, j, k, l, m, o, p, q, is) in
    let c_is : n / 1099511627776 % 256 ≡ c = omega (arith, i, j, k, l, m, o, p, q, is) in
    let d_is : n / 4294967296 % 256 ≡ d = omega (arith, i, j, k, l, m, o, p, q, is) in
    let e_is : n / 16777216 % 256 ≡ e = omega (arith, i, j, k, l, m, o, p, q, is) in
    let f_is : n / 65536 % 256 ≡ f = omega (arith, i, j, k, l, m, o, p, q, is) in
    let g_is : n / 256 % 256 ≡ g = omega (arith, i, j, k, l, m, o, p, q, is) in
    let h_is : n % 256 ≡ h = omega (arith, i, j, k, l, m, o, p, q, is) in
    rw (a_is, b_is, c_is, d_is, e_is, f_is, g_is, h_is) refl
