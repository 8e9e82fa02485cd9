-- The segments of std's IPv6 addresses, and their bytes.
use Rattle.std.proofs.Common.{ℕ, ◌≡◌, ◌*◌, ◌+◌, ◌-◌, ◌/◌, ◌%◌, ◌^◌, ◌<◌, List, [], ◌∷◌, suc, length, get_or, refl, arith}
use Rattle.std.specs.Net.Addr.{octets_of, segments_of}

-- two bytes for each segment convert back to the segments
pub octets_of-segments_of : (n : ℕ) (octets : List ℕ) → length octets ≡ 2 * n → ((k : ℕ) → get_or octets k 0 < 2 ^ 8)
    → octets_of (segments_of octets) ≡ octets
octets_of-segments_of n [] even small = refl
octets_of-segments_of n (a ∷ []) even small = absurd (omega arith)
octets_of-segments_of n (a ∷ b ∷ octets) even small =
    let below : b < 256 = small 1 in
    let high : (a * 256 + b) / 256 ≡ a = omega arith in
    let low : (a * 256 + b) % 256 ≡ b = omega arith in
    λ i. high i ∷ low i ∷ octets_of-segments_of (n - 1) octets (omega arith) (λ k. small (suc (suc k))) i
