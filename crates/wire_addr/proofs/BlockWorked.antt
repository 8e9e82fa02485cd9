-- Block texts that the definitions exclude: their prefix lengths have too many digits, or are too large.
use Rattle.std.proofs.Common.{ℕ, ◌≡◌, ◌<◌, ◌⊎◌, List, ◌∷◌, ◌++◌, Some, ap, arith, codes, inl, inr, length, lit≤, refl}
use Rattle.wire_addr.specs.Block.{Block}
use Rattle.wire_addr.specs.BlockText.{ReadsIpv4Block, ReadsIpv6Block}
use Rattle.wire_addr.specs.Ending.{EndsInNumber}
use Rattle.wire_addr.specs.Reading.{number_of}
use Rattle.wire_addr.proofs.Endings.{ends_once, ends_wider, length_is}
use Rattle.wire_addr.proofs.NumberTexts.{number_sound}

wrong_end : (places most : ℕ) (front digits other : List ℕ) (n m : ℕ) → places < 6 → most < 65536 → number_of 10 5 65535 digits ≡ Some n
    → (places < length digits) ⊎ (most < n) → ¬ (EndsInNumber 47 places most (front ++ 47 ∷ digits) other m)
wrong_end places most front digits other n m few low e wrong h =
    let text = front ++ 47 ∷ digits in
    let k : EndsInNumber 47 5 65535 text front n = record { digits = digits; spelled = refl; number = number_sound 10 5 65535 digits n e } in
    let wider = ends_wider 47 5 65535 (lit≤ tt) text other m places most (omega arith) (omega arith) h in
    let (same, value) = ends_once 47 5 65535 (lit≤ tt) text front other n m k wider in
    let long = length_is 47 5 65535 (lit≤ tt) text front n k in
    let size = length_is 47 places most (lit≤ tt) text other m h in
    elim wrong [
      | inl more ↦ omega (arith, ap length same, long, size, h.number.places_fit)
      | inr more ↦ omega (arith, value, h.number.fits)
    ]

ipv4-third_digit : (block : Block) → ¬ (ReadsIpv4Block (codes "1.2.3.4/032") block)
unfolding number_of
ipv4-third_digit block h = wrong_end 2 32 (codes "1.2.3.4") (codes "032") h.address_text 32 block.prefix_len (lit≤ tt) (lit≤ tt) refl (inl (lit≤ tt)) h.prefix_len

ipv4-past_32 : (block : Block) → ¬ (ReadsIpv4Block (codes "127.0.0.1/33") block)
unfolding number_of
ipv4-past_32 block h = wrong_end 2 32 (codes "127.0.0.1") (codes "33") h.address_text 33 block.prefix_len (lit≤ tt) (lit≤ tt) refl (inr (lit≤ tt)) h.prefix_len

ipv6-fourth_digit : (block : Block) → ¬ (ReadsIpv6Block (codes "::1/0128") block)
unfolding number_of
ipv6-fourth_digit block h = wrong_end 3 128 (codes "::1") (codes "0128") h.address_text 128 block.prefix_len (lit≤ tt) (lit≤ tt) refl (inl (lit≤ tt)) h.prefix_len

ipv6-past_128 : (block : Block) → ¬ (ReadsIpv6Block (codes "::1/129") block)
unfolding number_of
ipv6-past_128 block h = wrong_end 3 128 (codes "::1") (codes "129") h.address_text 129 block.prefix_len (lit≤ tt) (lit≤ tt) refl (inr (lit≤ tt)) h.prefix_len
