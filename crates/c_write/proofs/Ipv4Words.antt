-- The words of an IPv4 header.
use Rattle.std.proofs.Common.{ℕ, ◌≡◌, ◌∙◌, ◌+◌, ◌*◌, ◌-◌, ◌/◌, ◌%◌, ◌<◌, ◌≤◌, Bool, true, false, List, [], ◌∷◌, ◌++◌, flat_map, length, slice_index, slice_set, take, refl, sym, ap, append-nil, arith}
use Rattle.std.proofs.lemmas.List.{take_all}
use Rattle.std.proofs.lemmas.Nat.{be_bytes_4}
use Rattle.byteorder.specs.Endian.{big_bytes, big_from}
use Rattle.ip_wire.specs.Field.{with_field, with_part}
use Rattle.ip_wire.specs.Ipv4.{bytes_of, with_checksum}
use Rattle.ip_wire.specs.Protocol.{number_of}
use Rattle.ip_wire.specs.declared.Ipv4Repr.{Ipv4Repr}
use Rattle.c_write.proofs.Spelled.{quad}
use Rattle.c_write.specs.Headers.{is_yes, with_ipv4_fields}
use Rattle.c_structs.specs.Written.{flag}
use Rattle.c_structs.specs.declared.types.Ip.{Ip}
use Rattle.wire_addr.proofs.Numbers.{from_be_bytes_4}
use Rattle.wire_addr.specs.Bytes.{IsByteArray}
use Rattle.wire_addr.specs.Prefix as address
use Rattle.wire_checksum.specs.WordSum.{sum_of_bytes}

-- the big-endian bytes of an address's number
address-bytes : (n : ℕ) (octets : List ℕ) → n ≡ address.number_of octets → IsByteArray 4 octets → big_bytes 4 n ≡ octets
address-bytes n octets is are = be_bytes_4 octets n are.0 are.1 (is ∙ sym (from_be_bytes_4 octets are.0))

flag-small : (b : Bool) → flag b < 2
flag-small true = omega arith
flag-small false = omega arith

joined : (a b c d e p q r s t : List ℕ) → a ≡ p → b ≡ q → c ≡ r → d ≡ s → e ≡ t → a ++ (b ++ (c ++ (d ++ (e ++ [])))) ≡ p ++ (q ++ (r ++ (s ++ t)))
joined a b c d e p q r s t i j k l m = rw (i, j, k, l, m) (ap (λ x. p ++ (q ++ (r ++ (s ++ x)))) (append-nil t))

-- the words of a header with these fields
pub ipv4-words : (h : Ip) (v : Ipv4Repr) (w0 w1 w2 w3 w4 : ℕ)
    → h.dscp < 64 → h.ecn < 4 → h.ident < 65536 → h.fragment_offset < 65536 → v.payload_len < 65516 → v.hop_limit < 256 → number_of v.next_header < 256
    → w0 ≡ (17664 + (4 * h.dscp + h.ecn)) * 65536 + (20 + v.payload_len)
    → w1 ≡ h.ident * 65536 + flag (is_yes h.dont_fragment) * 16384 + flag (is_yes h.more_fragments) * 8192 + h.fragment_offset / 8
    → w2 ≡ v.hop_limit * 16777216 + number_of v.next_header * 65536
    → w3 ≡ address.number_of v.src_addr → IsByteArray 4 v.src_addr → w4 ≡ address.number_of v.dst_addr → IsByteArray 4 v.dst_addr
    → flat_map (big_bytes 4) (w0 ∷ w1 ∷ w2 ∷ w3 ∷ w4 ∷ []) ≡ with_ipv4_fields h (bytes_of v false)
ipv4-words h v w0 w1 w2 w3 w4 dscp ecn ident fragment payload hops protocol is0 is1 is2 is3 src is4 dst =
    let bytes = with_ipv4_fields h (bytes_of v false) in
    let first = flag-small (is_yes h.dont_fragment) in
    let second = flag-small (is_yes h.more_fragments) in
    let n = h.fragment_offset / 8 in
    let small : n < 8192 = omega (arith, fragment) in
    let service_is : slice_index bytes 1 ≡ 4 * h.dscp + h.ecn = omega (arith, dscp, ecn) in
    let high : slice_index bytes 6 ≡ 64 * flag (is_yes h.dont_fragment) + 32 * flag (is_yes h.more_fragments) + n / 256 = omega (arith, first, second, small) in
    let low : slice_index bytes 7 ≡ n % 256 = omega (arith, small) in
    let ident_high : slice_index bytes 4 ≡ h.ident / 256 = omega (arith, ident) in
    let ident_low : slice_index bytes 5 ≡ h.ident % 256 = omega arith in
    let len_high : slice_index bytes 2 ≡ (20 + v.payload_len) / 256 = omega (arith, payload) in
    joined (big_bytes 4 w0) (big_bytes 4 w1) (big_bytes 4 w2) (big_bytes 4 w3) (big_bytes 4 w4)
    (69 ∷ slice_index bytes 1 ∷ slice_index bytes 2 ∷ slice_index bytes 3 ∷ [])
    (slice_index bytes 4 ∷ slice_index bytes 5 ∷ slice_index bytes 6 ∷ slice_index bytes 7 ∷ [])
    (v.hop_limit ∷ number_of v.next_header ∷ 0 ∷ 0 ∷ []) v.src_addr v.dst_addr
    (rw (service_is, len_high) (quad 69 (4 * h.dscp + h.ecn) ((20 + v.payload_len) / 256) ((20 + v.payload_len) % 256) w0
    (omega arith) (omega (arith, dscp, ecn)) (omega (arith, payload)) (omega arith) (omega (arith, is0))))
    (rw (ident_high, ident_low, high, low) (quad (h.ident / 256) (h.ident % 256) (64 * flag (is_yes h.dont_fragment) + 32 * flag (is_yes h.more_fragments) + n / 256) (n % 256) w1
    (omega (arith, ident)) (omega arith) (omega (arith, first, second, small)) (omega arith) (omega (arith, is1))))
    (quad v.hop_limit (number_of v.next_header) 0 0 w2 hops protocol (omega arith) (omega arith) (omega (arith, is2)))
    (address-bytes w3 v.src_addr is3 src) (address-bytes w4 v.dst_addr is4 dst)

-- the checksum in the low half of the third word
pub with-checksum : (words : List ℕ) (checksum : ℕ) → length words ≡ 5 → slice_index words 2 % 65536 ≡ 0 → checksum < 65536
    → flat_map (big_bytes 4) (slice_set words 2 (slice_index words 2 + checksum)) ≡ with_field (flat_map (big_bytes 4) words) 80 16 checksum
with-checksum (a ∷ b ∷ c ∷ d ∷ e ∷ []) x size low fits =
    let n = big_from 10 2 (flat_map (big_bytes 4) (a ∷ b ∷ c ∷ d ∷ e ∷ [])) in
    let first : (c + x) / 16777216 % 256 ≡ c / 16777216 % 256 = omega (arith, low, fits) in
    let second : (c + x) / 65536 % 256 ≡ c / 65536 % 256 = omega (arith, low, fits) in
    let third : (c + x) / 256 % 256 ≡ with_part n 0 16 x / 256 % 256 = omega (arith, low, fits) in
    let last : (c + x) % 256 ≡ with_part n 0 16 x % 256 = omega (arith, low, fits) in
    rw (first, second, third, last) refl
with-checksum [] x size low fits = absurd (omega arith)
with-checksum (a ∷ []) x size low fits = absurd (omega arith)
with-checksum (a ∷ b ∷ []) x size low fits = absurd (omega arith)
with-checksum (a ∷ b ∷ c ∷ []) x size low fits = absurd (omega arith)
with-checksum (a ∷ b ∷ c ∷ d ∷ []) x size low fits = absurd (omega arith)
with-checksum (a ∷ b ∷ c ∷ d ∷ e ∷ f ∷ more) x size low fits = absurd (omega arith)

-- a header of 20 bytes with the complement of its sum has its checksum
pub ipv4-checksum : (h : Ip) (v : Ipv4Repr) → length (with_ipv4_fields h (bytes_of v false)) ≡ 20
    → with_field (with_ipv4_fields h (bytes_of v false)) 80 16 (65535 - sum_of_bytes (with_ipv4_fields h (bytes_of v false)))
    ≡ with_checksum (with_ipv4_fields h (bytes_of v false))
ipv4-checksum h v size =
    let bytes = with_ipv4_fields h (bytes_of v false) in
    let long : length (v.src_addr ++ v.dst_addr) ≤ 8 = omega (arith, size) in
    let whole : take 20 bytes ≡ bytes = ap (λ rest. take 12 bytes ++ rest) (take_all 8 (v.src_addr ++ v.dst_addr) long) in
    ap (λ l. with_field bytes 80 16 (65535 - sum_of_bytes l)) (sym whole)
