-- The words of an IPv6 header.
use Rattle.std.proofs.Common.{ℕ, ◌≡◌, ◌∙◌, ◌+◌, ◌*◌, ◌/◌, ◌%◌, ◌<◌, ◌≤◌, List, [], ◌∷◌, ◌++◌, append-nil, append_assoc, drop, flat_map, slice_index, take, refl, arith}
use Rattle.byteorder.specs.Endian.{big_bytes, big_number}
use Rattle.ip_wire.specs.Ipv6.{bytes_of}
use Rattle.ip_wire.specs.Protocol.{number_of}
use Rattle.ip_wire.specs.declared.Ipv6Repr.{Ipv6Repr}
use Rattle.wire_addr.specs.Bytes.{IsByteArray}
use Rattle.net_base.proofs.Cells.{cells-all}
use Rattle.c_write.proofs.Spelled.{octuple}
use Rattle.c_write.specs.Headers.{with_ipv6_fields}
use Rattle.c_structs.specs.declared.types.Ip.{Ip}

both : (a b p q : List ℕ) → a ≡ p → b ≡ q → a ++ b ≡ p ++ q
both a b p q i j = rw (i, j) refl

-- the numbers of the halves of an address have its bytes
halves : (octets : List ℕ) (m n : ℕ) → IsByteArray 16 octets → m ≡ big_number 8 (take 8 octets) → n ≡ big_number 8 (take 8 (drop 8 octets)) → big_bytes 8 m ++ big_bytes 8 n ≡ octets
halves octets m n are i j =
    let x = slice_index octets in
    let h = are.1 in
    let e = cells-all 16 octets are.0 in
    let first : m ≡ 72057594037927936 * x 0 + 281474976710656 * x 1 + 1099511627776 * x 2 + 4294967296 * x 3 + 16777216 * x 4 + 65536 * x 5 + 256 * x 6 + x 7 =
    i ∙ rw e (omega arith)
    in
    let second : n ≡ 72057594037927936 * x 8 + 281474976710656 * x 9 + 1099511627776 * x 10 + 4294967296 * x 11 + 16777216 * x 12 + 65536 * x 13 + 256 * x 14 + x 15 =
    j ∙ rw e (omega arith)
    in
    let front = octuple (x 0) (x 1) (x 2) (x 3) (x 4) (x 5) (x 6) (x 7) m (h 0) (h 1) (h 2) (h 3) (h 4) (h 5) (h 6) (h 7) first in
    let back = octuple (x 8) (x 9) (x 10) (x 11) (x 12) (x 13) (x 14) (x 15) n (h 8) (h 9) (h 10) (h 11) (h 12) (h 13) (h 14) (h 15) second in
    let all : (x 0 ∷ x 1 ∷ x 2 ∷ x 3 ∷ x 4 ∷ x 5 ∷ x 6 ∷ x 7 ∷ []) ++ (x 8 ∷ x 9 ∷ x 10 ∷ x 11 ∷ x 12 ∷ x 13 ∷ x 14 ∷ x 15 ∷ []) ≡ octets = rw e refl in
    both (big_bytes 8 m) (big_bytes 8 n) _ _ front back ∙ all

joined : (a b c d e front src dst : List ℕ) → a ≡ front → b ++ c ≡ src → d ++ e ≡ dst → a ++ (b ++ (c ++ (d ++ (e ++ [])))) ≡ front ++ (src ++ dst)
joined a b c d e front src dst i j k = rw (← j, ← k, i, append-nil e, append_assoc) refl

-- the words of a header with these fields
pub ipv6-words : (h : Ip) (v : Ipv6Repr) (w0 w1 w2 w3 w4 : ℕ)
    → h.dscp < 64 → h.ecn < 4 → h.flow_label < 1048576 → v.payload_len ≤ 65535 → v.hop_limit < 256 → number_of v.next_header < 256
    → w0 ≡ (1610612736 + (4 * h.dscp + h.ecn) * 1048576 + h.flow_label) * 4294967296 + (v.payload_len * 65536 + number_of v.next_header * 256 + v.hop_limit)
    → IsByteArray 16 v.src_addr → w1 ≡ big_number 8 (take 8 v.src_addr) → w2 ≡ big_number 8 (take 8 (drop 8 v.src_addr))
    → IsByteArray 16 v.dst_addr → w3 ≡ big_number 8 (take 8 v.dst_addr) → w4 ≡ big_number 8 (take 8 (drop 8 v.dst_addr))
    → flat_map (big_bytes 8) (w0 ∷ w1 ∷ w2 ∷ w3 ∷ w4 ∷ []) ≡ with_ipv6_fields h (bytes_of v)
ipv6-words h v w0 w1 w2 w3 w4 dscp ecn flow payload hops protocol is0 src is1 is2 dst is3 is4 =
    let service = 4 * h.dscp + h.ecn in
    let flow_label = h.flow_label in
    let bytes = with_ipv6_fields h (bytes_of v) in
    let a : slice_index bytes 0 ≡ 96 + service / 16 = omega (arith, dscp, ecn) in
    let b : slice_index bytes 1 ≡ service % 16 * 16 + flow_label / 65536 = omega (arith, dscp, ecn, flow) in
    let c : slice_index bytes 2 ≡ flow_label / 256 % 256 = omega (arith, flow) in
    let d : slice_index bytes 3 ≡ flow_label % 256 = omega (arith, flow) in
    let len_high : slice_index bytes 4 ≡ v.payload_len / 256 = omega (arith, payload) in
    joined (big_bytes 8 w0) (big_bytes 8 w1) (big_bytes 8 w2) (big_bytes 8 w3) (big_bytes 8 w4)
    (slice_index bytes 0 ∷ slice_index bytes 1 ∷ slice_index bytes 2 ∷ slice_index bytes 3 ∷ slice_index bytes 4 ∷ slice_index bytes 5 ∷ number_of v.next_header ∷ v.hop_limit ∷ [])
    v.src_addr v.dst_addr
    (rw (a, b, c, d, len_high) (octuple (96 + service / 16) (service % 16 * 16 + flow_label / 65536) (flow_label / 256 % 256) (flow_label % 256)
    (v.payload_len / 256) (v.payload_len % 256) (number_of v.next_header) v.hop_limit w0
    (omega (arith, dscp, ecn)) (omega (arith, flow)) (omega arith) (omega arith) (omega (arith, payload)) (omega arith) protocol hops (omega (arith, is0))))
    (halves v.src_addr w1 w2 src is1 is2) (halves v.dst_addr w3 w4 dst is3 is4)
