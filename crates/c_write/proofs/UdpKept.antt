-- A UDP packet that is read with a checksum is emitted unchanged.
use Rattle.std.proofs.Common.{ℕ, ◌≡◌, ◌≢◌, ◌∙◌, ◌≤◌, ◌<◌, ◌+◌, ◌*◌, ◌-◌, ◌/◌, ◌%◌, ◌++◌, inl, inr, true, List, [], ◌∷◌, Option, None, Some, ap, arith, length, length-append, refl, slice_index, slice_range, sum, sym, take}
use Rattle.std.proofs.Math.Seq.{take-add, take-length}
use Rattle.byteorder.specs.Endian.{big_bytes}
use Rattle.ip_wire.proofs.Layers.{length-part}
use Rattle.ip_wire.proofs.UdpLayer.{AreWords, rebuilt-udp, rebuilt-udp-copied}
use Rattle.ip_wire.specs.Frame.{rebuilt_transport_by}
use Rattle.wire_checksum.proofs.Residues.{residue-bound, residue-quotient}
use Rattle.wire_checksum.proofs.WordLists.{sum-words-append}
use Rattle.wire_checksum.specs.PseudoHeader.{pseudo_header_bytes, with_pseudo_header}
use Rattle.wire_checksum.specs.WordSum.{residue, words}
use Rattle.wire_addr.specs.IpAddress.{address_bytes}
use Rattle.wire_addr.specs.declared.ip_address.IpAddress.{IpAddress}
use Rattle.wire_addr.specs.declared.ip_protocol.IpProtocol.TheVariants as protocol
use Rattle.net_base.proofs.Cells.{cells-drop}
use Rattle.net_base.proofs.Spelled.{AreBytes}
use Rattle.net_base.specs.Field.{field}
use Rattle.wire_udp.proofs.UdpComputed.{Reads-is, udp_of-Reads}
use Rattle.wire_udp.proofs.UdpReadsBack.{checksum_for-cases}
use Rattle.wire_udp.specs.Udp.{HasLengths, Reads, bytes_of, checksum_for, header_bytes, header_of, packet_len, packet_sum, packet_with, payload_of, udp_of}
use Rattle.wire_udp.specs.declared.udp.repr.UdpRepr.{UdpRepr}
use Rattle.c_write.proofs.Spelled.{pair}

-- at most one number but 0 completes a total to 0xffff
only_checksum : (total c : ℕ) → c ≢ 0 → c ≤ 65535 → residue (total + c) ≡ 65535 → checksum_for (residue total) ≡ c
only_checksum total c some fits full =
    let (k, before) = residue-quotient total in
    let (j, after) = residue-quotient (total + c) in
    elim (checksum_for-cases (residue total) (residue-bound total)) [
      | inl (all, is) ↦ is ∙ omega (arith, all, before, after, full, some, fits)
      | inr (below, is) ↦ is ∙ omega (arith, below, before, after, full, some, fits)
    ]

-- the checksum counts in the sum of the header, and of the packet
sum-words-header : (v : UdpRepr) (len checksum : ℕ) → checksum < 65536 → sum (words (header_bytes v len checksum)) ≡ sum (words (header_bytes v len 0)) + checksum
unfolding words
sum-words-header v len checksum fits = omega arith

sum-words-checksum : (v : UdpRepr) (src dst : IpAddress) (payload : List ℕ) (checksum : ℕ) → AreWords src dst → checksum < 65536
    → sum (words (with_pseudo_header src dst protocol.Udp (packet_with v payload checksum))) ≡ sum (words (with_pseudo_header src dst protocol.Udp (packet_with v payload 0))) + checksum
sum-words-checksum v src dst payload checksum whole fits =
    let s = whole.src_bytes in
    let d = whole.dst_bytes in
    let header = pseudo_header_bytes (address_bytes src) (address_bytes dst) protocol.Udp (length (packet_with v payload 0)) in
    let even : length header % 2 ≡ 0 = simp length-append (omega arith) in
    sum-words-append header (packet_with v payload checksum) even
    ∙ omega (
      arith,
      sum-words-append header (packet_with v payload 0) even,
      sum-words-append (header_bytes v (length payload) 0) payload refl,
      sum-words-append (header_bytes v (length payload) checksum) payload refl,
      sum-words-header v (length payload) checksum fits,
    )

-- the header that was read is emitted unchanged
header_bytes-read : (bytes : List ℕ) → AreBytes bytes → HasLengths bytes
    → header_bytes (header_of bytes) (length (payload_of bytes)) (field bytes 48 16) ≡ take 8 bytes
header_bytes-read bytes h lengths =
    let header = lengths.header in
    let part = length-part bytes 8 (packet_len bytes) lengths.whole in
    let len : 8 + length (payload_of bytes) ≡ packet_len bytes = omega (arith, part, header) in
    let src : big_bytes 2 (field bytes 0 16) ≡ slice_index bytes 0 ∷ slice_index bytes 1 ∷ [] = pair (slice_index bytes 0) (slice_index bytes 1) _ (h 0) (h 1) (omega arith) in
    let dst : big_bytes 2 (field bytes 16 16) ≡ slice_index bytes 2 ∷ slice_index bytes 3 ∷ [] = pair (slice_index bytes 2) (slice_index bytes 3) _ (h 2) (h 3) (omega arith) in
    let size : big_bytes 2 (packet_len bytes) ≡ slice_index bytes 4 ∷ slice_index bytes 5 ∷ [] = pair (slice_index bytes 4) (slice_index bytes 5) _ (h 4) (h 5) (omega arith) in
    let sum : big_bytes 2 (field bytes 48 16) ≡ slice_index bytes 6 ∷ slice_index bytes 7 ∷ [] = pair (slice_index bytes 6) (slice_index bytes 7) _ (h 6) (h 7) (omega arith) in
    ap (λ (n : ℕ). big_bytes 2 (field bytes 0 16) ++ big_bytes 2 (field bytes 16 16) ++ big_bytes 2 n ++ big_bytes 2 (field bytes 48 16)) len
    ∙ ap (λ (w : List ℕ). w ++ big_bytes 2 (field bytes 16 16) ++ big_bytes 2 (packet_len bytes) ++ big_bytes 2 (field bytes 48 16)) src
    ∙ ap (λ (w : List ℕ). (slice_index bytes 0 ∷ slice_index bytes 1 ∷ []) ++ w ++ big_bytes 2 (packet_len bytes) ++ big_bytes 2 (field bytes 48 16)) dst
    ∙ ap (λ (w : List ℕ). (slice_index bytes 0 ∷ slice_index bytes 1 ∷ slice_index bytes 2 ∷ slice_index bytes 3 ∷ []) ++ w ++ big_bytes 2 (field bytes 48 16)) size
    ∙ ap (λ (w : List ℕ). (slice_index bytes 0 ∷ slice_index bytes 1 ∷ slice_index bytes 2 ∷ slice_index bytes 3 ∷ slice_index bytes 4 ∷ slice_index bytes 5 ∷ []) ++ w) sum
    ∙ rw (cells-drop 8 bytes lengths.least) refl

-- two parts that meet
take-parts : (bytes : List ℕ) (a n : ℕ) → a ≤ n → take a bytes ++ slice_range bytes a n ≡ take n bytes
take-parts bytes a n some = sym (take-add a (n - a) bytes) ∙ ap (λ (k : ℕ). take k bytes) (omega (arith, some))

-- so is the packet, around its payload
packet_with-read : (bytes : List ℕ) → AreBytes bytes → HasLengths bytes
    → packet_with (header_of bytes) (payload_of bytes) (field bytes 48 16) ≡ take (packet_len bytes) bytes
packet_with-read bytes h lengths =
    ap (λ (front : List ℕ). front ++ payload_of bytes) (header_bytes-read bytes h lengths)
    ∙ take-parts bytes 8 (packet_len bytes) lengths.header

-- the packet that is emitted for what was read with a checksum is the packet that was read
bytes_of-read : (src dst : IpAddress) (bytes : List ℕ) (v : UdpRepr) → AreBytes bytes → AreWords src dst → Reads bytes src dst true v (payload_of bytes)
    → field bytes 48 16 ≢ 0 → bytes_of v (payload_of bytes) src dst true ≡ take (packet_len bytes) bytes
bytes_of-read src dst bytes v h whole r some =
    let p = payload_of bytes in
    let c = field bytes 48 16 in
    let w = header_of bytes in
    let total = sum (words (with_pseudo_header src dst protocol.Udp (packet_with w p 0))) in
    let fits : c < 65536 = omega arith in
    let same = packet_with-read bytes h r.lengths in
    let holds : packet_sum src dst (take (packet_len bytes) bytes) ≡ 65535 = elim (r.checksum refl) [ inl (none, ipv4) ↦ absurd (some none) | inr (other, full) ↦ full ] in
    let full : residue (total + c) ≡ 65535 = ap residue (sym (sum-words-checksum w src dst p c whole fits)) ∙ ap (packet_sum src dst) same ∙ holds in
    let sum_is : checksum_for (packet_sum src dst (packet_with w p 0)) ≡ c = only_checksum total c some (omega (arith, fits)) full in
    ap (λ (u : UdpRepr). bytes_of u p src dst true) (Reads-is src dst true bytes v p r) ∙ ap (packet_with w p) sum_is ∙ same

-- a packet that is read with a checksum is rebuilt unchanged, without the padding after it
pub rebuilt-udp-kept : (src dst : IpAddress) (bytes : List ℕ) (v : UdpRepr) → AreBytes bytes → AreWords src dst → udp_of src dst true bytes ≡ Some v
    → field bytes 48 16 ≢ 0 → rebuilt_transport_by protocol.Udp src dst bytes ≡ take (packet_len bytes) bytes
rebuilt-udp-kept src dst bytes v h whole read some =
    rebuilt-udp src dst bytes v read ∙ bytes_of-read src dst bytes v h whole ((udp_of-Reads src dst true bytes v).0 read) some

-- a packet with a checksum and no padding after it is rebuilt unchanged, whether it parses or not
pub rebuilt-udp-whole : (src dst : IpAddress) (bytes : List ℕ) → AreBytes bytes → AreWords src dst → packet_len bytes ≡ length bytes
    → field bytes 48 16 ≢ 0 → rebuilt_transport_by protocol.Udp src dst bytes ≡ bytes
rebuilt-udp-whole src dst bytes h whole len some = by (udp_of src dst true bytes) refl
  where
    by : (o : Option UdpRepr) → udp_of src dst true bytes ≡ o → rebuilt_transport_by protocol.Udp src dst bytes ≡ bytes
    by None unread = rebuilt-udp-copied src dst bytes unread
    by (Some v) read = rebuilt-udp-kept src dst bytes v h whole read some ∙ ap (λ (n : ℕ). take n bytes) len ∙ take-length bytes
