-- An emitted UDP packet parses as the value and the payload from which it was emitted.
use Rattle.std.proofs.Common.{ℕ, ◌≡◌, ◌≢◌, ◌≤◌, ◌<◌, ◌+◌, ◌-◌, ◌%◌, ◌⊎◌, inl, inr, Bool, true, false, IsTrue, List, ◌++◌, length, sum, take, refl, sym, ap, ◌∙◌, length-append, arith}
use Rattle.std.proofs.Math.Seq.{take-append_seam}
use Rattle.std.proofs.lemmas.Bool.Decides.{nat_tests}
use Rattle.wire_addr.specs.declared.ip_address.IpAddress.{IpAddress}
use Rattle.wire_checksum.proofs.Residues.{residue-bound, residue-complement, residue-of_zero, residue-same}
use Rattle.wire_checksum.proofs.WordLists.{sum-words-append}
use Rattle.wire_checksum.specs.PseudoHeader.{pseudo_header_bytes, with_pseudo_header}
use Rattle.wire_addr.specs.IpAddress.{address_bytes}
use Rattle.wire_checksum.specs.WordSum.{residue, words}
use Rattle.wire_addr.specs.declared.ip_protocol.IpProtocol.TheVariants as protocol
use Rattle.wire_udp.specs.Udp.{Reads, bytes_of, checksum_for, header_bytes, packet_len, packet_sum, packet_with}
use Rattle.wire_udp.specs.declared.udp.repr.UdpRepr.{UdpRepr}

-- the value has a packet with this payload: its numbers fit their fields, and the addresses are whole words
pub record IsInRange (v : UdpRepr) (payload : List ℕ) (src dst : IpAddress) : Type 0 where
  pub src_port : v.src_port < 65536
  pub dst_port : v.dst_port < 65536
  pub receiver : v.dst_port ≢ 0
  pub payload_len : length payload ≤ 65527
  pub src_bytes : length (address_bytes src) % 2 ≡ 0
  pub dst_bytes : length (address_bytes dst) % 2 ≡ 0

-- the length of a packet is the length of header and payload
packet_len-packet_with : (v : UdpRepr) (payload rest : List ℕ) (checksum : ℕ) → length payload ≤ 65527 → packet_len (packet_with v payload checksum ++ rest) ≡ 8 + length payload
packet_len-packet_with v payload rest checksum fits = omega arith

-- cut to that length, the bytes are the packet
take-packet_with : (v : UdpRepr) (payload rest : List ℕ) (checksum : ℕ) → length payload ≤ 65527
    → take (packet_len (packet_with v payload checksum ++ rest)) (packet_with v payload checksum ++ rest) ≡ packet_with v payload checksum
take-packet_with v payload rest checksum fits =
    let packet = packet_with v payload checksum in
    let long : packet_len (packet ++ rest) ≡ length packet = packet_len-packet_with v payload rest checksum fits ∙ omega arith in
    ap (λ (n : ℕ). take n (packet ++ rest)) long ∙ take-append_seam packet rest

-- the checksum for a sum
pub checksum_for-cases : (sum : ℕ) → sum ≤ 65535 → ((sum ≡ 65535) × (checksum_for sum ≡ 65535)) ⊎ ((sum < 65535) × (checksum_for sum ≡ 65535 - sum))
checksum_for-cases sum h = grind (arith, nat_tests)

-- it is not 0
pub checksum_for-bounds : (sum : ℕ) → sum ≤ 65535 → (1 ≤ checksum_for sum) × (checksum_for sum ≤ 65535)
checksum_for-bounds sum h = elim (checksum_for-cases sum h) [ inl (full, is) ↦ (omega (arith, is), omega (arith, is)) | inr (below, is) ↦ (omega (arith, is), omega (arith, is)) ]

-- a total plus the checksum for its residue
pub residue-checksum_for : (m : ℕ) → residue (m + checksum_for (residue m)) ≡ 65535
residue-checksum_for m = elim (checksum_for-cases (residue m) (residue-bound m)) [
  | inl (full, is) ↦
      ap (λ (n : ℕ). residue (m + n)) is
      ∙ residue-same (m + 65535) m 0 1 (omega arith) (λ z. absurd (omega arith)) (λ z. absurd (omega (arith, full, residue-of_zero m z)))
      ∙ full
  | inr (below, is) ↦ ap (λ (n : ℕ). residue (m + n)) is ∙ residue-complement m
]

-- writing the checksum adds it to the sum of the header, and of the packet
sum-words-header : (v : UdpRepr) (len checksum : ℕ) → checksum < 65536 → sum (words (header_bytes v len checksum)) ≡ sum (words (header_bytes v len 0)) + checksum
unfolding words
sum-words-header v len checksum fits = omega arith

sum-words-checksum : (v : UdpRepr) (src dst : IpAddress) (payload : List ℕ) (checksum : ℕ) → length (address_bytes src) % 2 ≡ 0 → length (address_bytes dst) % 2 ≡ 0 → checksum < 65536
    → sum (words (with_pseudo_header src dst protocol.Udp (packet_with v payload checksum))) ≡ sum (words (with_pseudo_header src dst protocol.Udp (packet_with v payload 0))) + checksum
sum-words-checksum v src dst payload checksum s d fits =
    let header = pseudo_header_bytes (address_bytes src) (address_bytes dst) protocol.Udp (length (packet_with v payload 0)) in
    let even : length header % 2 ≡ 0 = simp length-append (omega arith) in
    sum-words-append header (packet_with v payload checksum) even
    ∙ omega (
      arith,
      sum-words-append header (packet_with v payload 0) even,
      sum-words-append (header_bytes v (length payload) 0) payload refl,
      sum-words-append (header_bytes v (length payload) checksum) payload refl,
      sum-words-header v (length payload) checksum fits,
    )

-- the checksum of the packet is correct
verifies : (v : UdpRepr) (src dst : IpAddress) (payload : List ℕ) → length (address_bytes src) % 2 ≡ 0 → length (address_bytes dst) % 2 ≡ 0
    → packet_sum src dst (bytes_of v payload src dst true) ≡ 65535
verifies v src dst payload s d =
    let total = sum (words (with_pseudo_header src dst protocol.Udp (packet_with v payload 0))) in
    let bounds = checksum_for-bounds (residue total) (residue-bound total) in
    ap residue (sum-words-checksum v src dst payload (checksum_for (residue total)) s d (omega arith)) ∙ residue-checksum_for total

-- a packet parses with any checksum if it is not verified
reads-packet_with : (v : UdpRepr) (src dst : IpAddress) (payload rest : List ℕ) (checksum : ℕ) (verified : Bool) → IsInRange v payload src dst
    → (IsTrue verified → (checksum ≢ 0) × (checksum < 65536) × (packet_sum src dst (packet_with v payload checksum) ≡ 65535))
    → Reads (packet_with v payload checksum ++ rest) src dst verified v payload
reads-packet_with v src dst payload rest checksum verified h sound =
    let long = packet_len-packet_with v payload rest checksum h.payload_len in
    let body_len : packet_len (packet_with v payload checksum ++ rest) - 8 ≡ length payload = omega (arith, long) in
    let whole : length (packet_with v payload checksum ++ rest) ≡ 8 + length payload + length rest = simp length-append (omega arith) in
    record {
      lengths = record { least = omega arith; header = omega (arith, long); whole = omega (arith, long) };
      receiver = omega (arith, h.receiver, h.dst_port);
      checksum = λ on.
          let (some, fits, full) = sound on in
          inr (omega (arith, some, fits), ap (packet_sum src dst) (take-packet_with v payload rest checksum h.payload_len) ∙ full);
      src_port = omega (arith, h.src_port);
      dst_port = omega (arith, h.dst_port);
      body = sym (ap (λ (n : ℕ). take n (payload ++ rest)) body_len ∙ take-append_seam payload rest);
    }

-- an emitted packet parses as the same value and payload
pub reads_bytes_of : (v : UdpRepr) (src dst : IpAddress) (payload rest : List ℕ) (computed verified : Bool) → IsInRange v payload src dst
    → (IsTrue verified → IsTrue computed) → Reads (bytes_of v payload src dst computed ++ rest) src dst verified v payload
reads_bytes_of v src dst payload rest true verified h sound =
    let sum = packet_sum src dst (packet_with v payload 0) in
    let bounds = checksum_for-bounds sum (residue-bound _) in
    reads-packet_with v src dst payload rest (checksum_for sum) verified h (λ on. (omega arith, omega arith, verifies v src dst payload h.src_bytes h.dst_bytes))
reads_bytes_of v src dst payload rest false verified h sound =
    reads-packet_with v src dst payload rest 0 verified h (λ on. let no : IsTrue false = sound on in absurd (cc))
