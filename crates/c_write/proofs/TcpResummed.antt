-- The checksum of a segment that is written again, from that of the segment that was read.
use Rattle.std.proofs.Common.{ℕ, ◌≡◌, ◌∙◌, ◌≤◌, ◌+◌, ◌-◌, ◌%◌, ◌++◌, true, List, [], None, Some, append_assoc, append-nil, ap, arith, drop, length, length-append, refl, sum, sym, take}
use Rattle.std.proofs.lemmas.List.{take_at}
use Rattle.ip_wire.proofs.UdpLayer.{AreWords}
use Rattle.wire_checksum.proofs.PseudoSums.{sum-with_pseudo_header}
use Rattle.wire_checksum.proofs.Residues.{residue-add, residue-bound, residue-small}
use Rattle.wire_checksum.proofs.Updated.{stays_computed}
use Rattle.wire_checksum.proofs.WordLists.{sum-words-append, sum-words-split}
use Rattle.wire_checksum.specs.PseudoHeader.{with_pseudo_header}
use Rattle.wire_checksum.specs.WordSum.{residue, words}
use Rattle.wire_addr.specs.IpAddress.{address_bytes}
use Rattle.wire_addr.specs.declared.ip_address.IpAddress.{IpAddress}
use Rattle.wire_addr.specs.declared.ip_protocol.IpProtocol.TheVariants as protocol
use Rattle.net_base.specs.Field.{with_field}
use Rattle.net_base.specs.Filled as filled
use Rattle.wire_tcp.proofs.Sums.{field-word}
use Rattle.wire_tcp.proofs.TcpEmitted.{length-header_bytes}
use Rattle.wire_tcp.specs.Tcp.{header_len, segment_sum}
use Rattle.wire_tcp.specs.TcpRepr.{Reads, TcpHeader, bytes_of, header_bytes, header_len_of, segment_with}
use Rattle.c_write.specs.Resummed.{resummed}
use Rattle.c_structs.specs.Written.{Fills}

-- a part that is summed apart
apart : (r h l : ℕ) → residue (r + residue (0 + residue h + l)) ≡ residue (r + (h + l))
apart r h l =
    let y = 0 + residue h + l in
    let inner : residue y ≡ residue (h + l) = residue-add (0 + residue h) h l l (ap residue (omega arith) ∙ residue-small (residue h) (residue-bound h)) refl in
    residue-add r r (residue y) (h + l) refl (residue-small (residue y) (residue-bound y) ∙ inner)

-- the same with the bytes before and after it
joined : (a b h l p : ℕ) → residue (a + b + 6 + p + residue (0 + residue h + l)) ≡ residue (a + b + (6 + l) + (h + p))
joined a b h l p = apart (a + b + 6 + p) h l ∙ ap residue (omega arith)

-- the written segment: its sum is that of its header and of the payload
resummed-segment : (v : TcpHeader) (src dst : IpAddress) (bytes p : List ℕ) → AreWords src dst → Reads bytes src dst true v p
    → resummed (take (header_len bytes) bytes) (length bytes) (header_bytes v 0) (length (segment_with v p 0)) ≡ 65535 - segment_sum src dst (segment_with v p 0)
resummed-segment v src dst bytes p w r =
    let s = w.src_bytes in
    let d = w.dst_bytes in
    let a = sum (words (address_bytes src)) in
    let b = sum (words (address_bytes dst)) in
    let k = sum (words p) in
    let n = header_len bytes in
    let h = sum (words (take n bytes)) in
    let h' = sum (words (header_bytes v 0)) in
    let l = length bytes % 65536 in
    let l' = length (segment_with v p 0) % 65536 in
    let even : n % 2 ≡ 0 = omega arith in
    let even' : length (header_bytes v 0) % 2 ≡ 0 = ap (λ (m : ℕ). m % 2) (length-header_bytes v 0) ∙ omega arith in
    let old_sum : sum (words bytes) ≡ h + k = sum-words-split n bytes even r.lengths.whole ∙ ap (λ (q : List ℕ). h + sum (words q)) (sym r.body) in
    let new_sum : sum (words (segment_with v p 0)) ≡ h' + k = sum-words-append (header_bytes v 0) p even' in
    let old_total : sum (words (with_pseudo_header src dst protocol.Tcp bytes)) ≡ a + b + (6 + l) + (h + k) =
    sum-with_pseudo_header src dst protocol.Tcp bytes s d ∙ ap (λ (m : ℕ). a + b + (6 + l) + m) old_sum in
    let new_total : sum (words (with_pseudo_header src dst protocol.Tcp (segment_with v p 0))) ≡ a + b + (6 + l') + (h' + k) =
    sum-with_pseudo_header src dst protocol.Tcp (segment_with v p 0) s d ∙ ap (λ (m : ℕ). a + b + (6 + l') + m) new_sum in
    let old = residue (0 + residue h + l) in
    let new = residue (0 + residue h' + l') in
    let full : residue (a + b + 6 + k + old) ≡ 65535 = joined a b h l k ∙ ap residue (sym old_total) ∙ r.checksum refl in
    let result = stays_computed (a + b + 6 + k) 0 old new (residue-bound _) (omega arith) (omega (arith, full)) in
    result ∙ ap (λ (m : ℕ). 65535 - m) (joined a b h' l' k ∙ ap residue (sym new_total))

-- the checksum that is written into a segment without one
resummed-written : (v : TcpHeader) (src dst : IpAddress) (bytes p rest : List ℕ) → AreWords src dst → Reads bytes src dst true v p
    → with_field (segment_with v p 0 ++ rest) 128 16
    (resummed (take (header_len bytes) bytes) (length bytes) (take (header_len_of v) (segment_with v p 0 ++ rest)) (length (segment_with v p 0)))
    ≡ bytes_of v p src dst true [] ++ rest
resummed-written v src dst bytes p rest w r =
    let front : take (header_len_of v) (segment_with v p 0 ++ rest) ≡ header_bytes v 0 =
    ap (take (header_len_of v)) (append_assoc (header_bytes v 0) p rest) ∙ take_at (header_bytes v 0) (p ++ rest) (header_len_of v) (length-header_bytes v 0) in
    let is = ap (λ (new : List ℕ). resummed (take (header_len bytes) bytes) (length bytes) new (length (segment_with v p 0))) front ∙ resummed-segment v src dst bytes p w r in
    let none : segment_with v p 0 ++ [] ≡ segment_with v p 0 = append-nil (segment_with v p 0) in
    ap (with_field (segment_with v p 0 ++ rest) 128 16) (is ∙ ap (λ (l : List ℕ). 65535 - segment_sum src dst l) (sym none))
    ∙ field-word (segment_with v p 0 ++ rest) (65535 - segment_sum src dst (segment_with v p 0 ++ []))

-- ---- what fills the front of a slice

length-segment : (v : TcpHeader) (p : List ℕ) (x : ℕ) → length (segment_with v p x) ≡ header_len_of v + length p
length-segment v p x = length-append (header_bytes v x) p ∙ ap (λ (m : ℕ). m + length p) (length-header_bytes v x)

-- there is no room with any checksum
pub fills-None : (v : TcpHeader) (src dst : IpAddress) (p old new : List ℕ) → filled.Fills (segment_with v p 0) (header_len_of v + length p) old new None
    → Fills (Some (bytes_of v p src dst true [])) old new None
fills-None v src dst p old new (short, same) = (omega (arith, short, length-segment v p (65535 - segment_sum src dst (segment_with v p 0 ++ []))), same)

-- the header is in the slice
pub header-room : (v : TcpHeader) (p old new : List ℕ) (n : ℕ) → filled.Fills (segment_with v p 0) (header_len_of v + length p) old new (Some n) → header_len_of v ≤ length new
header-room v p old new n (len, room, is) =
    omega (arith, length-segment v p 0, ap length is, length-append (segment_with v p 0) (drop n old))

-- the checksum is written into what fills it
pub fills-Some : (v : TcpHeader) (src dst : IpAddress) (bytes p old unsummed new : List ℕ) (n : ℕ) → AreWords src dst → Reads bytes src dst true v p
    → filled.Fills (segment_with v p 0) (header_len_of v + length p) old unsummed (Some n)
    → new ≡ with_field unsummed 128 16 (resummed (take (header_len bytes) bytes) (length bytes) (take (header_len_of v) unsummed) n)
    → Fills (Some (bytes_of v p src dst true [])) old new (Some n)
fills-Some v src dst bytes p old unsummed new n w r (len, room, is) e = (
  omega (arith, len, length-segment v p (65535 - segment_sum src dst (segment_with v p 0 ++ []))),
  room,
  e ∙ ap (λ (b : List ℕ). with_field b 128 16 (resummed (take (header_len bytes) bytes) (length bytes) (take (header_len_of v) b) n)) is
      ∙ ap (λ (m : ℕ). with_field (segment_with v p 0 ++ drop n old) 128 16 (resummed (take (header_len bytes) bytes) (length bytes) (take (header_len_of v) (segment_with v p 0 ++ drop n old)) m)) (len ∙ sym (length-segment v p 0))
      ∙ resummed-written v src dst bytes p (drop n old) w r,
)
