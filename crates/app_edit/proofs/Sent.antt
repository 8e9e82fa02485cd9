-- Checksums that are left to the device, and those that are computed.
use Rattle.std.proofs.Common.{ℕ, ◌≡◌, ◌≢◌, ◌∙◌, ◌+◌, ◌-◌, ◌%◌, ◌≤◌, ◌==◌, List, ap, arith, if◌then◌else◌, inl, inr, length, refl, slice_range, sum}
use Rattle.std.proofs.lemmas.Bool.{cases_eq}
use Rattle.byteorder.specs.Endian.{big_bytes}
use Rattle.ip_wire.specs.PseudoHeader.{with_pseudo_header}
use Rattle.ip_wire.specs.Protocol.{number_of}
use Rattle.ip_wire.specs.Types.{IpProtocol, IpVersion}
use Rattle.ip_wire.specs.Udp.{checksum_for}
use Rattle.ip_wire.specs.declared.IpProtocol.TheVariants as protocol
use Rattle.ip_wire.proofs.Residues.{residue-bound, residue-complement, residue-quotient, residue-same, residue-small}
use Rattle.ip_wire.specs.WordSum.{residue, sum_of_bytes, words}
use Rattle.app_edit.proofs.Covers.{sum_over}
use Rattle.app_edit.proofs.Kept.{offset-even}
use Rattle.app_edit.proofs.Stays.{addresses-even, addresses-order, pseudo-total}
use Rattle.app_edit.proofs.Sums.{sum-apart, sum-word, word-written}
use Rattle.app_edit.proofs.Totals.{written-length}
use Rattle.app_edit.specs.Edited.{dst_of, segment_sum_by, src_of, with_word}
use Rattle.app_edit.specs.Filled.{checksum_by, filled}
use Rattle.app_edit.specs.Places.{InFrame, addresses_end, addresses_start, checksum_place}
use Rattle.app_edit.specs.declared.places.Segment.{Segment}

-- ---- computed checksums

udp-complement : (m : ℕ) → residue (m + checksum_for (residue m)) ≡ 65535
udp-complement m = elim (cases_eq (65535 - residue m) 0) [
  | inl full ↦
      let q = residue-quotient m in
      let bound = residue-bound m in
      ap (λ k. residue (m + (if k == 0 then 65535 else k))) full
      ∙ residue-same (m + 65535) 65535 0 (q.0 + 1) (omega (arith, q.1, full, bound)) (λ z. absurd (omega (arith, z))) (λ z. absurd (omega (arith, z)))
      ∙ residue-small 65535 (omega arith)
  | inr some ↦ ap (λ k. residue (m + k)) (nonzero (65535 - residue m) some) ∙ residue-complement m
]
  where
    nonzero : (k : ℕ) → k ≢ 0 → (if k == 0 then 65535 else k) ≡ k
    nonzero k some = grind arith

for-fits : (r : ℕ) → checksum_for r ≤ 65535
for-fits r = grind arith

-- a word that takes the place of 0 in a packet
filled-total : (v : IpVersion) (start end c : ℕ) (xs : List ℕ) (n : ℕ) → start % 2 ≡ 0 → c % 2 ≡ 0 → start ≤ c → c + 2 ≤ end → end ≤ length xs → n ≤ 65535
    → sum_over (with_word (with_word xs c 0) c n) start end ≡ sum_over (with_word xs c 0) start end + n
filled-total v start end c xs n even place begins ends inside fits =
    let zeroed = with_word xs c 0 in
    let long = written-length xs (big_bytes 2 0) c (omega (arith, ends, inside)) in
    let none = word-written xs c 0 (omega (arith, ends, inside)) (omega arith) in
    omega (arith, none, sum-word zeroed c n start end even place begins ends (omega (arith, long, inside)) fits)

-- a word after the addresses leaves them
addresses-apart : (v : IpVersion) (xs : List ℕ) (c n : ℕ) → addresses_end v ≤ c → c + 2 ≤ length xs
    → sum_over (with_word xs c n) (addresses_start v) (addresses_end v) ≡ sum_over xs (addresses_start v) (addresses_end v)
addresses-apart v xs c n after room =
    sum-apart xs (big_bytes 2 n) c (addresses_start v) (addresses_end v) (addresses-even v) (addresses-order v) (omega (arith, after, room)) room (inr after)

-- a complement that makes a sum 0xffff
abbrev Completes : (ℕ → ℕ) → Type 0
Completes complement = (m : ℕ) → residue (m + complement (residue m)) ≡ 65535

-- of a packet with a pseudo-header
verifies-with : (q : IpProtocol) (complement : ℕ → ℕ) (v : IpVersion) (start end c : ℕ) (xs : List ℕ) → addresses_end v ≤ start → start % 2 ≡ 0 → c % 2 ≡ 0 → start ≤ c → c + 2 ≤ end → end ≤ length xs
    → Completes complement → ((r : ℕ) → complement r ≤ 65535)
    → let zeroed = with_word xs c 0 in
    let n = complement (sum_of_bytes (with_pseudo_header (src_of v zeroed) (dst_of v zeroed) q (slice_range zeroed start end))) in
    let new = with_word zeroed c n in
    sum_of_bytes (with_pseudo_header (src_of v new) (dst_of v new) q (slice_range new start end)) ≡ 65535
verifies-with q complement v start end c xs after even place begins ends inside completes fits =
    let zeroed = with_word xs c 0 in
    let n = complement (sum_of_bytes (with_pseudo_header (src_of v zeroed) (dst_of v zeroed) q (slice_range zeroed start end))) in
    let new = with_word zeroed c n in
    let long = written-length xs (big_bytes 2 0) c (omega (arith, ends, inside)) in
    let whole = written-length zeroed (big_bytes 2 n) c (omega (arith, long, ends, inside)) in
    let order : start ≤ end = omega (arith, begins, ends) in
    let total = sum (words (with_pseudo_header (src_of v zeroed) (dst_of v zeroed) q (slice_range zeroed start end))) in
    let before : total ≡ sum_over zeroed (addresses_start v) (addresses_end v) + (number_of q + (end - start) % 65536) + sum_over zeroed start end =
    pseudo-total q v start end zeroed after order (omega (arith, long, inside))
    in
    let now = pseudo-total q v start end new after order (omega (arith, whole, long, inside)) in
    let packet = filled-total v start end c xs n even place begins ends inside (fits (residue total)) in
    let addresses = addresses-apart v zeroed c n (omega (arith, after, begins)) (omega (arith, long, ends, inside)) in
    ap residue (now ∙ omega (arith, before, packet, addresses)) ∙ completes total

-- of a packet without one
verifies-without : (v : IpVersion) (start end c : ℕ) (xs : List ℕ) → start % 2 ≡ 0 → c % 2 ≡ 0 → start ≤ c → c + 2 ≤ end → end ≤ length xs
    → let zeroed = with_word xs c 0 in sum_of_bytes (slice_range (with_word zeroed c (65535 - sum_of_bytes (slice_range zeroed start end))) start end) ≡ 65535
verifies-without v start end c xs even place begins ends inside =
    let zeroed = with_word xs c 0 in
    let total = sum_over zeroed start end in
    ap residue (filled-total v start end c xs (65535 - residue total) even place begins ends inside (omega arith)) ∙ residue-complement total

plainly : (q : IpProtocol) (v : IpVersion) (s : Segment) (c : ℕ) (xs : List ℕ) → InFrame v s xs → c ≡ checksum_place s
    → let zeroed = with_word xs c 0 in
    let new = with_word zeroed c (65535 - sum_of_bytes (with_pseudo_header (src_of v zeroed) (dst_of v zeroed) q (slice_range zeroed s.start s.end))) in
    sum_of_bytes (with_pseudo_header (src_of v new) (dst_of v new) q (slice_range new s.start s.end)) ≡ 65535
plainly q v s c xs f is =
    verifies-with q (λ r. 65535 - r) v s.start s.end c xs f.starts f.even (omega (arith, is, f.even, offset-even s.protocol)) (omega (arith, is)) (omega (arith, is, f.least)) f.inside
    residue-complement (λ r. omega arith)

-- the computed checksum is valid
verifies : (q : IpProtocol) (v : IpVersion) (s : Segment) (c : ℕ) (xs : List ℕ) → InFrame v s xs → c ≡ checksum_place s
    → segment_sum_by q v s (with_word (with_word xs c 0) c (checksum_by q (segment_sum_by q v s (with_word xs c 0)))) ≡ 65535
verifies protocol.Icmp v s c xs f is =
    verifies-without v s.start s.end c xs f.even (omega (arith, is, f.even, offset-even s.protocol)) (omega (arith, is)) (omega (arith, is, f.least)) f.inside
verifies protocol.Udp v s c xs f is =
    verifies-with protocol.Udp checksum_for v s.start s.end c xs f.starts f.even (omega (arith, is, f.even, offset-even s.protocol)) (omega (arith, is)) (omega (arith, is, f.least)) f.inside
    udp-complement for-fits
verifies q v s c xs f is = plainly q v s c xs f is

pub filled-verifies : (v : IpVersion) (s : Segment) (xs : List ℕ) → InFrame v s xs → segment_sum_by s.protocol v s (filled v s xs) ≡ 65535
filled-verifies v s xs f = verifies s.protocol v s (checksum_place s) xs f refl
