-- An IPv4 header with another address.
use Rattle.std.proofs.Common.{ℕ, ◌≡◌, ◌↔◌, ◌≤◌, ◌<◌, ◌+◌, ◌-◌, ◌%◌, false, true, List, ◌++◌, length, drop, take, slice_index, slice_range, sum, refl, sym, ap, subst, ◌∙◌, arith, length-append, length-drop}
use Rattle.std.proofs.lemmas.List.{drop-drop, take-append-drop}
use Rattle.ip_wire.specs.Field.{field, with_range}
use Rattle.ip_wire.specs.Frame.{ipv4_payload}
use Rattle.ip_wire.specs.Ipv4.{HasChecksum, Reads, header_len, total_len, with_updated_checksum}
use Rattle.ip_wire.specs.WordSum.{residue, sum_of_bytes, words}
use Rattle.ip_wire.specs.declared.Ipv4Repr.{Ipv4Repr}
use Rattle.ip_wire.proofs.ByteLists.{AreBytes-append, AreBytes-drop, AreBytes-take}
use Rattle.ip_wire.proofs.Cells.{cells, cells-all}
use Rattle.ip_wire.proofs.Ipv4Changed.{reads-dst_addr, reads-src_addr, reads-summed}
use Rattle.ip_wire.proofs.Residues.{residue-bound, residue-quotient, residue-same}
use Rattle.ip_wire.proofs.Spelled.{AreBytes}
use Rattle.wire_icmp.proofs.Parts.{sum-take-positive, sum-take-with_field, sum-take-with_range}
use Rattle.app_edit.proofs.OtherPayloads.{SameShape, front-len}
use Rattle.app_edit.proofs.Payloads.{range-len}
use Rattle.app_nat.specs.Nat.{addr_at, with_addr, with_address}
use Rattle.app_edit.specs.declared.side.Side.{Side}
use Rattle.app_edit.specs.declared.side.Side.TheVariants.{Source, Destination}

-- ---- another address

-- an address written to the header is read back
pub record IsAddressed (side : Side) (front rest addr : List ℕ) : Type 0 where
  pub apart : with_address side addr (front ++ rest) ≡ with_address side addr front ++ rest
  pub long : length (with_address side addr front) ≡ 20
  pub shape : SameShape (front ++ rest) (with_address side addr (front ++ rest))
  pub after_header : drop 20 (with_address side addr (front ++ rest)) ≡ rest
  pub written : addr_at side (with_address side addr (front ++ rest)) ≡ addr

addressed_cells : (side : Side) (front rest addr : List ℕ) → IsAddressed side (cells 20 front) rest (cells 4 addr)
addressed_cells Source front rest addr =
    record { apart = refl; long = refl; shape = record { version = refl; header = refl; total = refl; fragment = refl; protocol = refl }; after_header = refl; written = refl }
addressed_cells Destination front rest addr =
    record { apart = refl; long = refl; shape = record { version = refl; header = refl; total = refl; fragment = refl; protocol = refl }; after_header = refl; written = refl }

-- writing an address to the first twenty bytes changes that address and the header checksum
pub addressed : (side : Side) (front rest addr : List ℕ) → length front ≡ 20 → length addr ≡ 4 → IsAddressed side front rest addr
addressed side front rest addr e f =
    subst (λ (l : List ℕ). IsAddressed side l rest addr) (sym (cells-all 20 front e))
    (subst (λ (a : List ℕ). IsAddressed side (cells 20 front) rest a) (sym (cells-all 4 addr f)) (addressed_cells side front rest addr))

-- the payload is unchanged
same_payload : (old new : List ℕ) → SameShape old new → drop 20 new ≡ drop 20 old → 20 ≤ header_len old → ipv4_payload new ≡ ipv4_payload old
same_payload old new s after_header least =
    let h = header_len old in
    let n = total_len old in
    let e : h ≡ 20 + (h - 20) = omega (arith, least) in
    let from : drop h new ≡ drop h old =
    ap (λ (k : ℕ). drop k new) e ∙ sym (drop-drop (h - 20) 20 new) ∙ ap (drop (h - 20)) after_header ∙ drop-drop (h - 20) 20 old ∙ ap (λ (k : ℕ). drop k old) (sym e) in
    (λ i. take (s.total i - s.header i) (drop (s.header i) new)) ∙ ap (take (n - h)) from

-- the same for any bytes
pub record Keeps (side : Side) (bytes addr : List ℕ) : Type 0 where
  pub shape : SameShape bytes (with_address side addr bytes)
  pub payload : ipv4_payload (with_address side addr bytes) ≡ ipv4_payload bytes
  pub long : length (with_address side addr bytes) ≡ length bytes
  pub written : addr_at side (with_address side addr bytes) ≡ addr

-- writing an address keeps the length and the fields that locate the payload
pub keeps : (side : Side) (bytes addr : List ℕ) → 20 ≤ length bytes → 20 ≤ header_len bytes → length addr ≡ 4 → Keeps side bytes addr
keeps side bytes addr room least four =
    let is = take-append-drop 20 bytes in
    let at = addressed side (take 20 bytes) (drop 20 bytes) addr (front-len bytes room) four in
    let shape : SameShape bytes (with_address side addr bytes) = subst (λ (l : List ℕ). SameShape l (with_address side addr l)) is at.shape in
    let after_header : drop 20 (with_address side addr bytes) ≡ drop 20 bytes = subst (λ (l : List ℕ). drop 20 (with_address side addr l) ≡ drop 20 bytes) is at.after_header in
    let apart : with_address side addr bytes ≡ with_address side addr (take 20 bytes) ++ drop 20 bytes =
    subst (λ (l : List ℕ). with_address side addr l ≡ with_address side addr (take 20 bytes) ++ drop 20 bytes) is at.apart in
    record {
      shape = shape;
      payload = same_payload bytes (with_address side addr bytes) shape after_header least;
      long = ap length apart ∙ length-append (with_address side addr (take 20 bytes)) (drop 20 bytes) ∙ omega (arith, at.long, length-drop 20 bytes, room);
      written = subst (λ (l : List ℕ). addr_at side (with_address side addr l) ≡ addr) is at.written;
    }

-- The sum of the first n bytes stays: a part of four bytes changes, and the sixth word by as much in the other direction. The sum
-- is not 0 before or after.
sum-updated : (bytes part : List ℕ) (a e n : ℕ) → AreBytes bytes → AreBytes part → length part ≡ 4 → a % 2 ≡ 0 → a + 4 ≡ e → e ≤ n → 12 ≤ n → n ≤ length bytes
    → (new : List ℕ) → new ≡ with_updated_checksum (with_range bytes a e part) (sum_of_bytes (slice_range bytes a e)) (sum_of_bytes part)
    → n ≤ length new → 0 < slice_index bytes 0 → 0 < slice_index new 0 → sum_of_bytes (take n new) ≡ sum_of_bytes (take n bytes)
sum-updated bytes part a e n are octets four even ends inside least room new is long some some' =
    let changed = with_range bytes a e part in
    let old = sum (words (slice_range bytes a e)) in
    let next = sum (words part) in
    let c = field changed 80 16 in
    let t = (65535 - c) + (65535 - residue old) + residue next in
    let u = 65535 - residue t in
    let length_is : length changed ≡ length bytes = range-len bytes part a e (omega (arith, ends)) (omega (arith, inside, room)) (omega (arith, four, ends)) in
    let changed_are = AreBytes-append (take a bytes ++ part) (drop e bytes) (AreBytes-append (take a bytes) part (AreBytes-take a bytes are) octets) (AreBytes-drop e bytes are) in
    let range = sum-take-with_range bytes part a e n even (omega (arith, four)) (omega (arith, four, ends)) inside room in
    let written = sum-take-with_field changed n 5 u changed_are (omega (arith, least)) (omega (arith, length_is, room)) (omega arith) in
    let total : sum (words (take n new)) + c ≡ sum (words (take n changed)) + u = ap (λ (l : List ℕ). sum (words (take n l)) + c) is ∙ written in
    let before = sum-take-positive bytes n (omega (arith, least)) room some in
    let after = sum-take-positive new n (omega (arith, least)) long some' in
    let q = residue-quotient t in
    let o = residue-quotient old in
    let p = residue-quotient next in
    residue-same (sum (words (take n new))) (sum (words (take n bytes))) (1 + o.0) (q.0 + p.0)
    (omega (arith, range, total, q.1, o.1, p.1, residue-bound t, residue-bound old)) (λ z. absurd (omega (arith, z, after))) (λ z. absurd (omega (arith, z, before)))

-- another address leaves the sum of the header, since its checksum is updated
sum-address : (side : Side) (bytes new addr : List ℕ) → AreBytes bytes → AreBytes addr → length addr ≡ 4 → new ≡ with_address side addr bytes
    → 20 ≤ header_len bytes → header_len bytes ≤ length bytes → sum_of_bytes (take (header_len new) new) ≡ sum_of_bytes (take (header_len bytes) bytes)
sum-address side bytes new addr are octets four is least room =
    let k = keeps side bytes addr (omega (arith, least, room)) least four in
    let header : header_len new ≡ header_len bytes = ap header_len is ∙ k.shape.header in
    let long : header_len bytes ≤ length new = omega (arith, ap length is, k.long, room) in
    ap (λ (n : ℕ). sum_of_bytes (take n new)) header ∙ by_side side is long (omega (arith, least)) (omega (arith, header, least))
  where
    by_side : (side : Side) → new ≡ with_address side addr bytes → header_len bytes ≤ length new → 0 < slice_index bytes 0 → 0 < slice_index new 0
        → sum_of_bytes (take (header_len bytes) new) ≡ sum_of_bytes (take (header_len bytes) bytes)
    by_side Source is long some some' = sum-updated bytes addr 12 16 (header_len bytes) are octets four refl refl (omega (arith, least)) (omega (arith, least)) room new is long some some'
    by_side Destination is long some some' = sum-updated bytes addr 16 20 (header_len bytes) are octets four refl refl least (omega (arith, least)) room new is long some some'

-- the updated checksum of a header is valid exactly if the old one is
pub checksum-address : (side : Side) (bytes new addr : List ℕ) → AreBytes bytes → AreBytes addr → length addr ≡ 4 → new ≡ with_address side addr bytes
    → 20 ≤ header_len bytes → header_len bytes ≤ length bytes → HasChecksum bytes ↔ HasChecksum new
checksum-address side bytes new addr are octets four is least room =
    let same = sum-address side bytes new addr are octets four is least room in
    (λ valid. same ∙ valid, λ valid. sym same ∙ valid)

-- a packet with another address, and a checksum that is updated for it, has the header with this address
pub reads-address : (side : Side) (bytes new addr : List ℕ) (v : Ipv4Repr) → AreBytes bytes → AreBytes addr → length addr ≡ 4
    → new ≡ with_address side addr bytes → Reads bytes true v → Reads new true (with_addr side addr v)
reads-address Source bytes new addr v are octets four is r =
    reads-summed (with_range bytes 12 16 addr) new _ false true (record v { src_addr = addr }) is (reads-src_addr bytes addr true false v four r (λ no. cc))
    (λ on. (checksum-address Source bytes new addr are octets four is r.lengths.header (omega (arith, r.lengths.within, r.lengths.whole))).0 (r.checksum on))
reads-address Destination bytes new addr v are octets four is r =
    reads-summed (with_range bytes 16 20 addr) new _ false true (record v { dst_addr = addr }) is (reads-dst_addr bytes addr true false v four r (λ no. cc))
    (λ on. (checksum-address Destination bytes new addr are octets four is r.lengths.header (omega (arith, r.lengths.within, r.lengths.whole))).0 (r.checksum on))
