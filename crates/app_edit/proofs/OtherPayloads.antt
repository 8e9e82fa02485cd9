-- An IPv4 packet with another payload, and a frame with another packet.
use Rattle.std.proofs.Common.{ℕ, ◌≡◌, ◌≤◌, ◌-◌, true, List, ◌++◌, length, drop, take, slice_range, refl, sym, ap, subst, ◌∙◌, arith, length-append, length-drop}
use Rattle.std.proofs.lemmas.List.{length-take-le, take-append-drop}
use Rattle.ip_wire.specs.Ethernet as ethernet
use Rattle.ip_wire.specs.Field.{field, with_range}
use Rattle.ip_wire.specs.Frame.{ipv4_payload}
use Rattle.ip_wire.specs.Ipv4 as ipv4
use Rattle.ip_wire.specs.Ipv4.{Reads, header_len, is_fragment, total_len}
use Rattle.ip_wire.specs.Protocol.{protocol_of}
use Rattle.ip_wire.specs.Types.{EthernetRepr, Ipv4Repr}
use Rattle.ip_wire.specs.WordSum.{sum_of_bytes}
use Rattle.ip_wire.proofs.Cells.{cells-all}
use Rattle.app_edit.proofs.Payloads.{range-front, range-len, range-part, range-past}

-- the fields that locate the payload and name its protocol
pub record SameShape (old new : List ℕ) : Type 0 where
  pub version : field new 0 4 ≡ field old 0 4
  pub header : header_len new ≡ header_len old
  pub total : total_len new ≡ total_len old
  pub fragment : is_fragment new ≡ is_fragment old
  pub protocol : field new 72 8 ≡ field old 72 8

-- all fields but the checksum
pub record SameHeader (old new : List ℕ) : Type 0 where
  pub shape : SameShape old new
  pub hop_limit : field new 64 8 ≡ field old 64 8
  pub src_addr : slice_range new 12 16 ≡ slice_range old 12 16
  pub dst_addr : slice_range new 16 20 ≡ slice_range old 16 20

-- bytes are their first twenty, followed by the others
pub front-len : (bytes : List ℕ) → 20 ≤ length bytes → length (take 20 bytes) ≡ 20
front-len bytes room = length-take-le 20 bytes room

-- ---- another payload

same_front : (front rest rest' : List ℕ) → length front ≡ 20 → SameHeader (front ++ rest) (front ++ rest')
same_front front rest rest' e =
    subst (λ (l : List ℕ). SameHeader (l ++ rest) (l ++ rest')) (sym (cells-all 20 front e))
    (record { shape = record { version = refl; header = refl; total = refl; fragment = refl; protocol = refl }; hop_limit = refl; src_addr = refl; dst_addr = refl })

-- the front and the rest, with a part of the rest replaced
pub past-front : (bytes part : List ℕ) (h n : ℕ) → 20 ≤ length bytes → 20 ≤ h → 20 ≤ n
    → with_range bytes h n part ≡ take 20 bytes ++ with_range (drop 20 bytes) (h - 20) (n - 20) part
past-front bytes part h n room least most =
    ap (λ (l : List ℕ). with_range l h n part) (sym (take-append-drop 20 bytes)) ∙ range-past (take 20 bytes) (drop 20 bytes) part h n (front-len bytes room) least most

-- replacing bytes after the first twenty leaves the header unchanged
pub same-inner : (bytes part : List ℕ) (h n : ℕ) → 20 ≤ length bytes → 20 ≤ h → 20 ≤ n → SameHeader bytes (with_range bytes h n part)
same-inner bytes part h n room least most =
    subst (λ (l : List ℕ). SameHeader bytes l) (sym (past-front bytes part h n room least most))
    (subst (λ (l : List ℕ). SameHeader l (take 20 bytes ++ with_range (drop 20 bytes) (h - 20) (n - 20) part)) (take-append-drop 20 bytes)
    (same_front (take 20 bytes) (drop 20 bytes) (with_range (drop 20 bytes) (h - 20) (n - 20) part) (front-len bytes room)))

-- a packet with another payload of the same length has the same header
pub reads-inner : (bytes part : List ℕ) (v : Ipv4Repr) → Reads bytes true v → length part ≡ total_len bytes - header_len bytes
    → Reads (with_range bytes (header_len bytes) (total_len bytes) part) true v
reads-inner bytes part v r e =
    let h = header_len bytes in
    let n = total_len bytes in
    let new = with_range bytes h n part in
    let same = same-inner bytes part h n r.lengths.least r.lengths.header (omega (arith, r.lengths.header, r.lengths.within)) in
    let long = range-len bytes part h n r.lengths.within r.lengths.whole e in
    record {
      lengths = record {
        least = omega (arith, long, r.lengths.least);
        header = omega (arith, same.shape.header, r.lengths.header);
        within = omega (arith, same.shape.header, same.shape.total, r.lengths.within);
        whole = omega (arith, same.shape.total, long, r.lengths.whole);
      };
      version = same.shape.version ∙ r.version;
      checksum = λ on.
          ap (λ (k : ℕ). sum_of_bytes (take k new)) same.shape.header
          ∙ ap sum_of_bytes (range-front bytes part h n (omega (arith, r.lengths.within, r.lengths.whole))) ∙ r.checksum on;
      payload_len = omega (arith, r.payload_len, same.shape.header, same.shape.total);
      hop_limit = r.hop_limit ∙ sym same.hop_limit;
      next_header = r.next_header ∙ ap protocol_of (sym same.shape.protocol);
      src_addr = r.src_addr ∙ sym same.src_addr;
      dst_addr = r.dst_addr ∙ sym same.dst_addr;
    }

-- the length of an IPv4 payload is the total length without the header length
pub payload-len : (bytes : List ℕ) (v : Ipv4Repr) → ipv4.Reads bytes true v → length (ipv4_payload bytes) ≡ ipv4.total_len bytes - ipv4.header_len bytes
payload-len bytes v r =
    length-take-le (ipv4.total_len bytes - ipv4.header_len bytes) (drop (ipv4.header_len bytes) bytes)
    (omega (arith, length-drop (ipv4.header_len bytes) bytes, r.lengths.within, r.lengths.whole))

-- the payload that is written is the new payload
pub inner-payload : (bytes part : List ℕ) (v : Ipv4Repr) → ipv4.Reads bytes true v → length part ≡ length (ipv4_payload bytes)
    → ipv4_payload (with_range bytes (ipv4.header_len bytes) (ipv4.total_len bytes) part) ≡ part
inner-payload bytes part v r e =
    let h = ipv4.header_len bytes in
    let n = ipv4.total_len bytes in
    let same = (same-inner bytes part h n r.lengths.least r.lengths.header (omega (arith, r.lengths.header, r.lengths.within))).shape in
    (λ i. slice_range (with_range bytes h n part) (same.header i) (same.total i))
    ∙ range-part bytes part h n (omega (arith, r.lengths.within, r.lengths.whole)) (e ∙ payload-len bytes v r)

-- ---- the frame

-- the Ethernet header, followed by the packet
record SameLink (old new : List ℕ) : Type 0 where
  dst_addr : slice_range new 0 6 ≡ slice_range old 0 6
  src_addr : slice_range new 6 12 ≡ slice_range old 6 12
  ethertype : field new 96 16 ≡ field old 96 16

same_link : (front rest rest' : List ℕ) → length front ≡ 14 → SameLink (front ++ rest) (front ++ rest')
same_link front rest rest' e = subst (λ (l : List ℕ). SameLink (l ++ rest) (l ++ rest')) (sym (cells-all 14 front e)) (record { dst_addr = refl; src_addr = refl; ethertype = refl })

pub link-stays : (frame rest : List ℕ) (link : EthernetRepr) → ethernet.Reads frame link → ethernet.Reads (take 14 frame ++ rest) link
link-stays frame rest link r =
    let front : length (take 14 frame) ≡ 14 = length-take-le 14 frame r.whole in
    let s = subst (λ (l : List ℕ). SameLink l (take 14 frame ++ rest)) (take-append-drop 14 frame) (same_link (take 14 frame) (drop 14 frame) rest front) in
    record {
      whole = omega (arith, length-append (take 14 frame) rest, front);
      dst_addr = r.dst_addr ∙ sym s.dst_addr;
      src_addr = r.src_addr ∙ sym s.src_addr;
      ethertype = r.ethertype ∙ ap ethernet.protocol_of (sym s.ethertype);
    }
