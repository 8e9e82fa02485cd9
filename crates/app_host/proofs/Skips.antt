-- Frames whose extension headers a host skips, and those without any.
use Rattle.std.proofs.Common.{ℕ, ◌≡◌, ◌∙◌, ◌⊎◌, ◌≤◌, ◌<◌, ◌+◌, ◌++◌, inl, inr, List, [], Option, Some, None, Bool, append-nil, arith, ap, drop, false, length, length-drop, refl, subst, suc, sym, true}
use Rattle.std.specs.Option.{option_map, option_map_or}
use Rattle.std.specs.Prelude.{◌&&◌, if◌then◌else◌, ⊤, is_none}
use Rattle.ip_wire.proofs.EthernetComputed.{ethernet_of-Reads}
use Rattle.ip_wire.proofs.Cells.{cells-all}
use Rattle.ip_wire.proofs.EthernetLayer.{IsLayer-ethernet, drop-bytes_of, length-dst, length-src, read-Reads}
use Rattle.ip_wire.proofs.FrameOf.{header-only, header-read}
use Rattle.ip_wire.proofs.IpLayer.{ReadsPacket-IsHeader, packet_payload-written, reads_packet}
use Rattle.ip_wire.proofs.Readings.{if-Some}
use Rattle.ip_wire.proofs.Protocols.{known-read, number_of-protocol_of}
use Rattle.ip_wire.specs.Ethernet as ethernet
use Rattle.ip_wire.specs.Frame.{Carried, IsReadWhole, ReadsPacket, all_checked, header_by, message, other, packet, packet_payload}
use Rattle.ip_wire.specs.FrameValue.{Finds}
use Rattle.ip_wire.specs.Ip.{next_header_of}
use Rattle.ip_wire.specs.Ipv6 as ipv6
use Rattle.ip_wire.specs.Protocol.{number_of, protocol_of}
use Rattle.ip_wire.specs.Types.{EthernetRepr, IpRepr, Ipv4, Ipv6, Ipv6Repr}
use Rattle.ip_wire.specs.declared.EthernetProtocol.TheVariants as ethertype
use Rattle.ip_wire.specs.declared.Frame.{Frame}
use Rattle.wire_extensions.proofs.Steps.{Next, by-step, walked-has}
use Rattle.wire_extensions.specs.Chain.{begun, chain_of}
use Rattle.wire_extensions.specs.Extension.{is_extension}
use Rattle.wire_extensions.specs.declared.chain.Chain.{Chain}
use Rattle.app_host.specs.Ipv6Fault.{fault_of}
use Rattle.app_host.specs.declared.ipv6_fault.Fault.{Fault}
use Rattle.app_host.specs.Skipped.{frame_past, header_past, is_passed, past, skipped, without_by, without_extensions}

-- ---- frames that a host takes as they are

-- the frame has no Ethernet header
pub without-link : (frame : List ℕ) → ethernet.ethernet_of frame ≡ None → without_extensions frame ≡ frame
unfolding without_extensions
without-link frame none = rw none refl

-- it carries no IP packet
pub without-header : (frame : List ℕ) (link : EthernetRepr) → ethernet.Reads frame link → header_by all_checked link.ethertype (drop 14 frame) ≡ None → without_extensions frame ≡ frame
unfolding without_extensions
without-header frame link reads none = rw ((ethernet_of-Reads frame link).1 reads, none) refl

-- what is found in such a frame
pub itself : (frame : List ℕ) (f : Frame) → without_extensions frame ≡ frame → Finds all_checked frame f → Finds all_checked (without_extensions frame) f
itself frame f same found = subst (λ b. Finds all_checked b f) (sym same) found

-- its packet is one of IPv4
pub without-ipv4 : (frame : List ℕ) (link : EthernetRepr) → ethernet.Reads frame link → link.ethertype ≡ ethertype.Ipv4 → without_extensions frame ≡ frame
unfolding without_extensions
without-ipv4 frame link reads type = rw ((ethernet_of-Reads frame link).1 reads) (by-header (header_by all_checked link.ethertype (drop 14 frame)) refl)
  where
    by-header : (o : Option IpRepr) → header_by all_checked link.ethertype (drop 14 frame) ≡ o → without_by link o frame ≡ frame
    by-header None is = refl
    by-header (Some (Ipv4 v)) is = refl
    by-header (Some (Ipv6 v)) is = let named = (header-only all_checked link.ethertype (drop 14 frame) (Ipv6 v) is).0 in absurd (let apart = sym type ∙ named in cc)

-- its packet does not parse
pub without-packet : (frame : List ℕ) (link : EthernetRepr) → ethernet.Reads frame link → link.ethertype ≡ ethertype.Ipv6 → ((v : Ipv6Repr) → ¬ ipv6.Reads (drop 14 frame) v)
    → without_extensions frame ≡ frame
without-packet frame link reads type none = without-header frame link reads (by-header (header_by all_checked link.ethertype (drop 14 frame)) refl)
  where
    by-header : (o : Option IpRepr) → header_by all_checked link.ethertype (drop 14 frame) ≡ o → header_by all_checked link.ethertype (drop 14 frame) ≡ None
    by-header None is = is
    by-header (Some (Ipv4 v)) is = let named = (header-only all_checked link.ethertype (drop 14 frame) (Ipv4 v) is).0 in absurd (let apart = sym type ∙ named in cc)
    by-header (Some (Ipv6 v)) is = absurd (none v (header-only all_checked link.ethertype (drop 14 frame) (Ipv6 v) is).1)

-- what is left of an IPv6 packet, by what is skipped
pub without-ipv6 : (frame : List ℕ) (link : EthernetRepr) (v : Ipv6Repr) → ethernet.Reads frame link → link.ethertype ≡ ethertype.Ipv6 → ipv6.Reads (drop 14 frame) v
    → without_extensions frame ≡ option_map_or (frame_past link v (ipv6.payload_of (drop 14 frame))) (skipped (number_of v.next_header) (ipv6.payload_of (drop 14 frame))) frame
unfolding without_extensions
without-ipv6 frame link v link_reads type reads =
    rw ((ethernet_of-Reads frame link).1 link_reads, header-read all_checked link.ethertype (drop 14 frame) (Ipv6 v) type reads) refl

-- no number but that of an extension header is skipped
pub none-skipped : (number : ℕ) (payload : List ℕ) → is_extension number ≡ false → skipped number payload ≡ None
unfolding skipped
none-skipped number payload is = rw is refl

-- what is skipped, by the tests of a packet
pub skipped-by : (number : ℕ) (payload : List ℕ) (whole passed : Bool) → is_extension number ≡ true → is_none (fault_of number payload) ≡ whole
    → is_passed (chain_of number (length payload) payload) payload ≡ passed → skipped number payload ≡ (if whole && passed then Some (chain_of number (length payload) payload) else None)
unfolding skipped
skipped-by number payload whole passed on no_fault rest = rw (on, no_fault, rest) refl

pub faulty-skipped : (number : ℕ) (payload : List ℕ) (f : Fault) → is_extension number ≡ true → fault_of number payload ≡ Some f → skipped number payload ≡ None
faulty-skipped number payload f on is = skipped-by number payload false (is_passed (chain_of number (length payload) payload) payload) on (ap is_none is) refl

skipped-extension : (number : ℕ) (payload : List ℕ) (c : Chain) → skipped number payload ≡ Some c → is_extension number ≡ true
skipped-extension number payload c is = by-number (is_extension number) refl
  where
    by-number : (b : Bool) → is_extension number ≡ b → is_extension number ≡ true
    by-number true e = e
    by-number false e = absurd (let none = none-skipped number payload e in cc)

-- what a frame carries that is no packet with extension headers
abbrev pub IsPlain : Carried → Type 0
IsPlain (packet v inner) = is_extension (number_of (next_header_of v)) ≡ false
IsPlain (message m) = ⊤

-- it carries no extension header
pub without-plain : (frame : List ℕ) (link : EthernetRepr) (c : Carried) → IsReadWhole frame link c → IsPlain c → without_extensions frame ≡ frame
without-plain frame link (message m) reads plain = without-header frame link reads.reads_header (rw reads.reads_carried.0 refl)
without-plain frame link (packet (Ipv4 v) inner) reads plain = without-ipv4 frame link reads.reads_header reads.reads_carried.0
without-plain frame link (packet (Ipv6 v) inner) reads plain =
    let (type, header, following) = reads.reads_carried in
    without-ipv6 frame link v reads.reads_header type header
    ∙ ap (λ o. option_map_or (frame_past link v (ipv6.payload_of (drop 14 frame))) o frame) (none-skipped (number_of v.next_header) (ipv6.payload_of (drop 14 frame)) plain)

-- ---- frames whose extension headers are skipped

-- the frame has an IPv6 packet with this header, and a host skips its extension headers in this chain
pub record IsSkipped (frame : List ℕ) (link : EthernetRepr) (v : Ipv6Repr) (c : Chain) : Type 0 where
  pub reads_link : ethernet.Reads frame link
  pub type : link.ethertype ≡ ethertype.Ipv6
  pub reads : ipv6.Reads (drop 14 frame) v
  pub skips : skipped (number_of v.next_header) (ipv6.payload_of (drop 14 frame)) ≡ Some c

abbrev pub HasSkipped : List ℕ → Type 0
HasSkipped frame = (link : EthernetRepr) × (v : Ipv6Repr) × (c : Chain) × IsSkipped frame link v c

-- a frame is taken as it is, or its extension headers are skipped
pub either : (frame : List ℕ) → (without_extensions frame ≡ frame) ⊎ HasSkipped frame
either frame = by-link (ethernet.ethernet_of frame) refl
  where
    by-chain : (link : EthernetRepr) (v : Ipv6Repr) → ethernet.Reads frame link → link.ethertype ≡ ethertype.Ipv6 → ipv6.Reads (drop 14 frame) v → (o : Option Chain)
        → skipped (number_of v.next_header) (ipv6.payload_of (drop 14 frame)) ≡ o → (without_extensions frame ≡ frame) ⊎ HasSkipped frame
    by-chain link v link_reads type reads None is =
        inl (without-ipv6 frame link v link_reads type reads ∙ ap (λ o. option_map_or (frame_past link v (ipv6.payload_of (drop 14 frame))) o frame) is)
    by-chain link v link_reads type reads (Some c) is = inr (link, v, c, record { reads_link = link_reads; type = type; reads = reads; skips = is })

    by-header : (link : EthernetRepr) → ethernet.Reads frame link → (o : Option IpRepr) → header_by all_checked link.ethertype (drop 14 frame) ≡ o
        → (without_extensions frame ≡ frame) ⊎ HasSkipped frame
    by-header link link_reads None is = inl (without-header frame link link_reads is)
    by-header link link_reads (Some (Ipv4 v)) is = inl (without-ipv4 frame link link_reads (header-only all_checked link.ethertype (drop 14 frame) (Ipv4 v) is).0)
    by-header link link_reads (Some (Ipv6 v)) is =
        let (type, reads) = header-only all_checked link.ethertype (drop 14 frame) (Ipv6 v) is in
        by-chain link v link_reads type reads (skipped (number_of v.next_header) (ipv6.payload_of (drop 14 frame))) refl

    by-link : (o : Option EthernetRepr) → ethernet.ethernet_of frame ≡ o → (without_extensions frame ≡ frame) ⊎ HasSkipped frame
    by-link None is = inl (without-link frame is)
    by-link (Some link) is = let reads = (ethernet_of-Reads frame link).0 is in by-header link reads (header_by all_checked link.ethertype (drop 14 frame)) refl

-- the first byte of such a packet names no transport, so that all of its payload is bytes of another protocol
pub skipped-whole : (frame : List ℕ) (link : EthernetRepr) (v : Ipv6Repr) (c : Chain) → IsSkipped frame link v c
    → IsReadWhole frame link (packet (Ipv6 v) (other (ipv6.payload_of (drop 14 frame))))
skipped-whole frame link v c s =
    let on = skipped-extension (number_of v.next_header) (ipv6.payload_of (drop 14 frame)) c s.skips in
    record {
      reads_header = s.reads_link;
      reads_carried = (
        s.type,
        s.reads,
        (
          λ udp. absurd (let off : is_extension 17 ≡ true = subst (λ p. is_extension (number_of p) ≡ true) udp on in cc),
          λ tcp. absurd (let off : is_extension 6 ≡ true = subst (λ p. is_extension (number_of p) ≡ true) tcp on in cc),
          refl,
        ),
      );
    }

-- what parses without extension headers parses with them
pub whole-read : (frame : List ℕ) (header : EthernetRepr) (carried : Carried) → IsReadWhole (without_extensions frame) header carried
    → (h : EthernetRepr) × (c : Carried) × IsReadWhole frame h c
whole-read frame header carried reads = elim (either frame) [
  | inl same ↦ (header, carried, subst (λ b. IsReadWhole b header carried) same reads)
  | inr (link, v, c, s) ↦ (link, _, skipped-whole frame link v c s)
]

-- a frame has at least so many bytes with them
pub whole-long : (frame : List ℕ) → 16 ≤ length (without_extensions frame) → 16 ≤ length frame
whole-long frame long = elim (either frame) [
  | inl same ↦ subst (λ b. 16 ≤ length b) same long
  | inr (link, v, c, s) ↦ omega (arith, s.reads.lengths, length-drop 14 frame)
]

-- ---- the frame without them

-- the header of the packet without extension headers is in normal form
past-normal : (v : Ipv6Repr) (payload : List ℕ) (c : Chain) → ipv6.normal (header_past v payload c) ≡ header_past v payload c
past-normal v payload c = ap (λ p. record (header_past v payload c) { next_header = p }) (known-read (protocol_of c.protocol) c.protocol refl)

length-written : (w : Ipv6Repr) (q : List ℕ) → length w.src_addr ≡ 16 → length w.dst_addr ≡ 16 → length (ipv6.bytes_of w ++ q) ≡ 40 + length q
length-written w q src dst = rw (cells-all 16 w.src_addr src, cells-all 16 w.dst_addr dst) (omega arith)

-- a shorter packet after an Ethernet header that was read
link-back : (frame : List ℕ) (link : EthernetRepr) (q : List ℕ) → ethernet.Reads frame link → length q ≤ length (drop 14 frame) → ethernet.Reads (ethernet.bytes_of link ++ q) link
link-back frame link q reads few =
    let read = ap (option_map (λ v. (v, drop 14 frame))) ((ethernet_of-Reads frame link).1 reads) in
    (read-Reads (ethernet.bytes_of link ++ q) link q (IsLayer-ethernet.reads_back frame link (drop 14 frame) q read few)).0

-- the header, and what the packet carries
pub record ReadsPast (frame : List ℕ) (link : EthernetRepr) (v : Ipv6Repr) (message : List ℕ) : Type 0 where
  pub reads_link : ethernet.Reads frame link
  pub header : ReadsPacket all_checked (drop 14 frame) (Ipv6 v)
  pub payload : message ≡ packet_payload (Ipv6 v) (drop 14 frame)

pub reads-past : (frame : List ℕ) (link : EthernetRepr) (v : Ipv6Repr) (c : Chain) → ethernet.Reads frame link → link.ethertype ≡ ethertype.Ipv6 → ipv6.Reads (drop 14 frame) v
    → c.protocol < 256 → let payload = ipv6.payload_of (drop 14 frame) in ReadsPast (frame_past link v payload c) link (header_past v payload c) (drop c.len payload)
reads-past frame link v c link_reads type reads small =
    let payload = ipv6.payload_of (drop 14 frame) in
    let w = header_past v payload c in
    let q = drop c.len payload in
    let inner = ipv6.bytes_of w ++ q in
    let dst = length-dst frame link link_reads in
    let src = length-src frame link link_reads in
    let few : length q ≤ length payload = omega (arith, length-drop c.len payload) in
    let known = ReadsPacket-IsHeader all_checked (drop 14 frame) (Ipv6 v) reads in
    let range = known.in_range (length q) few in
    let shorter : length inner ≤ length (drop 14 frame) = omega (arith, length-written w q range.src_addr range.dst_addr, few, known.whole) in
    let named : number_of w.next_header < 256 = rw (number_of-protocol_of c.protocol) small in
    let normal : Ipv6 (ipv6.normal w) ≡ Ipv6 w = ap Ipv6 (past-normal v payload c) in
    let same = λ (rest : List ℕ). ipv6.bytes_of w ++ rest in
    let header : ReadsPacket all_checked inner (Ipv6 w) =
    subst (ReadsPacket all_checked inner) normal (subst (λ b. ReadsPacket all_checked b (Ipv6 (ipv6.normal w))) (ap same (append-nil q))
    (reads_packet all_checked true (Ipv6 w) q []
    (record { src_addr = range.src_addr; dst_addr = range.dst_addr; next_header = named; payload_len = range.payload_len; hop_limit = range.hop_limit }) refl (λ four on. refl)))
    in
    let carries : packet_payload (Ipv6 w) inner ≡ q = ap (λ b. packet_payload (Ipv6 w) b) (ap same (sym (append-nil q))) ∙ packet_payload-written (Ipv6 w) q [] true
    (record { src_addr = range.src_addr; dst_addr = range.dst_addr; next_header = named; payload_len = range.payload_len; hop_limit = range.hop_limit }) refl in
    let back : drop 14 (frame_past link v payload c) ≡ inner = drop-bytes_of link inner dst src in
    record {
      reads_link = link-back frame link inner link_reads shorter;
      header = subst (λ b. ReadsPacket all_checked b (Ipv6 w)) (sym back) header;
      payload = sym (ap (packet_payload (Ipv6 w)) back ∙ carries);
    }

-- ---- the frame that a host answers

-- the number of what follows a chain is a byte
abbrev IsSmall : Chain → Type 0
IsSmall c = c.protocol < 256

chain-small : (number len : ℕ) (bytes : List ℕ) → number < 256 → (chain_of number len bytes).protocol < 256
unfolding chain_of
chain-small number len bytes small =
    walked-has IsSmall IsSmall len bytes (λ c h. h)
    (λ c h. by-step (λ s. Next IsSmall IsSmall s.0 s.1) len bytes c (λ other. h) (λ why is fault. h) (λ is none part. h) (λ is none whole. omega arith) (λ is other none. omega arith))
    (suc (length bytes)) (begun number) small

skipped-small : (number : ℕ) (payload : List ℕ) (c : Chain) → number < 256 → skipped number payload ≡ Some c → c.protocol < 256
unfolding skipped
skipped-small number payload c small is =
    let (passed, same) = (if-Some (is_extension number && is_none (fault_of number payload) && is_passed (chain_of number (length payload) payload) payload) (chain_of number (length payload) payload) c).0 is in
    subst (λ (d : Chain). d.protocol < 256) same (chain-small number (length payload) payload small)

-- the header and the payload of an IPv6 packet without the extension headers that a host skips
pub taken : (frame : List ℕ) (link : EthernetRepr) (v : Ipv6Repr) → ethernet.Reads frame link → link.ethertype ≡ ethertype.Ipv6 → ipv6.Reads (drop 14 frame) v
    → let left = past v (ipv6.payload_of (drop 14 frame)) in ReadsPast (without_extensions frame) link left.0 left.1
taken frame link v link_reads type reads = by-chain (skipped (number_of v.next_header) payload) refl
  where
    payload : List ℕ
    payload = ipv6.payload_of (drop 14 frame)

    small : number_of v.next_header < 256
    small = ((ReadsPacket-IsHeader all_checked (drop 14 frame) (Ipv6 v) reads).in_range 0 (omega arith)).next_header

    left : Option Chain → Ipv6Repr × List ℕ
    left o = option_map_or (λ (c : Chain). (header_past v payload c, drop c.len payload)) o (v, payload)

    by-chain : (o : Option Chain) → skipped (number_of v.next_header) payload ≡ o → ReadsPast (without_extensions frame) link (left o).0 (left o).1
    by-chain None is =
        let same = without-ipv6 frame link v link_reads type reads ∙ ap (λ o. option_map_or (frame_past link v payload) o frame) is in
        subst (λ b. ReadsPast b link v payload) (sym same) (record { reads_link = link_reads; header = reads; payload = refl })
    by-chain (Some c) is =
        let same = without-ipv6 frame link v link_reads type reads ∙ ap (λ o. option_map_or (frame_past link v payload) o frame) is in
        subst (λ b. ReadsPast b link (header_past v payload c) (drop c.len payload)) (sym same)
        (reads-past frame link v c link_reads type reads (skipped-small (number_of v.next_header) payload c small is))
