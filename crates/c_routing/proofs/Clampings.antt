-- A packet with another TCP segment, a frame with such a packet, and what C gets for it.
use Rattle.std.proofs.Common.{ℕ, ℤ, pos, ◌≡◌, ◌≢◌, ◌≤◌, ◌<◌, ◌+◌, ◌-◌, ◌%◌, ◌↔◌, ◌++◌, ◌∙◌, Bool, true, false, if◌then◌else◌, List, [], Some, Result, Ok, Err, ap, append_assoc, arith, drop, inl, inr, length, length-drop, refl, slice_range, subst, sym, take}
use Rattle.std.proofs.lemmas.Bool.Decides.{nat_tests}
use Rattle.std.proofs.lemmas.List.{drop_at, length-take-le, take-append-drop}
use Rattle.c_structs.specs.Written.{max_len}
use Rattle.app_edit.proofs.OtherPayloads.{inner-payload, link-stays, reads-inner, same-inner}
use Rattle.app_edit.proofs.Payloads.{range-len, range-part, range-same}
use Rattle.app_edit.specs.Layout.{payload_end, payload_start, with_payload}
use Rattle.app_edit.specs.declared.replace.Offload.{Offload}
use Rattle.app_edit.specs.declared.replace.Offload.TheVariants as offload
use Rattle.app_short.specs.Clamp.{IsAbove}
use Rattle.ip_wire.proofs.Cells.{cells-all}
use Rattle.ip_wire.proofs.ReadsOnce.{computed-one, frame-once}
use Rattle.ip_wire.specs.Ethernet as ethernet
use Rattle.ip_wire.proofs.TcpChanged.{reads-summed}
use Rattle.ip_wire.specs.Field.{field, with_field, with_range}
use Rattle.ip_wire.specs.Frame.{ReadsFrame, ReadsPacket, Transport, packet, packet_payload, segment, type_of}
use Rattle.ip_wire.specs.FrameValue.{transport_of}
use Rattle.ip_wire.specs.Ip.{ReadsHeader, dst_addr_of, src_addr_of, version_of}
use Rattle.ip_wire.specs.IpAddress.{address_bytes}
use Rattle.ip_wire.specs.Ipv4 as ipv4
use Rattle.ip_wire.specs.Ipv6 as ipv6
use Rattle.ip_wire.specs.Packet.{IsPacket, packet_of}
use Rattle.ip_wire.specs.Protocol.{protocol_of}
use Rattle.ip_wire.specs.Tcp.{Verifies}
use Rattle.ip_wire.specs.TcpRepr.{HasControl, Reads, TcpHeader, header_of}
use Rattle.ip_wire.specs.TcpSegmentSize.{with_max_seg_size}
use Rattle.ip_wire.specs.Types.{Error, EthernetRepr, IpAddress, IpRepr, Ipv4, Ipv6, Ipv6Repr}
use Rattle.ip_wire.specs.declared.TcpControl.TheVariants as control
use Rattle.ip_wire.specs.declared.TcpRepr.{TcpRepr}
use Rattle.ip_wire.specs.declared.frame.transport.Transport as value
use Rattle.ip_wire.specs.declared.frame.transport.Transport.TheVariants as transport
use Rattle.ip_wire.specs.Checksum.{verifies}
use Rattle.ip_wire.specs.declared.Checksum.{Checksum}
use Rattle.ip_wire.specs.declared.Checksum.TheVariants as checksum
use Rattle.ip_wire.specs.declared.ChecksumCapabilities.{ChecksumCapabilities}
use Rattle.c_routing.proofs.Within.{within-itself, within-nothing}
use Rattle.c_routing.specs.Clamped.{CarriesSegment, Clamps, IsClamped, IsTooLarge, ReadsSegment, clamped, is_left_to_device, resized, tcp_as, with_size}

-- ---- where the segment is

pub header-read : (choice : Checksum) (bytes : List ℕ) (header : IpRepr) → ReadsPacket (tcp_as choice) bytes header → ReadsHeader bytes true header
header-read choice bytes (Ipv4 v) r = r.0
header-read choice bytes (Ipv6 v) r = r

pub range-order : (bytes : List ℕ) (header : IpRepr) → ReadsHeader bytes true header → payload_start (version_of header) bytes ≤ payload_end (version_of header) bytes
range-order bytes (Ipv4 v) r = r.lengths.within
range-order bytes (Ipv6 v) r = omega arith

pub range-within : (bytes : List ℕ) (header : IpRepr) → ReadsHeader bytes true header → payload_end (version_of header) bytes ≤ length bytes
range-within bytes (Ipv4 v) r = r.lengths.whole
range-within bytes (Ipv6 v) r = r.lengths

pub payload-range : (bytes : List ℕ) (header : IpRepr) → packet_payload header bytes ≡ slice_range bytes (payload_start (version_of header) bytes) (payload_end (version_of header) bytes)
payload-range bytes (Ipv4 v) = refl
payload-range bytes (Ipv6 v) = refl

payload-len : (bytes : List ℕ) (header : IpRepr) → ReadsHeader bytes true header
    → length (packet_payload header bytes) ≡ payload_end (version_of header) bytes - payload_start (version_of header) bytes
payload-len bytes header r =
    let start = payload_start (version_of header) bytes in
    ap length (payload-range bytes header)
    ∙ length-take-le (payload_end (version_of header) bytes - start) (drop start bytes) (omega (arith, length-drop start bytes, range-order bytes header r, range-within bytes header r))

-- ---- an IPv6 header before another payload

record SameHeader (old new : List ℕ) : Type 0 where
  version : field new 0 4 ≡ field old 0 4
  payload_len : field new 32 16 ≡ field old 32 16
  protocol : field new 48 8 ≡ field old 48 8
  hop_limit : field new 56 8 ≡ field old 56 8
  src_addr : slice_range new 8 24 ≡ slice_range old 8 24
  dst_addr : slice_range new 24 40 ≡ slice_range old 24 40

same_front : (front rest other : List ℕ) → length front ≡ 40 → SameHeader (front ++ rest) (front ++ other)
same_front front rest other e =
    subst (λ (l : List ℕ). SameHeader (l ++ rest) (l ++ other)) (sym (cells-all 40 front e))
    (record { version = refl; payload_len = refl; protocol = refl; hop_limit = refl; src_addr = refl; dst_addr = refl })

same-header : (bytes part : List ℕ) (n : ℕ) → 40 ≤ length bytes → SameHeader bytes (with_range bytes 40 n part)
same-header bytes part n room =
    subst (λ (l : List ℕ). SameHeader bytes l) (sym (append_assoc (take 40 bytes) part (drop n bytes)))
    (subst (λ (l : List ℕ). SameHeader l (take 40 bytes ++ (part ++ drop n bytes))) (take-append-drop 40 bytes)
    (same_front (take 40 bytes) (drop 40 bytes) (part ++ drop n bytes) (length-take-le 40 bytes room)))

reads-ipv6 : (bytes part : List ℕ) (v : Ipv6Repr) → ipv6.Reads bytes v → length part ≡ ipv6.total_len bytes - 40
    → ipv6.Reads (with_range bytes 40 (ipv6.total_len bytes) part) v
reads-ipv6 bytes part v r e =
    let same = same-header bytes part (ipv6.total_len bytes) (omega (arith, r.lengths)) in
    let long = range-len bytes part 40 (ipv6.total_len bytes) (omega arith) r.lengths e in
    record {
      lengths = omega (arith, long, same.payload_len, r.lengths);
      version = same.version ∙ r.version;
      payload_len = r.payload_len ∙ sym same.payload_len;
      next_header = r.next_header ∙ ap protocol_of (sym same.protocol);
      hop_limit = r.hop_limit ∙ sym same.hop_limit;
      src_addr = r.src_addr ∙ sym same.src_addr;
      dst_addr = r.dst_addr ∙ sym same.dst_addr;
    }

-- ---- a packet with another segment of the same length

reads-with : (choice : Checksum) (bytes part : List ℕ) (header : IpRepr) → ReadsPacket (tcp_as choice) bytes header
    → length part ≡ payload_end (version_of header) bytes - payload_start (version_of header) bytes → ReadsPacket (tcp_as choice) (with_payload (version_of header) bytes part) header
reads-with choice bytes part (Ipv4 v) r e =
    let lengths = r.0.lengths in
    let same = same-inner bytes part (ipv4.header_len bytes) (ipv4.total_len bytes) lengths.least lengths.header (omega (arith, lengths.header, lengths.within)) in
    (reads-inner bytes part v r.0 e, same.shape.fragment ∙ r.1)
reads-with choice bytes part (Ipv6 v) r e = reads-ipv6 bytes part v r e

-- the other segment is the payload
payload-with : (choice : Checksum) (bytes part : List ℕ) (header : IpRepr) → ReadsPacket (tcp_as choice) bytes header
    → length part ≡ length (packet_payload header bytes) → packet_payload header (with_payload (version_of header) bytes part) ≡ part
payload-with choice bytes part (Ipv4 v) r e = inner-payload bytes part v r.0 e
payload-with choice bytes part (Ipv6 v) r e =
    let n = ipv6.total_len bytes in
    let same = same-header bytes part n (omega (arith, r.lengths)) in
    (λ i. slice_range (with_range bytes 40 n part) 40 (40 + same.payload_len i))
    ∙ range-part bytes part 40 n (omega (arith, r.lengths)) (e ∙ payload-len bytes (Ipv6 v) r)

address-len : (addr bytes : List ℕ) (first n : ℕ) → addr ≡ slice_range bytes first (first + n) → first + n ≤ length bytes → length addr ≡ n
address-len addr bytes first n is room =
    let width : first + n - first ≡ n = omega arith in
    ap length is ∙ length-take-le (first + n - first) (drop first bytes) (omega (arith, length-drop first bytes, room)) ∙ width

abbrev IsEven : IpAddress → Type 0
IsEven addr = length (address_bytes addr) % 2 ≡ 0

even-ends : (choice : Checksum) (bytes : List ℕ) (header : IpRepr) → ReadsPacket (tcp_as choice) bytes header
    → IsEven (src_addr_of header) × IsEven (dst_addr_of header)
even-ends choice bytes (Ipv4 v) r =
    let least = r.0.lengths.least in
    let src = address-len v.src_addr bytes 12 4 r.0.src_addr (omega (arith, least)) in
    let dst = address-len v.dst_addr bytes 16 4 r.0.dst_addr (omega (arith, least)) in
    (omega (arith, src), omega (arith, dst))
even-ends choice bytes (Ipv6 v) r =
    let src = address-len v.src_addr bytes 8 16 r.src_addr (omega (arith, r.lengths)) in
    let dst = address-len v.dst_addr bytes 24 16 r.dst_addr (omega (arith, r.lengths)) in
    (omega (arith, src), omega (arith, dst))

-- the segment that was clamped is read in its packet
pub packet-clamped : (o : Offload) (choice : Checksum) (bytes part new : List ℕ) (header : IpRepr) (v : TcpHeader) (payload : List ℕ) (limit : ℕ)
    → new ≡ with_payload (version_of header) bytes part → length part ≡ length (packet_payload header bytes)
    → ((verified : Bool) → (o ≡ offload.Offloaded → verified ≡ false) → IsEven (src_addr_of header) → IsEven (dst_addr_of header) → Reads (packet_payload header bytes) (src_addr_of header) (dst_addr_of header) verified v payload
    → Reads part (src_addr_of header) (dst_addr_of header) verified (with_size limit v) payload)
    → (o ≡ offload.Offloaded → verifies choice ≡ false) → ReadsSegment choice bytes header v payload → ReadsSegment choice new header (with_size limit v) payload
packet-clamped o choice bytes part new header v payload limit is e lowered said r =
    let even = even-ends choice bytes header r.0 in
    let src = src_addr_of header in
    let dst = dst_addr_of header in
    let placed = payload-with choice bytes part header r.0 e in
    subst (λ (l : List ℕ). ReadsSegment choice l header (with_size limit v) payload) (sym is) (
      reads-with choice bytes part header r.0 (e ∙ payload-len bytes header (header-read choice bytes header r.0)),
      (
        r.1.0,
        subst (λ (l : List ℕ). Reads l src dst (verifies choice) (with_size limit v) payload) (sym placed)
            (lowered (verifies choice) said even.0 even.1 r.1.1),
      ),
    )

pub packet-bytes : (o : Offload) (header : IpRepr) (bytes part : List ℕ) (limit : ℕ) (done : Bool) → ReadsHeader bytes true header
    → part ≡ (if done then resized o (src_addr_of header) (dst_addr_of header) (packet_payload header bytes) limit else packet_payload header bytes)
    → with_payload (version_of header) bytes part ≡ (if done then clamped o header bytes limit else bytes)
packet-bytes o header bytes part limit true r is = ap (with_payload (version_of header) bytes) is
packet-bytes o header bytes part limit false r is =
    ap (with_payload (version_of header) bytes) (is ∙ payload-range bytes header)
    ∙ range-same bytes (payload_start (version_of header) bytes) (payload_end (version_of header) bytes) (range-order bytes header r)

-- ---- a checksum that is left to the device

pub is-syn : (bytes : List ℕ) (src dst : IpAddress) (verified : Bool) (v : TcpHeader) (payload : List ℕ) (limit : ℕ) → IsAbove limit v → Reads bytes src dst verified v payload → field bytes 110 1 ≡ 1
is-syn bytes src dst verified v payload limit above r = let flags : HasControl bytes control.Syn = subst (HasControl bytes) above.syn r.control in flags.syn

pub valid-stays : (src dst : IpAddress) (bytes : List ℕ) → Verifies src dst bytes → is_left_to_device offload.Guess src dst bytes ≡ false
valid-stays src dst bytes valid = grind (arith, nat_tests)

-- one that counts as left to the device is not verified
left-unverified : (o : Offload) (src dst : IpAddress) (bytes : List ℕ) (verified : Bool) → (o ≡ offload.Offloaded → verified ≡ false) → is_left_to_device o src dst bytes ≡ true
    → (verified ≡ true → Verifies src dst bytes) → verified ≢ true
left-unverified offload.Guess src dst bytes verified said left valid on = let other = valid-stays src dst bytes (valid on) in absurd (cc)
left-unverified offload.Offloaded src dst bytes verified said left valid on = let off = said refl in absurd (cc)
left-unverified offload.Complete src dst bytes verified said left valid on = absurd (cc)

pub none-left : (o : Offload) (src dst : IpAddress) (bytes part : List ℕ) (limit : ℕ) → part ≡ with_max_seg_size bytes limit
    → is_left_to_device o src dst bytes ≡ false → part ≡ resized o src dst bytes limit
none-left o src dst bytes part limit is other =
    let new = with_max_seg_size bytes limit in
    is ∙ sym (ap (λ (b : Bool). if b then with_field new 128 16 (field bytes 128 16) else new) other)

-- the segment is still read when its old checksum is put back, which was not valid
pub put-back : (o : Offload) (src dst : IpAddress) (bytes part new : List ℕ) (sum : ℕ) (verified : Bool) (v w : TcpHeader) (payload : List ℕ) → new ≡ with_field part 128 16 sum
    → (o ≡ offload.Offloaded → verified ≡ false) → is_left_to_device o src dst bytes ≡ true → Reads bytes src dst verified v payload → Reads part src dst verified w payload
    → Reads new src dst verified w payload
put-back o src dst bytes part new sum verified v w payload is said left before r =
    reads-summed part new sum src dst src dst verified verified w payload is r
    (λ on. absurd (left-unverified o src dst bytes verified said left before.checksum on))

-- ---- a frame with another packet

carries : (choice : Checksum) (old new body : List ℕ) (link : EthernetRepr) (header : IpRepr) (v : TcpHeader) (payload : List ℕ) → new ≡ take 14 old ++ body
    → ethernet.Reads old link → link.ethertype ≡ type_of header → ReadsSegment choice body header v payload → CarriesSegment choice new link header v payload
carries choice old new body link header v payload at reads named inner =
    let front : length (take 14 old) ≡ 14 = length-take-le 14 old reads.whole in
    let following : drop 14 new ≡ body = ap (drop 14) at ∙ drop_at (take 14 old) body 14 front in
    let there : ReadsSegment choice (drop 14 new) header v payload = subst (λ (l : List ℕ). ReadsSegment choice l header v payload) (sym following) inner in
    record {
      reads_header = subst (λ (l : List ℕ). ethernet.Reads l link) (sym at) (link-stays old body link reads);
      reads_carried = (named, there.0, there.1);
    }

-- ---- the segment of a frame

abbrev Parsed : Type 0
Parsed = Result (EthernetRepr × IpRepr × value.Transport) Error

-- a parsed packet is the one that the frame carries
abbrev ReadsPackets : ChecksumCapabilities → List ℕ → Type 0
ReadsPackets caps frame = (link : EthernetRepr) (v : IpRepr) (t : Transport) → (packet_of caps frame ≡ Some (link, v, t)) ↔ ReadsFrame caps frame link (packet v t)

pub has-segment : (caps : ChecksumCapabilities) (frame : List ℕ) (result : Parsed) (link : EthernetRepr) (header : IpRepr) (u : TcpRepr) → caps ≡ tcp_as checksum.None
    → IsPacket (packet_of caps frame) result → ReadsPackets caps frame → result ≡ Ok (link, header, transport.Tcp u)
    → (link : EthernetRepr) × (v : TcpHeader) × (payload : List ℕ) × CarriesSegment checksum.None frame link header v payload
has-segment caps frame result link header u same-caps found reads is =
    let (t, named, at) = subst (IsPacket (packet_of caps frame)) is found in
    let same : t ≡ segment (header_of u) u.payload.now = cc in
    let carried : ReadsFrame caps frame link (packet header (segment (header_of u) u.payload.now)) =
    (reads link header (segment (header_of u) u.payload.now)).0 (at ∙ ap (λ (t : Transport). Some (link, header, t)) same) in
    (link, header_of u, u.payload.now, subst (λ (k : ChecksumCapabilities). ReadsFrame k frame link (packet header (segment (header_of u) u.payload.now))) same-caps carried)

no-segment-in : (t : value.Transport) (v : TcpHeader) (payload : List ℕ) → ((u : TcpRepr) → ¬ (t ≡ transport.Tcp u)) → ¬ (transport_of t ≡ Some (segment v payload))
no-segment-in (transport.Udp u part) v payload other is = absurd (cc)
no-segment-in (transport.Tcp u) v payload other is = absurd (other u refl)
no-segment-in (transport.Other part) v payload other is = absurd (cc)
no-segment-in (transport.Unread part) v payload other is = absurd (cc)

pub other-transport : (caps : ChecksumCapabilities) (frame : List ℕ) (result : Parsed) (link : EthernetRepr) (header : IpRepr) (t : value.Transport) → caps ≡ tcp_as checksum.None
    → IsPacket (packet_of caps frame) result → ReadsPackets caps frame → result ≡ Ok (link, header, t) → ((u : TcpRepr) → ¬ (t ≡ transport.Tcp u))
    → (link : EthernetRepr) (header : IpRepr) (v : TcpHeader) (payload : List ℕ) → ¬ CarriesSegment checksum.None frame link header v payload
other-transport caps frame result link header t same-caps found reads is other l h v payload carried =
    let (t2, named, at) = subst (IsPacket (packet_of caps frame)) is found in
    let here : packet_of caps frame ≡ Some (l, h, segment v payload) =
    (reads l h (segment v payload)).1 (subst (λ (k : ChecksumCapabilities). ReadsFrame k frame l (packet h (segment v payload))) (sym same-caps) carried) in
    let same : t2 ≡ segment v payload = ap (λ (d : EthernetRepr × IpRepr × Transport). d.2) (computed-one _ (link, header, t2) (l, h, segment v payload) at here) in
    no-segment-in t v payload other (named ∙ ap Some same)

pub unparsed : (caps : ChecksumCapabilities) (frame : List ℕ) (result : Parsed) (error : Error) → caps ≡ tcp_as checksum.None
    → IsPacket (packet_of caps frame) result → ReadsPackets caps frame → result ≡ Err error
    → (link : EthernetRepr) (header : IpRepr) (v : TcpHeader) (payload : List ℕ) → ¬ CarriesSegment checksum.None frame link header v payload
unparsed caps frame result error same-caps found reads is l h v payload carried =
    let none = subst (IsPacket (packet_of caps frame)) is found in
    let here : packet_of caps frame ≡ Some (l, h, segment v payload) =
    (reads l h (segment v payload)).1 (subst (λ (k : ChecksumCapabilities). ReadsFrame k frame l (packet h (segment v payload))) (sym same-caps) carried) in
    absurd (cc)

-- ---- what C gets

-- the frame is clamped, as its packet
pub clamps : (o : Offload) (old new body : List ℕ) (link : EthernetRepr) (header : IpRepr) (v : TcpHeader) (payload : List ℕ) (limit : ℕ) (answer : ℤ) → answer ≡ pos 1
    → length old ≤ max_len → CarriesSegment checksum.None old link header v payload → IsAbove limit v → new ≡ take 14 old ++ body → body ≡ clamped o header (drop 14 old) limit
    → ((choice : Checksum) → (o ≡ offload.Offloaded → verifies choice ≡ false) → ReadsSegment choice (drop 14 old) header v payload → ReadsSegment choice body header (with_size limit v) payload)
    → Clamps o old new limit answer
clamps o old new body link header v payload limit answer one fits before above at is step =
    let done : IsClamped o old new limit =
    record {
      before = record { link = link; header = header; v = v; payload = payload; carries = before; above = above };
      after = λ choice said r. carries choice old new body link header (with_size limit v) payload at before.reads_header before.reads_carried.0 (step choice said (r.reads_carried.1, r.reads_carried.2));
      bytes = at ∙ ap (λ (l : List ℕ). take 14 old ++ l) is;
    } in
    inl (one, fits, done)

stays : (o : Offload) (frame new : List ℕ) (limit : ℕ) (answer : ℤ) → answer ≡ pos 0 → length frame ≤ max_len → ¬ IsTooLarge frame limit → new ≡ frame → Clamps o frame new limit answer
stays o frame new limit answer zero fits small is = inr (zero, subst (λ (l : List ℕ). ¬ IsTooLarge l limit) (sym (within-itself frame fits)) small, is)

-- the segment is the only one that the frame carries, so the frame is not clamped if it is not above the limit
pub not-above : (o : Offload) (frame new : List ℕ) (link : EthernetRepr) (header : IpRepr) (v : TcpHeader) (payload : List ℕ) (limit : ℕ) (answer : ℤ) → answer ≡ pos 0
    → length frame ≤ max_len → CarriesSegment checksum.None frame link header v payload → ¬ IsAbove limit v → new ≡ frame → Clamps o frame new limit answer
not-above o frame new link header v payload limit answer zero fits carried small is =
    let none : ¬ IsTooLarge frame limit =
    λ large.
    let same : packet large.header (segment large.v large.payload) ≡ packet header (segment v payload) =
    (frame-once (tcp_as checksum.None) frame large.link link _ _ large.carries carried).1 in
    let values : large.v ≡ v = cc in
    small (subst (IsAbove limit) values large.above) in
    stays o frame new limit answer zero fits none is

-- a frame without a segment is not clamped
pub no-segment : (o : Offload) (frame new : List ℕ) (limit : ℕ) (answer : ℤ) → answer ≡ pos 0 → length frame ≤ max_len
    → ((link : EthernetRepr) (header : IpRepr) (v : TcpHeader) (payload : List ℕ) → ¬ CarriesSegment checksum.None frame link header v payload)
    → new ≡ frame → Clamps o frame new limit answer
no-segment o frame new limit answer zero fits none is = stays o frame new limit answer zero fits (λ large. none large.link large.header large.v large.payload large.carries) is

-- a frame that is too long is no frame
pub too-long : (o : Offload) (frame : List ℕ) (limit : ℕ) (answer : ℤ) → answer ≡ pos 0 → max_len < length frame → Clamps o frame frame limit answer
too-long o frame limit answer zero long =
    let none : ¬ IsTooLarge [] limit = λ large. let whole = large.carries.reads_header.whole in absurd (omega (arith, whole)) in
    inr (zero, subst (λ (l : List ℕ). ¬ IsTooLarge l limit) (sym (within-nothing frame long)) none, refl)
