-- A frame is translated exactly as its packet, and rejected for the same reason.
use Rattle.std.proofs.Common.{IfErr, ℕ, ◌≡◌, ◌≤◌, ◌%◌, ◌++◌, ◌↔◌, Bool, true, false, List, inl, inr, Result, Ok, Err, length, drop, take, sym, ap, subst, ◌∙◌, arith}
use Rattle.std.proofs.lemmas.List.{drop_at, length-take-le}
use Rattle.ip_wire.proofs.ByteLists.{AreBytes-drop, AreBytes-slice_range}
use Rattle.ip_wire.proofs.Spelled.{AreBytes}
use Rattle.ip_wire.specs.Ethernet as ethernet
use Rattle.ip_wire.specs.Field.{field, with_range}
use Rattle.ip_wire.specs.Frame.{ReadsTransport, all_checked, ipv4_payload}
use Rattle.ip_wire.specs.IpAddress.{address_bytes}
use Rattle.ip_wire.specs.Ipv4 as ipv4
use Rattle.ip_wire.specs.Protocol.{protocol_of}
use Rattle.ip_wire.specs.TcpRepr.{TcpHeader}
use Rattle.ip_wire.specs.Types.{EthernetRepr, IpAddress, IpProtocol, Ipv4, Ipv4Repr, UdpRepr}
use Rattle.ip_wire.specs.declared.EthernetProtocol.TheVariants as ethertype
use Rattle.ip_wire.specs.declared.IpAddress.TheVariants as address
use Rattle.ip_wire.specs.declared.IpProtocol.TheVariants as protocol
use Rattle.app_nat.proofs.EchoEnds.{echo-len}
use Rattle.app_nat.proofs.Echoes.{plain-other}
use Rattle.app_edit.proofs.OtherPayloads.{inner-payload, link-stays, payload-len, reads-inner, same-inner}
use Rattle.app_nat.proofs.Headers.{keeps}
use Rattle.app_edit.proofs.Payloads.{range-len}
use Rattle.app_nat.proofs.TcpEnds.{tcp-len}
use Rattle.app_nat.proofs.UdpEnds.{udp-ended}
use Rattle.app_nat.specs.Nat.{AllowsPort, Carries, CarriesPorts, IsRejected, IsTranslated, IsUntranslated, LacksChecksum, ReadsPorts, RejectsPort, Rewrites, Transport, addr_at, addr_of, translated_packet, with_addr, with_address, with_end, with_port, datagram, segment, request, reply, plain}
use Rattle.app_nat.specs.declared.translation.Rejection.{Rejection}
use Rattle.app_nat.specs.declared.translation.Rejection.TheVariants.{ZeroPort}
use Rattle.app_edit.specs.declared.side.Side.{Side}
use Rattle.app_edit.specs.declared.side.Side.TheVariants.{Source, Destination}

-- ---- the transport

-- a UDP packet parses as UDP
pub has-udp : (v : Ipv4Repr) (bytes : List ℕ) (t : Transport) → v.next_header ≡ protocol.Udp → ReadsPorts v bytes t → 8 ≤ length bytes
has-udp v bytes (datagram u payload) is r = r.1.lengths.least
has-udp v bytes (segment u payload) is r = let differs : protocol.Udp ≡ protocol.Tcp = sym is ∙ r.0 in absurd (cc)
has-udp v bytes (request ident seq_no payload) is r = let differs : protocol.Udp ≡ protocol.Icmp = sym is ∙ r.0 in absurd (cc)
has-udp v bytes (reply ident seq_no payload) is r = let differs : protocol.Udp ≡ protocol.Icmp = sym is ∙ r.0 in absurd (cc)

-- a translated payload has the same length
pub ended-len : (v : Ipv4Repr) (side : Side) (old new : List ℕ) (port : ℕ) (bytes : List ℕ) (t : Transport) → AreBytes bytes
    → ReadsPorts v bytes t → length (with_end v.next_header side old new port bytes) ≡ length bytes
ended-len v side old new port bytes (datagram u payload) are r =
    ap (λ (p : IpProtocol). length (with_end p side old new port bytes)) r.0 ∙ (udp-ended side bytes old new port are r.1.lengths.least).long
ended-len v side old new port bytes (segment u payload) are r =
    ap (λ (p : IpProtocol). length (with_end p side old new port bytes)) r.0 ∙ tcp-len side bytes old new port r.1.lengths.least
ended-len v side old new port bytes (request ident seq_no payload) are r =
    ap (λ (p : IpProtocol). length (with_end p side old new port bytes)) r.0 ∙ echo-len new port bytes r.1.least
ended-len v side old new port bytes (reply ident seq_no payload) are r =
    ap (λ (p : IpProtocol). length (with_end p side old new port bytes)) r.0 ∙ echo-len new port bytes r.1.least

-- the address has whole words
pub even : (a : List ℕ) → length a ≡ 4 → length a % 2 ≡ 0
even a e = omega (arith, e)

-- the address on a side has four bytes
pub four-octets : (side : Side) (v : Ipv4Repr) → length v.src_addr ≡ 4 → length v.dst_addr ≡ 4 → length (addr_of side v) ≡ 4
four-octets Source v src dst = src
four-octets Destination v src dst = dst

-- A packet with a new address at one of its ends, by the contracts of both setters. The relation takes the address of this
-- end and that of the other.
pub moved-end : {V : Type 0} (Reads : List ℕ → IpAddress → IpAddress → Bool → V → List ℕ → Type 0) (put : V → V) (old mid new addr own far from : List ℕ)
    → own ≡ from → length addr ≡ 4 → length far ≡ 4
    → ((d : IpAddress) (verified : Bool) (u : V) (payload : List ℕ) → length (address_bytes d) % 2 ≡ 0 → Reads old (address.Ipv4 from) d verified u payload
    → Reads mid (address.Ipv4 addr) d verified u payload)
    → ((s d : IpAddress) (verified : Bool) (u : V) (payload : List ℕ) → length (address_bytes s) % 2 ≡ 0 → length (address_bytes d) % 2 ≡ 0 → Reads mid s d verified u payload → Reads new s d verified (put u) payload)
    → (u : V) (payload : List ℕ) → Reads old (address.Ipv4 own) (address.Ipv4 far) true u payload → Reads new (address.Ipv4 addr) (address.Ipv4 far) true (put u) payload
moved-end {V} Reads put old mid new addr own far from was four four' first second u payload r =
    second (address.Ipv4 addr) (address.Ipv4 far) true u payload (even addr four) (even far four')
    (first (address.Ipv4 far) true u payload (even far four') (subst (λ (a : List ℕ). Reads old (address.Ipv4 a) (address.Ipv4 far) true u payload) was r))

-- the same for a side and bytes that are equal to these
pub rewritten : (side on : Side) (v : Ipv4Repr) (old done new addr : List ℕ) (port : ℕ) (t : Transport) → side ≡ on → new ≡ done → Rewrites v old done on addr port t → Rewrites v old new side addr port t
rewritten side on v old done new addr port t is at r =
    subst (λ (s : Side). Rewrites v old new s addr port t) (sym is) (subst (λ (l : List ℕ). Rewrites v old l on addr port t) (sym at) r)

-- each transport, from its own setters
pub rewrites-udp : (v : Ipv4Repr) (old new : List ℕ) (side : Side) (addr : List ℕ) (port : ℕ) → v.next_header ≡ protocol.Udp
    → ((u : UdpRepr) (payload : List ℕ) → Rewrites v old new side addr port (datagram u payload))
    → (t : Transport) → Rewrites v old new side addr port t
rewrites-udp v old new side addr port is step (datagram u payload) a r = step u payload a r
rewrites-udp v old new side addr port is step (segment u payload) a r = let differs : protocol.Udp ≡ protocol.Tcp = sym is ∙ r.0 in absurd (cc)
rewrites-udp v old new side addr port is step (request ident seq_no payload) a r = let differs : protocol.Udp ≡ protocol.Icmp = sym is ∙ r.0 in absurd (cc)
rewrites-udp v old new side addr port is step (reply ident seq_no payload) a r = let differs : protocol.Udp ≡ protocol.Icmp = sym is ∙ r.0 in absurd (cc)

-- the translated payload of a TCP packet is its translated segment
pub rewrites-tcp : (v : Ipv4Repr) (old new : List ℕ) (side : Side) (addr : List ℕ) (port : ℕ) → v.next_header ≡ protocol.Tcp
    → ((u : TcpHeader) (payload : List ℕ) → Rewrites v old new side addr port (segment u payload))
    → (t : Transport) → Rewrites v old new side addr port t
rewrites-tcp v old new side addr port is step (datagram u payload) a r = let differs : protocol.Tcp ≡ protocol.Udp = sym is ∙ r.0 in absurd (cc)
rewrites-tcp v old new side addr port is step (segment u payload) a r = step u payload a r
rewrites-tcp v old new side addr port is step (request ident seq_no payload) a r = let differs : protocol.Tcp ≡ protocol.Icmp = sym is ∙ r.0 in absurd (cc)
rewrites-tcp v old new side addr port is step (reply ident seq_no payload) a r = let differs : protocol.Tcp ≡ protocol.Icmp = sym is ∙ r.0 in absurd (cc)

-- ---- the packet

-- a packet with a new payload, then with a new address
pub packet-carries : (bytes part new : List ℕ) (v : Ipv4Repr) (side : Side) (addr : List ℕ) (port : ℕ) (t : Transport) → length addr ≡ 4
    → AllowsPort side t port → CarriesPorts bytes v t → length part ≡ length (ipv4_payload bytes) → Rewrites v (ipv4_payload bytes) part side addr port t
    → new ≡ with_address side addr (with_range bytes (ipv4.header_len bytes) (ipv4.total_len bytes) part)
    → ((w : Ipv4Repr) → ipv4.Reads (with_range bytes (ipv4.header_len bytes) (ipv4.total_len bytes) part) true w → ipv4.Reads new true (with_addr side addr w))
    → CarriesPorts new (with_addr side addr v) (with_port side port t)
packet-carries bytes part new v side addr port t four allowed c e rewrites at step =
    let h = ipv4.header_len bytes in
    let n = ipv4.total_len bytes in
    let r = c.reads.0 in
    let inner = with_range bytes h n part in
    let len = e ∙ payload-len bytes v r in
    let same = (same-inner bytes part h n r.lengths.least r.lengths.header (omega (arith, r.lengths.header, r.lengths.within))).shape in
    let long = range-len bytes part h n r.lengths.within r.lengths.whole len in
    let k = keeps side inner addr (omega (arith, long, r.lengths.least)) (omega (arith, same.header, r.lengths.header)) four in
    let fragment : ipv4.is_fragment new ≡ false = ap ipv4.is_fragment at ∙ k.shape.fragment ∙ same.fragment ∙ c.reads.1 in
    let payload : ipv4_payload new ≡ part = ap ipv4_payload at ∙ k.payload ∙ inner-payload bytes part v r e in
    record {
      reads = (step v (reads-inner bytes part v r len), fragment);
      carries = subst (λ (l : List ℕ). ReadsPorts (with_addr side addr v) l (with_port side port t)) (sym payload) (rewrites allowed c.carries);
    }

-- the address of a parsed header is the address in the bytes
pub addr-read : (side : Side) (bytes : List ℕ) (v : Ipv4Repr) → ipv4.Reads bytes true v → addr_of side v ≡ addr_at side bytes
addr-read Source bytes v r = r.src_addr
addr-read Destination bytes v r = r.dst_addr

pub packet-bytes : (bytes part new : List ℕ) (v : Ipv4Repr) (side : Side) (addr : List ℕ) (port : ℕ) → ipv4.Reads bytes true v
    → part ≡ with_end v.next_header side (addr_of side v) addr port (ipv4_payload bytes)
    → new ≡ with_address side addr (with_range bytes (ipv4.header_len bytes) (ipv4.total_len bytes) part)
    → new ≡ translated_packet side addr port bytes
packet-bytes bytes part new v side addr port r is at =
    let old = addr-read side bytes v r in
    let written : part ≡ with_end (protocol_of (field bytes 72 8)) side (addr_at side bytes) addr port (ipv4_payload bytes) =
    is ∙ (λ i. with_end (r.next_header i) side (old i) addr port (ipv4_payload bytes)) in
    at ∙ ap (λ (l : List ℕ). with_address side addr (with_range bytes (ipv4.header_len bytes) (ipv4.total_len bytes) l)) written

-- the same for a packet that is written
pub record IsWritten (side : Side) (v : Ipv4Repr) (bytes new addr : List ℕ) (port : ℕ) : Type 0 where
  pub carries : (t : Transport) → AllowsPort side t port → CarriesPorts bytes v t → CarriesPorts new (with_addr side addr v) (with_port side port t)
  pub as_said : new ≡ translated_packet side addr port bytes

pub written : (side : Side) (v : Ipv4Repr) (bytes part new addr : List ℕ) (port : ℕ) → length addr ≡ 4 → ipv4.Reads bytes true v → length part ≡ length (ipv4_payload bytes)
    → ((t : Transport) → Rewrites v (ipv4_payload bytes) part side addr port t) → part ≡ with_end v.next_header side (addr_of side v) addr port (ipv4_payload bytes)
    → new ≡ with_address side addr (with_range bytes (ipv4.header_len bytes) (ipv4.total_len bytes) part)
    → ((w : Ipv4Repr) → ipv4.Reads (with_range bytes (ipv4.header_len bytes) (ipv4.total_len bytes) part) true w → ipv4.Reads new true (with_addr side addr w))
    → IsWritten side v bytes new addr port
written side v bytes part new addr port four r e rewrites is at step = record {
  carries = λ t a c. packet-carries bytes part new v side addr port t four a c e (rewrites t) at step;
  as_said = packet-bytes bytes part new v side addr port r is at;
}

-- ---- the frame

-- what parses as a transport parses without ICMP too
reads-plain : (v : Ipv4Repr) (bytes : List ℕ) (t : Transport) → ReadsPorts v bytes t → ReadsTransport all_checked (Ipv4 v) bytes (plain t bytes)
reads-plain v bytes (datagram u payload) r = r
reads-plain v bytes (segment u payload) r = r
reads-plain v bytes (request ident seq_no payload) r = plain-other v bytes r.0
reads-plain v bytes (reply ident seq_no payload) r = plain-other v bytes r.0

-- the packet of an accepted frame
pub carried : (frame : List ℕ) (link : EthernetRepr) (v : Ipv4Repr) (t : Transport) → Carries frame link v t → CarriesPorts (drop 14 frame) v t
carried frame link v t c = record { reads = c.reads.reads_carried.1; carries = c.ports }

-- a frame with an IPv4 header that parses carries this packet
pub framed : (frame : List ℕ) (link : EthernetRepr) (v : Ipv4Repr) (t : Transport) → ethernet.Reads frame link → link.ethertype ≡ ethertype.Ipv4
    → CarriesPorts (drop 14 frame) v t → Carries frame link v t
framed frame link v t reads named c =
    record { reads = record { reads_header = reads; reads_carried = (named, c.reads, reads-plain v (ipv4_payload (drop 14 frame)) t c.carries) }; ports = c.carries }

-- whether there is a checksum
unsummed : (bytes : List ℕ) (v : Ipv4Repr) (t : Transport) (side : Side) (addr : List ℕ) (port : ℕ) → length addr ≡ 4 → AreBytes bytes → CarriesPorts bytes v t
    → ((protocol_of (field bytes 72 8) ≡ protocol.Udp) × (field (ipv4_payload bytes) 48 16 ≡ 0))
    ↔ ((protocol_of (field (translated_packet side addr port bytes) 72 8) ≡ protocol.Udp) × (field (ipv4_payload (translated_packet side addr port bytes)) 48 16 ≡ 0))
unsummed bytes v t side addr port four are c =
    let h = ipv4.header_len bytes in
    let n = ipv4.total_len bytes in
    let r = c.reads.0 in
    let inner_bytes = ipv4_payload bytes in
    let inner_are = AreBytes-slice_range bytes h n are in
    let p = protocol_of (field bytes 72 8) in
    let old = addr_at side bytes in
    let part = with_end p side old addr port inner_bytes in
    let part_len : length part ≡ length inner_bytes =
    ap (λ (q : IpProtocol). length (with_end q side old addr port inner_bytes)) (sym r.next_header) ∙ ended-len v side old addr port inner_bytes t inner_are c.carries in
    let len = part_len ∙ payload-len bytes v r in
    let inner = with_range bytes h n part in
    let same = (same-inner bytes part h n r.lengths.least r.lengths.header (omega (arith, r.lengths.header, r.lengths.within))).shape in
    let long = range-len bytes part h n r.lengths.within r.lengths.whole len in
    let k = keeps side inner addr (omega (arith, long, r.lengths.least)) (omega (arith, same.header, r.lengths.header)) four in
    let named : field (translated_packet side addr port bytes) 72 8 ≡ field bytes 72 8 = k.shape.protocol ∙ same.protocol in
    let payload : ipv4_payload (translated_packet side addr port bytes) ≡ part = k.payload ∙ inner-payload bytes part v r part_len in
    let same_sum : p ≡ protocol.Udp → (field inner_bytes 48 16 ≡ 0) ↔ (field part 48 16 ≡ 0) =
    λ is. subst (λ (q : IpProtocol). (field inner_bytes 48 16 ≡ 0) ↔ (field (with_end q side old addr port inner_bytes) 48 16 ≡ 0)) (sym is)
    (udp-ended side inner_bytes old addr port inner_are (has-udp v inner_bytes t (r.next_header ∙ is) c.carries)).unsummed in (
      λ lacks. (ap protocol_of named ∙ lacks.0, ap (λ (l : List ℕ). field l 48 16) payload ∙ (same_sum lacks.0).0 lacks.1),
      λ lacks.
          let is = ap protocol_of (sym named) ∙ lacks.0 in
          (is, (same_sum is).1 (ap (λ (l : List ℕ). field l 48 16) (sym payload) ∙ lacks.1)),
    )

-- writing a translated packet after the Ethernet header gives the translated frame
pub translates : (frame new body : List ℕ) (link : EthernetRepr) (v : Ipv4Repr) (t : Transport) (side : Side) (addr : List ℕ) (port : ℕ)
    → length addr ≡ 4 → AreBytes frame → Carries frame link v t → CarriesPorts body (with_addr side addr v) (with_port side port t)
    → body ≡ translated_packet side addr port (drop 14 frame) → new ≡ take 14 frame ++ body → IsTranslated frame new side addr port
translates frame new body link v t side addr port four are c after is at =
    let front : length (take 14 frame) ≡ 14 = length-take-le 14 frame c.reads.reads_header.whole in
    let after_header : drop 14 new ≡ body = ap (drop 14) at ∙ drop_at (take 14 frame) body 14 front in
    let reads : ethernet.Reads new link = subst (λ (l : List ℕ). ethernet.Reads l link) (sym at) (link-stays frame body link c.reads.reads_header) in
    let whole : CarriesPorts (drop 14 new) (with_addr side addr v) (with_port side port t) = subst (λ (l : List ℕ). CarriesPorts l (with_addr side addr v) (with_port side port t)) (sym after_header) after in
    let lacks = unsummed (drop 14 frame) v t side addr port four (AreBytes-drop 14 frame are) (carried frame link v t c) in
    record {
      link = link;
      header = v;
      transport = t;
      before = c;
      after = framed new link (with_addr side addr v) (with_port side port t) reads c.reads.reads_carried.0 whole;
      unsummed = subst
          (λ (l : List ℕ). LacksChecksum frame ↔ ((protocol_of (field l 72 8) ≡ protocol.Udp) × (field (ipv4_payload l) 48 16 ≡ 0)))
          (sym (after_header ∙ is)) lacks;
      bytes = at ∙ ap (λ (l : List ℕ). take 14 frame ++ l) is;
    }

-- a frame that is not parsed is not translated, for the same reason
pub untranslated : (frame : List ℕ) (side : Side) (port : ℕ) (reason : Rejection) → IsRejected frame reason → IsUntranslated frame side port reason
untranslated frame side port reason why = inl why

-- a frame whose port is rejected is not translated
pub disallowed : {T : Type 0} (answer : Result T Rejection) (frame : List ℕ) (side : Side) (port : ℕ) → IfErr answer (λ reason. reason ≡ ZeroPort)
    → IfErr answer (λ _. RejectsPort frame side port) → IfErr answer (IsUntranslated frame side port)
disallowed (Ok v) frame side port is why = tt
disallowed (Err reason) frame side port is why = inr (is, why)
