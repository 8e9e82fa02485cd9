-- The struct of a frame that is parsed whole stores its values.
use Rattle.std.proofs.Common.{ℕ, ◌≡◌, ◌∙◌, ◌↔◌, ◌≢◌, ◌⊎◌, inl, inr, ◌==◌, if◌then◌else◌, Bool, true, false, IsTrue, List, Some, ap, drop, length, take, refl, sym, arith}
use Rattle.std.proofs.lemmas.Bool.{eqb-true}
use Rattle.ip_wire.proofs.ArpComputed.{arp_of-Reads}
use Rattle.ip_wire.proofs.Ipv4Computed.{ipv4_of-Reads}
use Rattle.ip_wire.proofs.Ipv6Computed.{ipv6_of-Reads}
use Rattle.ip_wire.proofs.UdpComputed.{HasLengths-has_lengths, has_checksum-HasChecksum}
use Rattle.ip_wire.proofs.Ipv4Changed as ipv4_changed
use Rattle.ip_wire.proofs.TcpChanged as tcp_changed
use Rattle.ip_wire.proofs.UdpChanged as udp_changed
use Rattle.ip_wire.specs.Arp.{arp_of}
use Rattle.ip_wire.specs.Frame.{Carried, ReadsTransportBy, ReadsPacket, Transport, datagram, ipv4_payload, message, other, packet, segment}
use Rattle.ip_wire.specs.Ip.{ReadsHeader, dst_addr_of, src_addr_of}
use Rattle.ip_wire.specs.Ipv4 as ipv4
use Rattle.ip_wire.specs.Ipv4.{ipv4_of}
use Rattle.ip_wire.specs.Ipv6.{ipv6_of}
use Rattle.ip_wire.specs.Tcp as tcp_bytes
use Rattle.ip_wire.specs.Udp as udp
use Rattle.ip_wire.specs.Types.{ArpRepr, EthernetProtocol, EthernetRepr, IpAddress, IpProtocol, IpRepr, Ipv4, Ipv4Repr, Ipv6, Ipv6Repr}
use Rattle.ip_wire.specs.declared.ArpRepr.TheVariants.{EthernetIpv4}
use Rattle.ip_wire.specs.declared.EthernetProtocol.TheVariants as ethertype
use Rattle.ip_wire.specs.Field.{field}
use Rattle.ip_wire.specs.Checksum.{verifies}
use Rattle.ip_wire.specs.declared.ChecksumCapabilities.{ChecksumCapabilities}
use Rattle.c_structs.specs.Codes.{verdict_code}
use Rattle.c_structs.specs.Verdicts.{udp_verdict, icmp_verdict}
use Rattle.c_structs.specs.declared.codes.Verdict.{Verdict}
use Rattle.c_structs.specs.declared.codes.Verdict.TheVariants as verdict
use Rattle.c_structs.specs.declared.types.FrameFields.{FrameFields}
use Rattle.c_structs.specs.declared.types.Ip.{Ip}
use Rattle.c_read.proofs.FieldsOf.{fields_of-is}
use Rattle.c_read.proofs.StoredHeaders.{frame_headers-linked, is-headed, is-transported, other-chosen, with_transport_by-read}
use Rattle.c_read.specs.FrameFields.{fields_of, frame_headers, with_captured, with_carried, with_ipv4_header, with_message, with_part, with_payload, with_transport_by, has_message, with_icmp}
use Rattle.c_read.specs.Stored.{HasTransport, HasVerdicts, StepsFrame, Stores, headed, headed_by, linked, struct_of, transported, unchecked, upper_payload, upper_protocol}

-- ---- the whole frame

-- what is stored of an IPv4 packet that is no fragment
pub with_carried-ipv4 : (f : FrameFields) (t : EthernetProtocol) (bytes : List ℕ) (w : Ipv4Repr) → t ≡ ethertype.Ipv4 → ipv4_of false bytes ≡ Some w → ipv4.is_fragment bytes ≡ false
    → with_carried f t bytes ≡ with_payload (with_ipv4_header f bytes w) (Ipv4 w) (ipv4_payload bytes)
with_carried-ipv4 f t bytes w type read whole = rw (type, read) (other-chosen (ipv4.is_fragment bytes) _ _ whole)

-- what is stored of an IPv6 packet
pub with_carried-ipv6 : (f : FrameFields) (t : EthernetProtocol) (bytes : List ℕ) (w : Ipv6Repr) → t ≡ ethertype.Ipv6 → ipv6_of bytes ≡ Some w
    → with_carried f t bytes ≡ with_transport_by (headed_by f bytes (Ipv6 w)) (upper_protocol (Ipv6 w) bytes) (src_addr_of (Ipv6 w)) (dst_addr_of (Ipv6 w)) (upper_payload (Ipv6 w) bytes)
with_carried-ipv6 f t bytes w type read = rw (type, read) refl

with_carried-arp : (f : FrameFields) (t : EthernetProtocol) (bytes : List ℕ) (w : ArpRepr) → t ≡ ethertype.Arp → arp_of bytes ≡ Some w
    → with_carried f t bytes ≡ with_message f w
with_carried-arp f t bytes w type read = rw (type, read) refl

-- what is stored of an IPv4 packet, a fragment or not
pub with_carried-choice : (f : FrameFields) (t : EthernetProtocol) (bytes : List ℕ) (w : Ipv4Repr) → t ≡ ethertype.Ipv4 → ipv4_of false bytes ≡ Some w
    → with_carried f t bytes ≡ (if ipv4.is_fragment bytes then with_part (with_ipv4_header f bytes w) (ipv4_payload bytes) else with_payload (with_ipv4_header f bytes w) (Ipv4 w) (ipv4_payload bytes))
with_carried-choice f t bytes w type read = rw (type, read) refl

-- the headers of a frame that is parsed whole
frame_headers-read : (frame : List ℕ) (v : EthernetRepr) (w : Carried) → StepsFrame unchecked frame v w → frame_headers frame ≡ struct_of frame v w
frame_headers-read frame v (message w) r =
    let (type, inner) = r.reads_carried in
    let read = (arp_of-Reads (drop 14 frame) w).1 inner in
    frame_headers-linked frame v r.reads_header ∙ with_carried-arp (linked frame v) v.ethertype (drop 14 frame) w type read
frame_headers-read frame v (packet (Ipv4 w) t) r =
    let bytes = drop 14 frame in
    let (type, (header, whole), none, inner) = r.reads_carried in
    let read = (ipv4_of-Reads false bytes w).1 header in
    frame_headers-linked frame v r.reads_header ∙ with_carried-ipv4 (linked frame v) v.ethertype bytes w type read whole
    ∙ with_transport_by-read (headed frame v (Ipv4 w)) w.next_header (src_addr_of (Ipv4 w)) (dst_addr_of (Ipv4 w)) (ipv4_payload bytes) t inner
frame_headers-read frame v (packet (Ipv6 w) t) r =
    let bytes = drop 14 frame in
    let (type, header, none, inner) = r.reads_carried in
    let read = (ipv6_of-Reads bytes w).1 header in
    frame_headers-linked frame v r.reads_header ∙ with_carried-ipv6 (linked frame v) v.ethertype bytes w type read
    ∙ with_transport_by-read (headed frame v (Ipv6 w)) (upper_protocol (Ipv6 w) bytes) (src_addr_of (Ipv6 w)) (dst_addr_of (Ipv6 w)) (upper_payload (Ipv6 w) bytes) t inner

-- the struct of a frame that is parsed whole
fields_of-read : (frame : List ℕ) (v : EthernetRepr) (w : Carried) → StepsFrame unchecked frame v w → fields_of frame ≡ with_captured (length frame) (struct_of frame v w)
fields_of-read frame v w r = fields_of-is frame ∙ ap (with_captured (length frame)) (frame_headers-read frame v w r)

-- what a transport header leaves as it is
record KeepsHeader (f g : FrameFields) : Type 0 where
  network : g.network ≡ f.network
  checksum : g.ipv4_checksum ≡ f.ipv4_checksum
  ip : g.ip ≡ f.ip

message-kept : (a : Bool) (f : FrameFields) (q : List ℕ) (v : Verdict) → KeepsHeader f (if a then with_icmp f q v else f)
message-kept true f q v = record { network = refl; checksum = refl; ip = refl }
message-kept false f q v = record { network = refl; checksum = refl; ip = refl }

kept : (f : FrameFields) (p : IpProtocol) (src dst : IpAddress) (bytes : List ℕ) (t : Transport) → KeepsHeader f (transported f p src dst bytes t)
kept f p src dst bytes (datagram u q) = record { network = refl; checksum = refl; ip = refl }
kept f p src dst bytes (segment u q) = record { network = refl; checksum = refl; ip = refl }
kept f p src dst bytes (other q) = message-kept (has_message p src q) f q (icmp_verdict src dst q)

-- the header of a packet that is no fragment
plain : (bytes : List ℕ) (w : IpRepr) → ReadsPacket unchecked bytes w → ReadsHeader bytes false w
plain bytes (Ipv4 w) r = r.0
plain bytes (Ipv6 w) r = r

-- the number of captured bytes is no value of a header
counted-transport : (n : ℕ) (f : FrameFields) (t : Transport) → HasTransport f t → HasTransport (with_captured n f) t
counted-transport n f (datagram u q) h = h
counted-transport n f (segment u q) h =
    record { src_port = h.src_port; dst_port = h.dst_port; seq_number = h.seq_number; ack_number = h.ack_number; ack = h.ack; control = h.control; window_len = h.window_len }
counted-transport n f (other q) h = h

stores-struct : (frame : List ℕ) (v : EthernetRepr) (w : Carried) → StepsFrame unchecked frame v w → Stores (with_captured (length frame) (struct_of frame v w)) frame v w
stores-struct frame v (message (EthernetIpv4 operation source_hardware source_protocol target_hardware target_protocol)) r =
    record { fields = refl; values = tt; payload = record { len = refl; octets = refl } }
stores-struct frame v (packet w t) r =
    let bytes = upper_payload w (drop 14 frame) in
    let p = upper_protocol w (drop 14 frame) in
    let (type, header, none, inner) = r.reads_carried in
    let h = is-headed frame v w (plain (drop 14 frame) w header) in
    let d = is-transported (headed frame v w) p (src_addr_of w) (dst_addr_of w) frame bytes t h.payload inner in
    let k = kept (headed frame v w) p (src_addr_of w) (dst_addr_of w) bytes t in
    record {
      fields = refl;
      values = (ap (λ (i : Ip). i.protocol) k.ip ∙ h.protocol, counted-transport (length frame) (struct_of frame v (packet w t)) t d.values);
      payload = record { len = d.payload.len; octets = d.payload.octets };
    }

-- the struct of a frame that is parsed whole stores its values
pub stores-read : (frame : List ℕ) (v : EthernetRepr) (w : Carried) → StepsFrame unchecked frame v w → Stores (fields_of frame) frame v w
stores-read frame v w r = rw (fields_of-read frame v w r) (stores-struct frame v w r)

-- ---- checksums

-- a choice of two structs with this network header
pub chosen-network : (b : Bool) (f g : FrameFields) (n : ℕ) → f.network ≡ n → g.network ≡ n → (if b then f else g).network ≡ n
chosen-network true f g n a b = a
chosen-network false f g n a b = b

-- the first of two verdicts, where the second is not "right"
choice-is : (b : Bool) (y : Verdict) → verdict_code y ≢ 1 → (verdict_code (if b then verdict.Right else y) ≡ 1) ↔ (b ≡ true)
choice-is true y not = (λ e. refl, λ e. refl)
choice-is false y not = (λ e. absurd (not e), λ e. absurd (cc))

-- a sum is 0xffff where its verdict is "right"
sum-is : (n : ℕ) (y : Verdict) → verdict_code y ≢ 1 → (verdict_code (if n == 65535 then verdict.Right else y) ≡ 1) ↔ (n ≡ 65535)
sum-is n y not = (λ e. eqb-true n 65535 ((choice-is (n == 65535) y not).0 e), λ e. (choice-is (n == 65535) y not).1 (rw e refl))

not-right : verdict_code verdict.Wrong ≢ 1
not-right e = absurd (omega (arith, e))

partial-not-right : (b : Bool) → verdict_code (if b then verdict.LeftToDevice else verdict.Wrong) ≢ 1
partial-not-right true e = absurd (omega (arith, e))
partial-not-right false e = absurd (omega (arith, e))

-- a UDP checksum is valid where its verdict is "right" or "left out"
abbrev IsValid : Verdict → Type 0
IsValid v = (verdict_code v ≡ 1) ⊎ (verdict_code v ≡ 3)

udp-is-by : (zero ipv4 sum partial : Bool)
    → IsValid (if zero then (if ipv4 then verdict.LeftOut else verdict.Wrong) else if sum then verdict.Right else if partial then verdict.LeftToDevice else verdict.Wrong)
    ↔ ((if zero then ipv4 else sum) ≡ true)
udp-is-by true true sum partial = (λ v. refl, λ e. inr refl)
udp-is-by true false sum partial = (λ v. elim v [ inl e ↦ absurd (omega (arith, e)) | inr e ↦ absurd (omega (arith, e)) ], λ e. absurd (cc))
udp-is-by false ipv4 true partial = (λ v. refl, λ e. inl refl)
udp-is-by false ipv4 false true = (λ v. elim v [ inl e ↦ absurd (omega (arith, e)) | inr e ↦ absurd (omega (arith, e)) ], λ e. absurd (cc))
udp-is-by false ipv4 false false = (λ v. elim v [ inl e ↦ absurd (omega (arith, e)) | inr e ↦ absurd (omega (arith, e)) ], λ e. absurd (cc))

udp-is : (src dst : IpAddress) (bytes : List ℕ) → IsValid (udp_verdict src dst bytes) ↔ (udp.has_checksum src dst bytes ≡ true)
udp-is src dst bytes = udp-is-by (field bytes 48 16 == 0) (udp.is_ipv4 src) (udp.packet_sum src dst (take (udp.packet_len bytes) bytes) == 65535) (field bytes 48 16 == udp.pseudo_header_sum src dst bytes)

-- lengths that are valid are tested as such
stored-verdict : (src dst : IpAddress) (bytes : List ℕ) → udp.HasLengths bytes
    → (if udp.has_lengths bytes then udp_verdict src dst bytes else verdict.None) ≡ udp_verdict src dst bytes
stored-verdict src dst bytes h = rw (HasLengths-has_lengths bytes h) refl

-- the verdict on a header
packet-verdict : (caps : ChecksumCapabilities) (frame : List ℕ) (v : EthernetRepr) (w : IpRepr) → ReadsPacket unchecked (drop 14 frame) w
    → ReadsPacket caps (drop 14 frame) w
    ↔ (IsTrue (verifies caps.ipv4) → (headed frame v w).network ≡ 2 → (headed frame v w).ipv4_checksum ≡ 1)
packet-verdict caps frame v (Ipv4 w) (r, whole) = (
  λ s on net. (sum-is _ verdict.Wrong not-right).1 (s.0.checksum on),
  λ h. (ipv4_changed.reads-verified (drop 14 frame) false (verifies caps.ipv4) w r (λ on. (sum-is _ verdict.Wrong not-right).0 (h on refl)), whole),
)
packet-verdict caps frame v (Ipv6 w) r =
    let is : (headed frame v (Ipv6 w)).network ≡ 3 = refl in (λ s on net. absurd (omega (arith, net, is)), λ h. r)

-- an ICMP message is neither UDP nor TCP
other-named : (a : Bool) (f : FrameFields) (q : List ℕ) (v : Verdict) (n : ℕ) → f.transport ≡ 0 → n ≢ 0 → n ≢ 3 → (if a then with_icmp f q v else f).transport ≢ n
other-named true f q v n none zero icmp is = icmp (sym is)
other-named false f q v n none zero icmp is = zero (sym is ∙ none)

-- the verdict on what a packet carries
transport-verdict : (caps : ChecksumCapabilities) (f : FrameFields) (p : IpProtocol) (src dst : IpAddress) (bytes : List ℕ) (t : Transport) → f.transport ≡ 0
    → ReadsTransportBy unchecked p src dst bytes t
    → ReadsTransportBy caps p src dst bytes t
    ↔ ((IsTrue (verifies caps.udp) → (transported f p src dst bytes t).transport ≡ 1
    → ((transported f p src dst bytes t).transport_checksum ≡ 1) ⊎ ((transported f p src dst bytes t).transport_checksum ≡ 3))
    × (IsTrue (verifies caps.tcp) → (transported f p src dst bytes t).transport ≡ 2 → (transported f p src dst bytes t).transport_checksum ≡ 1))
transport-verdict caps f p src dst bytes (datagram u q) none (is, r) =
    let stored = stored-verdict src dst bytes r.lengths in
    rw stored (
      λ s. (λ on net. (udp-is src dst bytes).1 ((has_checksum-HasChecksum src dst bytes).1 (s.1.checksum on)), λ on net. absurd (omega (arith, net))),
      λ h. (is, udp_changed.reads-verified bytes src dst src dst false (verifies caps.udp) u q r (λ on. (has_checksum-HasChecksum src dst bytes).0 ((udp-is src dst bytes).0 (h.0 on refl)))),
    )
transport-verdict caps f p src dst bytes (segment u q) none (is, r) = (
  λ s. (λ on net. absurd (omega (arith, net)), λ on net. (sum-is _ _ (partial-not-right (field bytes 128 16 == tcp_bytes.pseudo_header_sum src dst bytes))).1 (s.1.checksum on)),
  λ h. (is, tcp_changed.reads-verified bytes src dst src dst false (verifies caps.tcp) u q r (λ on. (sum-is _ _ (partial-not-right (field bytes 128 16 == tcp_bytes.pseudo_header_sum src dst bytes))).0 (h.1 on refl))),
)
transport-verdict caps f p src dst bytes (other q) none r =
    let not = λ (n : ℕ) (zero : n ≢ 0) (icmp : n ≢ 3). other-named (has_message p src q) f q (icmp_verdict src dst q) n none zero icmp in (
      λ s. (
        λ on net. absurd (not 1 (λ e. omega (arith, e)) (λ e. omega (arith, e)) net),
        λ on net. absurd (not 2 (λ e. omega (arith, e)) (λ e. omega (arith, e)) net),
      ),
      λ h. r,
    )

-- an ARP packet has no checksum
message-verdicts : (caps : ChecksumCapabilities) (frame : List ℕ) (v : EthernetRepr) (w : ArpRepr) → StepsFrame unchecked frame v (message w)
    → StepsFrame caps frame v (message w) ↔ HasVerdicts caps (with_captured (length frame) (with_message (linked frame v) w))
message-verdicts caps frame v (EthernetIpv4 operation source_hardware source_protocol target_hardware target_protocol) r = (
  λ s. record { ipv4 = λ on net. absurd (omega (arith, net)); udp = λ on net. absurd (omega (arith, net)); tcp = λ on net. absurd (omega (arith, net)) },
  λ h. record { reads_header = r.reads_header; reads_carried = r.reads_carried },
)

-- the checksums that are verified hold exactly where the struct says so
pub verdicts-read : (caps : ChecksumCapabilities) (frame : List ℕ) (v : EthernetRepr) (w : Carried) → StepsFrame unchecked frame v w
    → StepsFrame caps frame v w ↔ HasVerdicts caps (fields_of frame)
verdicts-read caps frame v (message w) r = rw (fields_of-read frame v (message w) r) (message-verdicts caps frame v w r)
verdicts-read caps frame v (packet w t) r =
    let (type, header, none, inner) = r.reads_carried in
    let f = headed frame v w in
    let bytes = upper_payload w (drop 14 frame) in
    let p = upper_protocol w (drop 14 frame) in
    let k = kept f p (src_addr_of w) (dst_addr_of w) bytes t in
    let h = is-headed frame v w (plain (drop 14 frame) w header) in
    let network = packet-verdict caps frame v w header in
    let transport = transport-verdict caps f p (src_addr_of w) (dst_addr_of w) bytes t h.transport inner in
    rw (fields_of-read frame v (packet w t) r) (
      λ s. record {
        ipv4 = λ on net. k.checksum ∙ network.0 s.reads_carried.1 on (sym k.network ∙ net);
        udp = (transport.0 s.reads_carried.3).0;
        tcp = (transport.0 s.reads_carried.3).1;
      },
      λ h. record {
        reads_header = r.reads_header;
        reads_carried = (type, network.1 (λ on net. sym k.checksum ∙ h.ipv4 on (k.network ∙ net)), none, transport.1 (h.udp, h.tcp));
      },
    )
