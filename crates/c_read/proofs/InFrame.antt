-- The struct of a packet in a frame is that of the packet by itself, with the Ethernet header.
use Rattle.std.proofs.Common.{ℕ, ◌≡◌, ◌∙◌, ◌≤◌, ◌+◌, ◌-◌, nat_lt, min, if◌then◌else◌, Bool, true, false, List, [], ◌∷◌, Option, None, Some, ap, drop, length, refl, sym, arith}
use Rattle.std.proofs.lemmas.List.{length-drop}
use Rattle.std.specs.Option.{option_map_or}
use Rattle.ip_wire.specs.Ethernet as ethernet
use Rattle.ip_wire.specs.Frame.{ipv4_payload}
use Rattle.ip_wire.specs.Ip.{dst_addr_of, next_header_of, src_addr_of}
use Rattle.ip_wire.specs.Ipv4 as ipv4
use Rattle.ip_wire.specs.Ipv4.{ipv4_of}
use Rattle.ip_wire.specs.Ipv6 as ipv6
use Rattle.ip_wire.specs.Ipv6.{ipv6_of}
use Rattle.ip_wire.specs.Protocol.{protocol_of}
use Rattle.ip_wire.specs.Tcp as tcp
use Rattle.ip_wire.specs.TcpRepr.{tcp_of}
use Rattle.ip_wire.specs.Udp as udp
use Rattle.ip_wire.specs.Udp.{udp_of}
use Rattle.ip_wire.specs.Types.{EthernetProtocol, EthernetRepr, IpAddress, IpProtocol, IpRepr, Ipv4, Ipv4Repr, Ipv6Repr}
use Rattle.ip_wire.specs.declared.EthernetProtocol.TheVariants as ethertype
use Rattle.ip_wire.specs.declared.IpAddress.TheVariants as address
use Rattle.ip_wire.specs.declared.IpProtocol.TheVariants as protocol
use Rattle.c_structs.specs.Verdicts.{icmp_verdict}
use Rattle.c_structs.specs.declared.codes.Reason.TheVariants as reason
use Rattle.c_structs.specs.declared.types.FrameFields.{FrameFields}
use Rattle.c_read.proofs.FieldsOf.{fields_of-is, packet_fields_of-is, packet_headers-some}
use Rattle.c_read.proofs.StoredHeaders.{frame_headers-linked}
use Rattle.c_read.specs.FrameFields.{bare_of, after_header, fields_of, ipv4_fault, ipv6_fault, packet_fields_of, packet_headers, rejected, rejected_transport, tcp_fault, udp_fault, with_captured, with_carried, with_chain, with_extended, with_ipv4, with_ipv4_header, with_ipv6, with_ipv6_header, with_packet, with_part, with_payload, with_tcp, with_tcp_header, with_transport_by, with_udp, with_udp_header, has_message, with_icmp}
use Rattle.wire_extensions.specs.Chain.{chain_of}
use Rattle.wire_extensions.specs.declared.chain.Chain.{Chain}
use Rattle.c_read.specs.Stored.{IsTypeOf, in_frame, linked}

-- ---- choices

chosen : (v : EthernetRepr) (b : Bool) (f g f2 g2 : FrameFields) → f2 ≡ in_frame v f → g2 ≡ in_frame v g → (if b then f2 else g2) ≡ in_frame v (if b then f else g)
chosen v true f g f2 g2 a c = a
chosen v false f g f2 g2 a c = c

chosen-by : {A : Type 0} (v : EthernetRepr) (o : Option A) (g g2 : A → FrameFields) (h h2 : FrameFields) → ((a : A) → g2 a ≡ in_frame v (g a)) → h2 ≡ in_frame v h
    → option_map_or g2 o h2 ≡ in_frame v (option_map_or g o h)
chosen-by v None g g2 h h2 a c = c
chosen-by v (Some x) g g2 h h2 a c = a x

-- a header further on
stepped : (v : EthernetRepr) (f : FrameFields) (header_len len : ℕ) → after_header (in_frame v f) header_len len ≡ in_frame v (after_header f header_len len)
stepped v f header_len len =
    let same : f.payload_offset + 14 + header_len ≡ f.payload_offset + header_len + 14 = omega arith in
    ap (λ (n : ℕ). record (in_frame v (after_header f header_len len)) { payload_offset = n }) same

-- ---- UDP, TCP and ICMP

udp-in : (v : EthernetRepr) (f : FrameFields) (src dst : IpAddress) (bytes : List ℕ) → with_udp (in_frame v f) src dst bytes ≡ in_frame v (with_udp f src dst bytes)
udp-in v f src dst bytes =
    let next = with_udp_header f src dst bytes in
    chosen v (nat_lt (length bytes) 8) (rejected f reason.TooShort) _ _ _ refl
    (chosen-by v (udp_of src dst false bytes) (λ u. after_header next 8 (length (udp.payload_of bytes))) _ (rejected_transport next (udp_fault bytes)) _
    (λ u. stepped v next 8 (length (udp.payload_of bytes))) refl)

tcp-in : (v : EthernetRepr) (f : FrameFields) (src dst : IpAddress) (bytes : List ℕ) → with_tcp (in_frame v f) src dst bytes ≡ in_frame v (with_tcp f src dst bytes)
tcp-in v f src dst bytes =
    let next = with_tcp_header f src dst bytes in
    chosen v (nat_lt (length bytes) 20) (rejected f reason.TooShort) _ _ _ refl
    (chosen-by v (tcp_of src dst false bytes) (λ u. after_header next (tcp.header_len bytes) (length (tcp.payload_of bytes))) _ (rejected_transport next (tcp_fault bytes (length bytes))) _
    (λ u. stepped v next (tcp.header_len bytes) (length (tcp.payload_of bytes))) refl)

transport-in : (v : EthernetRepr) (f : FrameFields) (p : IpProtocol) (src dst : IpAddress) (bytes : List ℕ)
    → with_transport_by (in_frame v f) p src dst bytes ≡ in_frame v (with_transport_by f p src dst bytes)
transport-in v f protocol.Udp src dst bytes = udp-in v f src dst bytes
transport-in v f protocol.Tcp src dst bytes = tcp-in v f src dst bytes
transport-in v f p src dst bytes =
    let w = icmp_verdict src dst bytes in
    let same : f.payload_offset + 14 + 8 ≡ f.payload_offset + 8 + 14 = omega arith in
    chosen v (has_message p src bytes) (with_icmp f bytes w) f _ _ (ap (λ (n : ℕ). record (in_frame v (with_icmp f bytes w)) { payload_offset = n }) same) refl

payload-in : (v : EthernetRepr) (f g : FrameFields) (w : IpRepr) (bytes : List ℕ) → g ≡ in_frame v f → with_payload g w bytes ≡ in_frame v (with_payload f w bytes)
payload-in v f g w bytes is = ap (λ (h : FrameFields). with_payload h w bytes) is ∙ transport-in v f (next_header_of w) (src_addr_of w) (dst_addr_of w) bytes

-- ---- IPv4 and IPv6

ipv4-header : (v : EthernetRepr) (f : FrameFields) (bytes : List ℕ) (w : Ipv4Repr) → with_ipv4_header (in_frame v f) bytes w ≡ in_frame v (with_ipv4_header f bytes w)
ipv4-header v f bytes w =
    let same : f.payload_offset + 14 + ipv4.header_len bytes ≡ f.payload_offset + ipv4.header_len bytes + 14 = omega arith in
    ap (λ (n : ℕ). record (in_frame v (with_ipv4_header f bytes w)) { payload_offset = n }) same

ipv4-in : (v : EthernetRepr) (f : FrameFields) (bytes : List ℕ) → with_ipv4 (in_frame v f) bytes ≡ in_frame v (with_ipv4 f bytes)
ipv4-in v f bytes =
    chosen-by v (ipv4_of false bytes) (λ w. let next = with_ipv4_header f bytes w in if ipv4.is_fragment bytes then with_part next (ipv4_payload bytes) else with_payload next (Ipv4 w) (ipv4_payload bytes)) _
    (rejected f (ipv4_fault bytes)) _
    (λ w. chosen v (ipv4.is_fragment bytes) (with_part (with_ipv4_header f bytes w) (ipv4_payload bytes)) (with_payload (with_ipv4_header f bytes w) (Ipv4 w) (ipv4_payload bytes)) _ _
    (ap (λ (h : FrameFields). with_part h (ipv4_payload bytes)) (ipv4-header v f bytes w))
    (payload-in v (with_ipv4_header f bytes w) _ (Ipv4 w) (ipv4_payload bytes) (ipv4-header v f bytes w)))
    refl

ipv6-header : (v : EthernetRepr) (f : FrameFields) (bytes : List ℕ) (w : Ipv6Repr) → with_ipv6_header (in_frame v f) bytes w ≡ in_frame v (with_ipv6_header f bytes w)
ipv6-header v f bytes w =
    let same : f.payload_offset + 14 + 40 ≡ f.payload_offset + 40 + 14 = omega arith in
    ap (λ (n : ℕ). record (in_frame v (with_ipv6_header f bytes w)) { payload_offset = n }) same

chain-in : (v : EthernetRepr) (f : FrameFields) (c : Chain) (rest : List ℕ) → with_chain (in_frame v f) c rest ≡ in_frame v (with_chain f c rest)
chain-in v f c rest =
    let same : f.payload_offset + 14 + c.len ≡ f.payload_offset + c.len + 14 = omega arith in
    ap (λ (n : ℕ). record (in_frame v (with_chain f c rest)) { payload_offset = n }) same

extended-in : (v : EthernetRepr) (f : FrameFields) (src dst : IpAddress) (bytes : List ℕ) → with_extended (in_frame v f) src dst bytes ≡ in_frame v (with_extended f src dst bytes)
extended-in v f src dst bytes =
    let c = chain_of f.protocol (length bytes) bytes in
    ap (λ (h : FrameFields). with_transport_by h (protocol_of c.protocol) src dst (drop c.len bytes)) (chain-in v f c (drop c.len bytes))
    ∙ transport-in v (with_chain f c (drop c.len bytes)) (protocol_of c.protocol) src dst (drop c.len bytes)

ipv6-in : (v : EthernetRepr) (f : FrameFields) (bytes : List ℕ) → with_ipv6 (in_frame v f) bytes ≡ in_frame v (with_ipv6 f bytes)
ipv6-in v f bytes =
    chosen-by v (ipv6_of bytes) (λ w. with_extended (with_ipv6_header f bytes w) (address.Ipv6 w.src_addr) (address.Ipv6 w.dst_addr) (ipv6.payload_of bytes)) _
    (rejected f (ipv6_fault bytes)) _
    (λ w. ap (λ (h : FrameFields). with_extended h (address.Ipv6 w.src_addr) (address.Ipv6 w.dst_addr) (ipv6.payload_of bytes)) (ipv6-header v f bytes w)
    ∙ extended-in v (with_ipv6_header f bytes w) (address.Ipv6 w.src_addr) (address.Ipv6 w.dst_addr) (ipv6.payload_of bytes))
    refl

-- ---- the frame

-- bytes that begin with a version are not empty
not-empty : (t : EthernetProtocol) (bytes : List ℕ) → IsTypeOf t bytes → 1 ≤ length bytes
not-empty ethertype.Ipv4 [] is = absurd (omega (arith, is))
not-empty ethertype.Ipv6 [] is = absurd (omega (arith, is))
not-empty t (x ∷ bytes) is = omega arith
not-empty t [] is = absurd is

carried-in : (v : EthernetRepr) (f : FrameFields) (t : EthernetProtocol) (bytes : List ℕ) → IsTypeOf t bytes → with_carried (in_frame v f) t bytes ≡ in_frame v (with_packet f bytes)
carried-in v f ethertype.Ipv4 bytes is =
    let same : with_ipv4 f bytes ≡ with_packet f bytes = rw is refl in
    ipv4-in v f bytes ∙ ap (in_frame v) same
carried-in v f ethertype.Ipv6 bytes is =
    let same : with_ipv6 f bytes ≡ with_packet f bytes = rw is refl in
    ipv6-in v f bytes ∙ ap (in_frame v) same
carried-in v f t bytes is = absurd is

-- the bytes of the payload that are there are the same
counted-in : (v : EthernetRepr) (f : FrameFields) (frame : List ℕ) → with_captured (length frame) (in_frame v f) ≡ in_frame v (with_captured (length (drop 14 frame)) f)
counted-in v f frame =
    let size : length (drop 14 frame) ≡ length frame - 14 = length-drop 14 frame in
    let same : length frame - (f.payload_offset + 14) ≡ length (drop 14 frame) - f.payload_offset = omega (arith, size) in
    ap (λ (n : ℕ). record (in_frame v f) { payload_captured = min f.payload_len n }) same

-- the struct of a frame by that of the packet in it
pub frame-packet : (frame : List ℕ) (v : EthernetRepr) → ethernet.Reads frame v → IsTypeOf v.ethertype (drop 14 frame)
    → fields_of frame ≡ in_frame v (packet_fields_of (drop 14 frame))
frame-packet frame v r is =
    let bytes = drop 14 frame in
    let single = packet_headers-some bytes (not-empty v.ethertype bytes is) in
    let start : linked frame v ≡ in_frame v (bare_of (length bytes)) = refl in
    let headers = frame_headers-linked frame v r ∙ ap (λ (f : FrameFields). with_carried f v.ethertype bytes) start ∙ carried-in v (bare_of (length bytes)) v.ethertype bytes is
    ∙ ap (in_frame v) (sym single) in
    fields_of-is frame ∙ ap (with_captured (length frame)) headers ∙ counted-in v (packet_headers bytes) frame ∙ ap (in_frame v) (sym (packet_fields_of-is bytes))
