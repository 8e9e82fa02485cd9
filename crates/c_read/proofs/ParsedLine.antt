-- The line of a frame that is parsed whole has its values.
use Rattle.std.proofs.Common.{ℕ, ◌≡◌, ◌∙◌, ◌++◌, List, Option, Some, append-nil, ap, codes, decimal, drop, length, refl, replicate, subst, sym, take, arith}
use Rattle.std.proofs.lemmas.List.{take-append-le, take_all}
use Rattle.ip_wire.proofs.Layers.{length-part}
use Rattle.ip_wire.specs.Frame.{Transport, datagram, packet, segment}
use Rattle.ip_wire.specs.Ip.{dst_addr_of, src_addr_of}
use Rattle.ip_wire.specs.TcpRepr.{TcpHeader}
use Rattle.ip_wire.specs.Types.{EthernetRepr, IpAddress, IpRepr, Ipv4, Ipv6, UdpRepr}
use Rattle.ip_wire.specs.declared.IpAddress.TheVariants as address
use Rattle.c_structs.specs.Addresses.{addr_of, ip_of}
use Rattle.c_structs.specs.declared.types.FrameFields.{FrameFields}
use Rattle.c_read.proofs.StoredFrame.{stores-read}
use Rattle.c_read.proofs.StoredHeaders.{is-headed}
use Rattle.c_read.specs.FrameFields.{fields_of, with_captured}
use Rattle.c_read.specs.Stored.{StepsFrame, headed, struct_of, unchecked}
use Rattle.c_read.specs.Summary.{end_text, ends_text, frame_line, has_ports, header_text, ipv4_note, network_word, reason_note, tcp_line, tcp_text, transport_note, transport_of, udp_line, version_text, with_verdicts}

-- ---- the addresses

ipv4-stored : (octets : List ℕ) → length octets ≡ 4 → ip_of (addr_of (address.Ipv4 octets)) ≡ Some (address.Ipv4 octets)
ipv4-stored octets is =
    let front : take 4 (octets ++ replicate 12 0) ≡ octets = take-append-le 4 octets (replicate 12 0) (omega (arith, is)) ∙ take_all 4 octets (omega (arith, is)) in
    ap (λ (l : List ℕ). Some (address.Ipv4 l)) front

-- the struct has the version and the addresses of this header
record HasEnds (f : FrameFields) (v : IpRepr) : Type 0 where
  network : network_word f.network ≡ version_text v
  src : ip_of f.src.addr ≡ Some (src_addr_of v)
  dst : ip_of f.dst.addr ≡ Some (dst_addr_of v)
  reason : f.reason ≡ 0

headed-ends : (frame : List ℕ) (v : EthernetRepr) (w : IpRepr) (t : Transport) → StepsFrame unchecked frame v (packet w t) → HasEnds (headed frame v w) w
headed-ends frame v (Ipv4 w) t r =
    let (type, (header, whole), none, inner) = r.reads_carried in
    let least = header.lengths.least in
    let src : length w.src_addr ≡ 4 = ap length header.src_addr ∙ length-part (drop 14 frame) 12 16 (omega (arith, least)) in
    let dst : length w.dst_addr ≡ 4 = ap length header.dst_addr ∙ length-part (drop 14 frame) 16 20 (omega (arith, least)) in
    record { network = refl; src = ipv4-stored w.src_addr src; dst = ipv4-stored w.dst_addr dst; reason = refl }
headed-ends frame v (Ipv6 w) t r =
    let (type, header, none, inner) = r.reads_carried in
    record { network = refl; src = refl; dst = refl; reason = (is-headed frame v (Ipv6 w) header).reason none }

-- ---- the line

-- both ends, by the numbers of the struct
abbrev ends-by : List ℕ → ℕ → ℕ → ℕ → IpAddress → IpAddress → List ℕ
ends-by word transport src_port dst_port src dst =
    word ++ end_text (has_ports transport) src src_port ++ codes " > " ++ end_text (has_ports transport) dst dst_port

ends-are : (f : FrameFields) (v : IpRepr) → HasEnds f v
    → ends_text f (ip_of f.src.addr) (ip_of f.dst.addr) ≡ ends-by (version_text v) (transport_of f) f.src.port f.dst.port (src_addr_of v) (dst_addr_of v)
ends-are f v e =
    ap (λ (o : Option IpAddress). ends_text f o (ip_of f.dst.addr)) e.src
    ∙ ap (λ (o : Option IpAddress). ends_text f (Some (src_addr_of v)) o) e.dst
    ∙ ap (λ (l : List ℕ). ends-by l (transport_of f) f.src.port f.dst.port (src_addr_of v) (dst_addr_of v)) e.network

-- the line of a frame without a rejected header, by its parts
line-are : (f : FrameFields) (icmp_type icmp_code : ℕ) (ends header : List ℕ) (len : ℕ) → f.reason ≡ 0 → ends_text f (ip_of f.src.addr) (ip_of f.dst.addr) ≡ ends
    → header_text f icmp_type icmp_code ≡ header → f.payload_len ≡ len
    → frame_line f icmp_type icmp_code ≡ with_verdicts (ends ++ header ++ codes " len=" ++ decimal len) f
line-are f icmp_type icmp_code ends header len read is text size =
    let rest = λ (l : List ℕ) (t : List ℕ) (n : ℕ) (r : ℕ).
    l ++ t ++ codes " len=" ++ decimal n ++ ipv4_note f.ipv4_checksum ++ transport_note f.transport_checksum ++ reason_note r
    in
    ap (λ (l : List ℕ). rest l (header_text f icmp_type icmp_code) f.payload_len f.reason) is
    ∙ ap (λ (t : List ℕ). rest ends t f.payload_len f.reason) text
    ∙ ap (λ (n : ℕ). rest ends header n f.reason) size
    ∙ ap (λ (r : ℕ). rest ends header len r) read
    ∙ append-nil (with_verdicts (ends ++ header ++ codes " len=" ++ decimal len) f)

-- the line of a frame with these ports and this transport
ported-line : (f : FrameFields) (v : IpRepr) (icmp_type icmp_code transport src_port dst_port len : ℕ) (header : List ℕ) → HasEnds f v
    → transport_of f ≡ transport → f.src.port ≡ src_port → f.dst.port ≡ dst_port → f.payload_len ≡ len → header_text f icmp_type icmp_code ≡ header
    → frame_line f icmp_type icmp_code ≡ with_verdicts (ends-by (version_text v) transport src_port dst_port (src_addr_of v) (dst_addr_of v) ++ header ++ codes " len=" ++ decimal len) f
ported-line f v icmp_type icmp_code transport src_port dst_port len header e is src dst size text =
    let by = λ (t : ℕ) (s : ℕ) (d : ℕ). ends-by (version_text v) t s d (src_addr_of v) (dst_addr_of v) in
    let ends = ends-are f v e ∙ ap (λ (t : ℕ). by t f.src.port f.dst.port) is ∙ ap (λ (s : ℕ). by transport s f.dst.port) src ∙ ap (λ (d : ℕ). by transport src_port d) dst in
    line-are f icmp_type icmp_code (by transport src_port dst_port) header len e.reason ends text size

pub udp-printed : (frame : List ℕ) (v : EthernetRepr) (w : IpRepr) (u : UdpRepr) (payload : List ℕ) (icmp_type icmp_code : ℕ) → StepsFrame unchecked frame v (packet w (datagram u payload))
    → frame_line (fields_of frame) icmp_type icmp_code ≡ with_verdicts (udp_line w u (length payload)) (fields_of frame)
udp-printed frame v w u payload icmp_type icmp_code r =
    let carried = packet w (datagram u payload) in
    let s = stores-read frame v carried r in
    let e = headed-ends frame v w (datagram u payload) r in
    let here : HasEnds (with_captured (length frame) (struct_of frame v carried)) w = record { network = e.network; src = e.src; dst = e.dst; reason = e.reason } in
    let (protocol, ports) = s.values in
    ported-line (fields_of frame) w icmp_type icmp_code 1 u.src_port u.dst_port (length payload) (codes " UDP") (subst (λ g. HasEnds g w) (sym s.fields) here)
    (ap transport_of s.fields) ports.0 ports.1 s.payload.len (ap (λ (g : FrameFields). header_text g icmp_type icmp_code) s.fields)

pub tcp-printed : (frame : List ℕ) (v : EthernetRepr) (w : IpRepr) (h : TcpHeader) (payload : List ℕ) (icmp_type icmp_code : ℕ) → StepsFrame unchecked frame v (packet w (segment h payload))
    → frame_line (fields_of frame) icmp_type icmp_code ≡ with_verdicts (tcp_line w h (fields_of frame).tcp (length payload)) (fields_of frame)
tcp-printed frame v w h payload icmp_type icmp_code r =
    let carried = packet w (segment h payload) in
    let s = stores-read frame v carried r in
    let e = headed-ends frame v w (segment h payload) r in
    let here : HasEnds (with_captured (length frame) (struct_of frame v carried)) w = record { network = e.network; src = e.src; dst = e.dst; reason = e.reason } in
    let (protocol, ports) = s.values in
    let text = ap (λ (g : FrameFields). header_text g icmp_type icmp_code) s.fields ∙ sym (ap (λ (g : FrameFields). tcp_text g.tcp) s.fields) in
    ported-line (fields_of frame) w icmp_type icmp_code 2 h.src_port h.dst_port (length payload) (tcp_text (fields_of frame).tcp) (subst (λ g. HasEnds g w) (sym s.fields) here)
    (ap transport_of s.fields) ports.src_port ports.dst_port s.payload.len text
