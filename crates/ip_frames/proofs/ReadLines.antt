-- The lines of a frame, by what was parsed of it.
use Rattle.std.proofs.Common.{ℕ, ◌≡◌, ◌==◌, ◌≤◌, ◌-◌, ◌++◌, Bool, true, false, List, [], append-nil, codes, decimal, drop, is_some, length, refl, sym, ap, subst, ◌∙◌, arith}
use Rattle.std.proofs.lemmas.Bool.{false_from_ne_true}
use Rattle.std.proofs.lemmas.Bool.Decides.{nat_tests}
use Rattle.std.proofs.lemmas.Grind.{common_steps}
use Rattle.ip_frames.specs.Output.{again_line, checksum_note, ended, fragment_header_line, fragment_line, frame_lines, inner_lines, ipv6_inner_lines, line_with_verdict, lines_of_protocol, payload_lines, tcp_format, transport_lines, udp_format, unread_verdict, verdict, verdict_after}
use Rattle.ip_wire.proofs.ArpComputed.{arp_of-Reads}
use Rattle.ip_wire.proofs.EthernetComputed.{ethernet_of-Reads}
use Rattle.ip_wire.proofs.Ipv4Computed.{ipv4_of-Reads}
use Rattle.ip_wire.proofs.Ipv4Computed as ipv4_computed
use Rattle.ip_wire.proofs.Ipv6Computed as ipv6_computed
use Rattle.ip_wire.proofs.Ipv6Computed.{ipv6_of-Reads}
use Rattle.ip_wire.proofs.Protocols.{number_of-protocol_of}
use Rattle.ip_wire.proofs.TcpComputed.{tcp_of-Reads}
use Rattle.ip_wire.proofs.UdpComputed.{udp_of-Reads}
use Rattle.ip_wire.specs.Arp as arp
use Rattle.ip_wire.specs.ArpText as arp_text
use Rattle.ip_wire.specs.Ethernet as ethernet
use Rattle.ip_wire.specs.Ethernet.{ethernet_of, frame_text}
use Rattle.ip_wire.specs.Field.{field}
use Rattle.ip_wire.specs.Frame.{ReadsPacket, ReadsTransport, Transport, all_checked, datagram, ipv4_payload, rebuilt, segment, type_of}
use Rattle.ip_wire.specs.FrameValue.{ReadsHeader, ReadsNothing}
use Rattle.ip_wire.specs.Ip.{dst_addr_of, next_header_of, src_addr_of}
use Rattle.ip_wire.specs.Ipv4.{fragment_offset, ipv4_of, is_fragment}
use Rattle.ip_wire.specs.Ipv4 as ipv4
use Rattle.ip_wire.specs.Ipv4Text as ipv4_text
use Rattle.ip_wire.specs.Ipv4Text.{packet_text}
use Rattle.ip_wire.specs.Ipv6.{ipv6_of, payload_of}
use Rattle.ip_wire.specs.Ipv6Text as ipv6_text
use Rattle.ip_wire.specs.Protocol.{number_of, protocol_of}
use Rattle.ip_wire.specs.Tcp as tcp_bytes
use Rattle.ip_wire.specs.TcpRepr as tcp
use Rattle.ip_wire.specs.TcpText as tcp_text
use Rattle.ip_wire.specs.Udp as udp
use Rattle.ip_wire.specs.UdpText as udp_text
use Rattle.ip_wire.specs.Types.{ArpRepr, EthernetProtocol, EthernetRepr, IpAddress, IpRepr, Ipv4, Ipv4Repr, Ipv6, Ipv6Repr, UdpRepr}
use Rattle.ip_wire.specs.declared.EthernetProtocol.TheVariants as ethertype
use Rattle.ip_wire.specs.declared.IpProtocol.TheVariants as protocol
use Rattle.ip_wire.proofs.Options.{none_of}

-- ---- tests

-- a test that fails
eq-false : (n k : ℕ) → (n ≡ k → ⊥) → (n == k) ≡ false
eq-false n k other = grind (arith, nat_tests, other)

-- ---- a frame

pub frame_lines-read : (frame : List ℕ) (v : EthernetRepr) → ethernet.Reads frame v
    → frame_lines frame ≡ ended (frame_text frame) ++ (payload_lines v.ethertype (drop 14 frame) ++ again_line (rebuilt frame))
unfolding frame_lines
frame_lines-read frame v r = rw ((ethernet_of-Reads frame v).1 r) refl

pub frame_lines-unread : (frame : List ℕ) → (14 ≤ length frame → ⊥) → frame_lines frame ≡ ended (frame_text frame) ++ []
unfolding frame_lines
frame_lines-unread frame short = rw (none_of (ethernet_of frame) (λ v e. short ((ethernet_of-Reads frame v).0 e).whole)) refl

-- ---- its payload

-- a header is also read without its checksum
unverified : (bytes : List ℕ) (v : Ipv4Repr) → ipv4.Reads bytes true v → ipv4.Reads bytes false v
unverified bytes v r = record {
  lengths = r.lengths;
  version = r.version;
  checksum = λ off. r.checksum refl;
  payload_len = r.payload_len;
  hop_limit = r.hop_limit;
  next_header = r.next_header;
  src_addr = r.src_addr;
  dst_addr = r.dst_addr;
}

ipv4-lines : (v : Ipv4Repr) (bytes : List ℕ) → ReadsPacket all_checked bytes (Ipv4 v)
    → payload_lines ethertype.Ipv4 bytes ≡ ended (ipv4_text.value_text v) ++ transport_lines (Ipv4 v) (ipv4_payload bytes)
unfolding inner_lines
ipv4-lines v bytes (r, whole) =
    let text = ipv4_computed.packet_text-Some bytes v ((ipv4_of-Reads false bytes v).1 (unverified bytes v r)) in
    rw ((ipv4_of-Reads true bytes v).1 r, whole, text) refl

pub lines-ipv4 : (h : IpRepr) (v : Ipv4Repr) (bytes : List ℕ) → h ≡ Ipv4 v → ReadsPacket all_checked bytes h
    → payload_lines (type_of h) bytes ≡ ended (ipv4_text.value_text v) ++ transport_lines h (ipv4_payload bytes)
lines-ipv4 (Ipv4 w) v bytes is r =
    let same : w ≡ v = cc in
    rw (← same) (ipv4-lines w bytes r)
lines-ipv4 (Ipv6 w) v bytes is r = absurd (cc)

ipv6-lines-fragment : (v : Ipv6Repr) (bytes : List ℕ) → ReadsPacket all_checked bytes (Ipv6 v) → v.next_header ≡ protocol.Ipv6Frag
    → payload_lines ethertype.Ipv6 bytes ≡ ended (ipv6_text.value_text v) ++ fragment_header_line (payload_of bytes)
unfolding ipv6_inner_lines
ipv6-lines-fragment v bytes r is =
    let number : field bytes 48 8 ≡ 44 = sym (number_of-protocol_of (field bytes 48 8)) ∙ ap number_of (sym r.next_header ∙ is) in
    let read = (ipv6_of-Reads bytes v).1 r in
    rw (read, number, ipv6_computed.packet_text-Some bytes v read) refl

ipv6-lines-other : (v : Ipv6Repr) (bytes : List ℕ) → ReadsPacket all_checked bytes (Ipv6 v) → (v.next_header ≡ protocol.Ipv6Frag → ⊥)
    → payload_lines ethertype.Ipv6 bytes ≡ ended (ipv6_text.value_text v) ++ transport_lines (Ipv6 v) (payload_of bytes)
unfolding ipv6_inner_lines
ipv6-lines-other v bytes r other =
    let number : (field bytes 48 8 == 44) ≡ false = eq-false (field bytes 48 8) 44 (λ n. other (r.next_header ∙ ap protocol_of n)) in
    let read = (ipv6_of-Reads bytes v).1 r in
    rw (read, number, ipv6_computed.packet_text-Some bytes v read) refl

pub lines-ipv6-fragment : (h : IpRepr) (v : Ipv6Repr) (bytes : List ℕ) → h ≡ Ipv6 v → ReadsPacket all_checked bytes h → v.next_header ≡ protocol.Ipv6Frag
    → payload_lines (type_of h) bytes ≡ ended (ipv6_text.value_text v) ++ fragment_header_line (payload_of bytes)
lines-ipv6-fragment (Ipv4 w) v bytes is r named = absurd (cc)
lines-ipv6-fragment (Ipv6 w) v bytes is r named =
    let same : w ≡ v = cc in
    rw (← same) (ipv6-lines-fragment w bytes r (ap (λ (x : Ipv6Repr). x.next_header) same ∙ named))

pub lines-ipv6-other : (h : IpRepr) (v : Ipv6Repr) (bytes : List ℕ) → h ≡ Ipv6 v → ReadsPacket all_checked bytes h → (v.next_header ≡ protocol.Ipv6Frag → ⊥)
    → payload_lines (type_of h) bytes ≡ ended (ipv6_text.value_text v) ++ transport_lines h (payload_of bytes)
lines-ipv6-other (Ipv4 w) v bytes is r other = absurd (cc)
lines-ipv6-other (Ipv6 w) v bytes is r other =
    let same : v ≡ w = cc in
    rw same (ipv6-lines-other w bytes r (λ named. other (ap (λ (x : Ipv6Repr). x.next_header) same ∙ named)))

pub lines-arp : (t : EthernetProtocol) (v : ArpRepr) (bytes : List ℕ) → t ≡ ethertype.Arp → arp.Reads bytes v
    → payload_lines t bytes ≡ ended (arp_text.value_text v)
unfolding arp_text.packet_text
lines-arp t v bytes type r = rw (type, (arp_of-Reads bytes v).1 r) refl

pub lines-fragment : (t : EthernetProtocol) (v : Ipv4Repr) (bytes : List ℕ) → ReadsHeader all_checked t bytes (Ipv4 v) → is_fragment bytes ≡ true
    → payload_lines t bytes ≡ ended (packet_text bytes) ++ fragment_line (fragment_offset bytes) (field bytes 50 1 == 1) (field bytes 32 16)
unfolding inner_lines
lines-fragment t v bytes (type, r) part = rw (type, (ipv4_of-Reads true bytes v).1 r, part) refl

pub lines-ipv4-unread : (t : EthernetProtocol) (bytes : List ℕ) → t ≡ ethertype.Ipv4 → ReadsNothing all_checked t bytes
    → payload_lines t bytes ≡ ended (packet_text bytes ++ checksum_note (ipv4_of false bytes))
lines-ipv4-unread t bytes is none =
    let unread = none_of (ipv4_of true bytes) (λ v e. none.no_header (Ipv4 v) (is, (ipv4_of-Reads true bytes v).0 e)) in
    rw (is, unread) refl

pub lines-ipv6-unread : (t : EthernetProtocol) (bytes : List ℕ) → t ≡ ethertype.Ipv6 → ReadsNothing all_checked t bytes
    → payload_lines t bytes ≡ ended (ipv6_text.packet_text bytes)
lines-ipv6-unread t bytes is none =
    let unread = none_of (ipv6_of bytes) (λ v e. none.no_header (Ipv6 v) (is, (ipv6_of-Reads bytes v).0 e)) in
    rw (is, unread) refl

-- ---- the payload of a packet

line_with_verdict-read : (read : Bool) (text verdict : List ℕ) → read ≡ true → line_with_verdict read text verdict ≡ ended (text ++ [])
unfolding line_with_verdict
line_with_verdict-read read text verdict e = rw (e, append-nil text) refl

line_with_verdict-unread : (read : Bool) (text verdict : List ℕ) → read ≡ false → line_with_verdict read text verdict ≡ ended (text ++ verdict)
unfolding line_with_verdict
line_with_verdict-unread read text verdict e = rw e refl

-- the text of a datagram that is read
udp-text : (src dst : IpAddress) (bytes : List ℕ) (u : UdpRepr) (payload : List ℕ) → udp.Reads bytes src dst true u payload
    → udp_text.packet_text bytes ≡ udp_text.value_text u ++ codes " len=" ++ decimal (length payload)
udp-text src dst bytes u payload r =
    let whole : udp.has_lengths bytes ≡ true = grind (arith, nat_tests) in
    let len : length payload ≡ udp.packet_len bytes - 8 = rw r.body (grind (arith, common_steps)) in
    rw (whole, len, r.src_port, r.dst_port) refl

pub lines-udp : (v : IpRepr) (bytes : List ℕ) (u : UdpRepr) (payload : List ℕ) → ReadsTransport all_checked v bytes (datagram u payload)
    → transport_lines v bytes ≡ ended (udp_text.value_text u ++ codes " len=" ++ decimal (length payload))
lines-udp v bytes u payload (is, r) =
    let src = src_addr_of v in
    let dst = dst_addr_of v in
    let read = (udp_of-Reads src dst true bytes u).1 (subst (λ p. udp.Reads bytes src dst true u p) r.body r) in
    ap (λ p. lines_of_protocol p v bytes) is ∙ line_with_verdict-read _ _ _ (ap is_some read)
    ∙ ap ended (append-nil (udp_text.packet_text bytes) ∙ udp-text src dst bytes u payload r)

pub lines-tcp : (v : IpRepr) (bytes : List ℕ) (u : tcp.TcpHeader) (payload : List ℕ) → ReadsTransport all_checked v bytes (segment u payload)
    → transport_lines v bytes ≡ ended (tcp_text.packet_text bytes ++ [])
lines-tcp v bytes u payload (is, r) =
    let src = src_addr_of v in
    let dst = dst_addr_of v in
    let read = (tcp_of-Reads src dst true bytes u).1 (subst (λ p. tcp.Reads bytes src dst true u p) r.body r) in
    ap (λ p. lines_of_protocol p v bytes) is ∙ line_with_verdict-read _ _ _ (ap is_some read)

pub lines-udp-unread : (v : IpRepr) (bytes : List ℕ) → next_header_of v ≡ protocol.Udp → ((t : Transport) → ¬ ReadsTransport all_checked v bytes t)
    → transport_lines v bytes ≡ ended (udp_text.packet_text bytes ++ verdict_after udp_format v bytes)
lines-udp-unread v bytes is none =
    let src = src_addr_of v in
    let dst = dst_addr_of v in
    let unread = none_of (udp.udp_of src dst true bytes) (λ u e. none (datagram u (udp.payload_of bytes)) (is, (udp_of-Reads src dst true bytes u).0 e)) in
    ap (λ p. lines_of_protocol p v bytes) is ∙ line_with_verdict-unread _ _ _ (ap is_some unread)

pub lines-tcp-unread : (v : IpRepr) (bytes : List ℕ) → next_header_of v ≡ protocol.Tcp → ((t : Transport) → ¬ ReadsTransport all_checked v bytes t)
    → transport_lines v bytes ≡ ended (tcp_text.packet_text bytes ++ verdict_after tcp_format v bytes)
lines-tcp-unread v bytes is none =
    let src = src_addr_of v in
    let dst = dst_addr_of v in
    let unread = none_of (tcp.tcp_of src dst true bytes) (λ u e. none (segment u (tcp_bytes.payload_of bytes)) (is, (tcp_of-Reads src dst true bytes u).0 e)) in
    ap (λ p. lines_of_protocol p v bytes) is ∙ line_with_verdict-unread _ _ _ (ap is_some unread)

-- ---- notes

pub verdict-short : (has_lengths is_read is_partial : Bool) → (has_lengths ≡ true → ⊥) → verdict has_lengths is_read is_partial ≡ []
unfolding verdict
verdict-short has_lengths is_read is_partial none = rw (false_from_ne_true has_lengths none) refl

pub verdict-whole : (has_lengths is_read is_partial read partial : Bool) → has_lengths ≡ true → read ≡ is_read → partial ≡ is_partial
    → unread_verdict read partial ≡ verdict has_lengths is_read is_partial
unfolding verdict
verdict-whole has_lengths is_read is_partial read partial whole r p = rw (whole, r, p) refl
