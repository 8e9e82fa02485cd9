-- Frames that are put together of layers that agree.
use Rattle.std.proofs.Common.{ℕ, ◌≡◌, ◌<◌, ◌%◌, ◌^◌, Bool, IsTrue, List, [], ◌++◌, length, refl, sym, ap, subst, ◌∙◌, append-nil, append_assoc, arith}
use Rattle.ip_wire.proofs.EthernetLayer.{drop-bytes_of}
use Rattle.ip_wire.proofs.IpLayer.{packet_payload-written, reads_packet}
use Rattle.ip_wire.specs.Frame.{ReadsCarried, ReadsFrame, ReadsTransport, Transport, datagram, packet, segment, type_of, type_of_version}
use Rattle.net_base.specs.Checksum.{verifies}
use Rattle.net_base.specs.declared.ChecksumCapabilities.{ChecksumCapabilities}
use Rattle.wire_addr.specs.IpAddress.{address_bytes}
use Rattle.wire_ip.proofs.IpReadsBack.{IsInRange}
use Rattle.wire_tcp.proofs.TcpReadsBack as tcp
use Rattle.wire_tcp.specs.TcpRepr as tcp_header
use Rattle.wire_tcp.specs.TcpRepr.{TcpHeader}
use Rattle.wire_udp.proofs.UdpReadsBack as udp
use Rattle.wire_udp.specs.Udp as udp_header
use Rattle.ip_wire.specs.Types.{EthernetRepr, IpRepr, IpVersion, Ipv4, Ipv6, UdpRepr}
use Rattle.wire_addr.specs.declared.IpVersion.TheVariants as version
use Rattle.wire_ip.specs.Ip.{bytes_of, dst_addr_of, next_header_of, normal, payload_len_of, src_addr_of, version_of}
use Rattle.wire_addr.specs.Protocol.{number_of, protocol_of}
use Rattle.wire_ethernet.proofs.EthernetEmitted as ethernet_header
use Rattle.wire_ethernet.specs.Ethernet as ethernet

-- what the normal form says of a header
record IsKept (w : IpRepr) : Type 0 where
  version : version_of (normal w) ≡ version_of w
  next_header : next_header_of (normal w) ≡ protocol_of (number_of (next_header_of w))
  src_addr : src_addr_of (normal w) ≡ src_addr_of w
  dst_addr : dst_addr_of (normal w) ≡ dst_addr_of w

kept : (w : IpRepr) → IsKept w
kept (Ipv4 w) = record { version = refl; next_header = refl; src_addr = refl; dst_addr = refl }
kept (Ipv6 w) = record { version = refl; next_header = refl; src_addr = refl; dst_addr = refl }

-- a UDP packet that is written is what a packet of its protocol carries
pub reads_datagram : (caps : ChecksumCapabilities) (computed : Bool) (w : IpRepr) (v : UdpRepr) (payload : List ℕ) → number_of (next_header_of w) ≡ 17
    → udp.IsInRange v payload (src_addr_of w) (dst_addr_of w) → (IsTrue (verifies caps.udp) → IsTrue computed)
    → ReadsTransport caps (normal w) (udp_header.bytes_of v payload (src_addr_of w) (dst_addr_of w) computed) (datagram v payload)
reads_datagram caps computed w v payload number h sound =
    let src = src_addr_of w in
    let dst = dst_addr_of w in
    let written = udp_header.bytes_of v payload src dst computed in
    let back = udp.reads_bytes_of v src dst payload [] computed (verifies caps.udp) h sound in
    let read = subst (λ bytes. udp_header.Reads bytes src dst (verifies caps.udp) v payload) (append-nil written) back in
    ((kept w).next_header ∙ ap protocol_of number, rw ((kept w).src_addr, (kept w).dst_addr) read)

-- so is a TCP segment
pub reads_segment : (caps : ChecksumCapabilities) (computed : Bool) (w : IpRepr) (v : TcpHeader) (payload : List ℕ) → number_of (next_header_of w) ≡ 6
    → tcp.IsWritable v → length (address_bytes (src_addr_of w)) % 2 ≡ 0 → length (address_bytes (dst_addr_of w)) % 2 ≡ 0 → (IsTrue (verifies caps.tcp) → IsTrue computed)
    → ReadsTransport caps (normal w) (tcp_header.bytes_of v payload (src_addr_of w) (dst_addr_of w) computed []) (segment (tcp_header.normal v) payload)
reads_segment caps computed w v payload number writable src dst sound =
    let read = tcp.reads_bytes_of v (src_addr_of w) (dst_addr_of w) payload computed (verifies caps.tcp) writable src dst sound in
    ((kept w).next_header ∙ ap protocol_of number, rw ((kept w).src_addr, (kept w).dst_addr) read)

-- the type that names a version
known-type : (n : IpVersion) → ethernet.known (type_of_version n) ≡ type_of_version n
known-type version.Ipv4 = refl
known-type version.Ipv6 = refl

small-type : (n : IpVersion) → ethernet.number_of (type_of_version n) < 2 ^ 16
small-type version.Ipv4 = omega arith
small-type version.Ipv6 = omega arith

-- a frame of a header that names the packet, of that packet and of padding is read whole
pub reads_frame : (caps : ChecksumCapabilities) (computed : Bool) (header : EthernetRepr) (w : IpRepr) (q padding : List ℕ) (t : Transport)
    → length header.dst_addr.0 ≡ 6 → length header.src_addr.0 ≡ 6
    → ethernet.number_of header.ethertype ≡ ethernet.number_of (type_of w) → IsInRange w → payload_len_of w ≡ length q
    → (version_of w ≡ version.Ipv4 → IsTrue (verifies caps.ipv4) → IsTrue computed) → ReadsTransport caps (normal w) q t
    → ReadsFrame caps (ethernet.bytes_of header ++ (bytes_of w computed ++ q) ++ padding) (ethernet.normal header) (packet (normal w) t)
reads_frame caps computed header w q padding t dst src names h is sound transport =
    let number : ethernet.number_of header.ethertype < 2 ^ 16 = rw names (small-type (version_of w)) in
    let inner = bytes_of w computed ++ (q ++ padding) in
    let joined : ethernet.bytes_of header ++ (bytes_of w computed ++ q) ++ padding ≡ ethernet.bytes_of header ++ inner =
    append_assoc (ethernet.bytes_of header) (bytes_of w computed ++ q) padding
    ∙ ap (λ (rest : List ℕ). ethernet.bytes_of header ++ rest) (append_assoc (bytes_of w computed) q padding)
    in
    let named : ethernet.known header.ethertype ≡ type_of (normal w) = ap ethernet.protocol_of names ∙ known-type (version_of w) ∙ ap type_of_version (sym (kept w).version) in
    let carried : ReadsCarried caps (ethernet.known header.ethertype) inner (packet (normal w) t) = (
      named,
      reads_packet caps computed w q padding h is sound,
      rw (packet_payload-written w q padding computed h is) transport,
    ) in
    subst (λ (bytes : List ℕ). ReadsFrame caps bytes (ethernet.normal header) (packet (normal w) t)) (sym joined)
    (record {
      reads_header = ethernet_header.reads_bytes_of header inner dst src number;
      reads_carried = subst (λ (bytes : List ℕ). ReadsCarried caps (ethernet.known header.ethertype) bytes (packet (normal w) t)) (sym (drop-bytes_of header inner dst src)) carried;
    })
