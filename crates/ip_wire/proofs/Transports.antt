-- What a packet carries, by what it was read as.
use Rattle.std.proofs.Common.{ℕ, ◌≡◌, ◌≤◌, ◌<◌, ◌^◌, ◌∙◌, inl, inr, List, Option, None, Some, length, length-append, length-drop, refl, sym, ap, subst, arith}
use Rattle.std.specs.Option.{option_map_or}
use Rattle.ip_wire.proofs.FrameOf.{transport-only, transport-read}
use Rattle.ip_wire.proofs.Layers.{IsLeaf, Rebuilds, Rebuilds-leaf, leaf, length-part}
use Rattle.ip_wire.proofs.TcpLayer as tcp_layer
use Rattle.ip_wire.proofs.UdpLayer as udp_layer
use Rattle.ip_wire.proofs.UdpLayer.{AreWords}
use Rattle.ip_wire.specs.Frame.{ReadsTransportBy, Transport, all_checked, datagram, describe_transport, normal_transport, other, rebuilt_transport_by, segment, transport_by}
use Rattle.ip_wire.specs.Types.{IpAddress, IpProtocol}
use Rattle.net_base.specs.Checksum.{computes, verifies}
use Rattle.net_base.specs.declared.ChecksumCapabilities.{ChecksumCapabilities}
use Rattle.net_base.proofs.Spelled.{AreBytes}
use Rattle.wire_tcp.proofs.OptionLens.{header_len-read}
use Rattle.wire_tcp.proofs.OptionsBack.{twice}
use Rattle.wire_tcp.specs.Tcp as tcp_bytes
use Rattle.wire_udp.specs.Udp.{packet_len}

-- its header can say its length, and it is no longer than the bytes
pub fits-read : (caps : ChecksumCapabilities) (p : IpProtocol) (src dst : IpAddress) (bytes : List ℕ) (t : Transport) → ReadsTransportBy caps p src dst bytes t
    → (describe_transport t).fits × ((describe_transport t).len ≤ length bytes)
fits-read caps p src dst bytes (datagram u payload) (is, r) =
    let len = ap length r.body ∙ length-part bytes 8 (packet_len bytes) r.lengths.whole in
    let least = r.lengths.header in
    let whole = r.lengths.whole in
    let most : packet_len bytes < 2 ^ 16 = omega arith in
    (omega (arith, len, most), omega (arith, len, least, whole))
fits-read caps p src dst bytes (segment v payload) (is, r) =
    let shorter = header_len-read src dst (verifies caps.tcp) bytes payload v r in
    let len = ap length r.body ∙ length-drop (tcp_bytes.header_len bytes) bytes in
    let whole = r.lengths.whole in
    let most : tcp_bytes.header_len bytes ≤ 60 = omega arith in
    (omega (arith, shorter, most), omega (arith, len, shorter, whole))
fits-read caps p src dst bytes (other payload) (udp, tcp, e) = let same = ap length e in (record {}, omega (arith, same))

-- how long its bytes are
pub length-bytes : (caps : ChecksumCapabilities) (src dst : IpAddress) (t : Transport) → length ((describe_transport t).bytes caps src dst) ≡ (describe_transport t).len
length-bytes caps src dst (datagram u payload) = simp length-append (omega arith)
length-bytes caps src dst (segment v payload) = tcp_layer.length-written src dst v payload (computes caps.tcp)
length-bytes caps src dst (other payload) = refl

no_longer : (p : IpProtocol) (src dst : IpAddress) (bytes : List ℕ) (t : Transport) → ReadsTransportBy all_checked p src dst bytes t
    → length ((describe_transport t).bytes all_checked src dst) ≤ length bytes
no_longer p src dst bytes t r = rw (length-bytes all_checked src dst t) (fits-read all_checked p src dst bytes t r).1

is-leaf : (p : IpProtocol) (src dst : IpAddress) → AreWords src dst → (bytes : List ℕ) (t : Transport) → ReadsTransportBy all_checked p src dst bytes t
    → IsLeaf (transport_by all_checked p src dst) (λ t. (describe_transport t).bytes all_checked src dst) normal_transport bytes t
is-leaf p src dst words bytes (datagram u q) (is, r) = record {
  are_bytes = udp_layer.AreBytes-written src dst bytes u q r;
  reads_back = λ h. transport-read all_checked p src dst _ (datagram u q) (is, udp_layer.written-read src dst bytes u q words r);
  no_longer = no_longer p src dst bytes (datagram u q) (is, r);
  twice = refl;
  normal_or_shorter = inl refl;
}
is-leaf p src dst words bytes (segment v q) (is, r) = record {
  are_bytes = tcp_layer.AreBytes-written src dst bytes v q r;
  reads_back = λ h. transport-read all_checked p src dst _ _ (is, tcp_layer.written-read src dst bytes v q words h r);
  no_longer = no_longer p src dst bytes (segment v q) (is, r);
  twice = ap (λ w. segment w q) (twice v);
  normal_or_shorter = elim (tcp_layer.written-shorter src dst bytes v q r) [
    | inl same ↦ inl (ap (λ w. segment w q) same)
    | inr shorter ↦ inr shorter
  ];
}
is-leaf p src dst words bytes (other q) r = record {
  are_bytes = subst AreBytes (sym r.2);
  reads_back = λ h. transport-read all_checked p src dst q (other q) (r.0, r.1, refl);
  no_longer = no_longer p src dst bytes (other q) r;
  twice = refl;
  normal_or_shorter = inl refl;
}

pub Rebuilds-transport : (p : IpProtocol) (src dst : IpAddress) → AreWords src dst
    → Rebuilds (leaf (transport_by all_checked p src dst) (λ t. (describe_transport t).bytes all_checked src dst)) normal_transport
Rebuilds-transport p src dst words =
    Rebuilds-leaf (transport_by all_checked p src dst) (λ t. (describe_transport t).bytes all_checked src dst) normal_transport
    (λ bytes t e. is-leaf p src dst words bytes t (transport-only all_checked p src dst bytes t e))

-- rebuilt, it is no longer
pub length-rebuilt_transport_by : (p : IpProtocol) (src dst : IpAddress) (bytes : List ℕ) → length (rebuilt_transport_by p src dst bytes) ≤ length bytes
length-rebuilt_transport_by p src dst bytes = by (transport_by all_checked p src dst bytes) refl
  where
    by : (o : Option Transport) → transport_by all_checked p src dst bytes ≡ o
        → length (option_map_or (λ t. (describe_transport t).bytes all_checked src dst) o bytes) ≤ length bytes
    by None e = omega arith
    by (Some t) e = no_longer p src dst bytes t (transport-only all_checked p src dst bytes t e)
