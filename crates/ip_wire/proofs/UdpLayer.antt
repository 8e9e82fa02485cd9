-- A UDP packet that is read, written again.
use Rattle.std.proofs.Common.{ℕ, ◌≡◌, ◌-◌, ◌%◌, ◌∙◌, true, List, [], Some, None, length, refl, ap, subst, append-nil, arith}
use Rattle.ip_wire.proofs.Layers.{byte-lt, length-part}
use Rattle.ip_wire.specs.Frame.{rebuilt_transport_by}
use Rattle.ip_wire.specs.Types.{IpAddress, UdpRepr}
use Rattle.wire_addr.specs.IpAddress.{address_bytes}
use Rattle.wire_addr.specs.declared.IpProtocol.TheVariants as protocol
use Rattle.net_base.proofs.ByteLists.{AreBytes-cons, AreBytes-part}
use Rattle.net_base.proofs.Spelled.{AreBytes}
use Rattle.wire_udp.proofs.UdpReadsBack.{IsInRange, reads_bytes_of}
use Rattle.wire_udp.specs.Udp.{Reads, bytes_of, packet_len, packet_with, payload_of, udp_of}

-- the bytes of both addresses are whole words
pub record AreWords (src dst : IpAddress) : Type 0 where
  pub src_bytes : length (address_bytes src) % 2 ≡ 0
  pub dst_bytes : length (address_bytes dst) % 2 ≡ 0

-- how long the payload is
length-payload : (src dst : IpAddress) (bytes : List ℕ) (v : UdpRepr) (p : List ℕ) → Reads bytes src dst true v p → length p ≡ packet_len bytes - 8
length-payload src dst bytes v p r = ap length r.body ∙ length-part bytes 8 (packet_len bytes) r.lengths.whole

-- it is read back
pub written-read : (src dst : IpAddress) (bytes : List ℕ) (v : UdpRepr) (p : List ℕ) → AreWords src dst → Reads bytes src dst true v p
    → Reads (bytes_of v p src dst true) src dst true v p
written-read src dst bytes v p words r =
    let len = length-payload src dst bytes v p r in
    let in_range : IsInRange v p src dst = record {
      src_port = rw r.src_port (omega arith);
      dst_port = rw r.dst_port (omega arith);
      receiver = rw r.dst_port r.receiver;
      payload_len = omega (arith, len);
      src_bytes = words.src_bytes;
      dst_bytes = words.dst_bytes;
    } in
    subst (λ written. Reads written src dst true v p) (append-nil (bytes_of v p src dst true)) (reads_bytes_of v src dst p [] true true in_range (λ on. on))

-- the packet with any checksum
AreBytes-packet : (v : UdpRepr) (q : List ℕ) (sum : ℕ) → AreBytes q → AreBytes (packet_with v q sum)
AreBytes-packet v q sum k = search (AreBytes-cons, byte-lt) depth 20

pub AreBytes-written : (src dst : IpAddress) (bytes : List ℕ) (v : UdpRepr) (p : List ℕ) → Reads bytes src dst true v p → AreBytes bytes → AreBytes (bytes_of v p src dst true)
AreBytes-written src dst bytes v p r h = AreBytes-packet v p _ (AreBytes-part bytes p 8 (packet_len bytes) h r.body)

-- ---- what a packet carries, rebuilt

pub rebuilt-udp : (src dst : IpAddress) (bytes : List ℕ) (v : UdpRepr) → udp_of src dst true bytes ≡ Some v
    → rebuilt_transport_by protocol.Udp src dst bytes ≡ bytes_of v (payload_of bytes) src dst true
rebuilt-udp src dst bytes v e = rw e refl

pub rebuilt-udp-copied : (src dst : IpAddress) (bytes : List ℕ) → udp_of src dst true bytes ≡ None → rebuilt_transport_by protocol.Udp src dst bytes ≡ bytes
rebuilt-udp-copied src dst bytes e = rw e refl
