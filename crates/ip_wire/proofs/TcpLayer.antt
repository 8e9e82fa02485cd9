-- A TCP segment that is read, written again.
use Rattle.std.proofs.Common.{ℕ, ◌≡◌, ◌<◌, ◌+◌, ◌-◌, ◌⊎◌, ◌∙◌, inl, inr, if◌then◌else◌, Bool, true, List, [], ◌++◌, Some, None, length, refl, sym, ap, subst, length-append, arith}
use Rattle.ip_wire.proofs.TcpBytes.{AreBytes-segment}
use Rattle.ip_wire.proofs.UdpLayer.{AreWords}
use Rattle.ip_wire.specs.Frame.{rebuilt_transport_by}
use Rattle.wire_addr.specs.declared.IpAddress.{IpAddress}
use Rattle.wire_addr.specs.declared.IpProtocol.TheVariants as protocol
use Rattle.net_base.proofs.ByteLists.{AreBytes-drop}
use Rattle.net_base.proofs.Spelled.{AreBytes}
use Rattle.wire_tcp.specs.Tcp.{header_len, payload_of, segment_sum}
use Rattle.wire_tcp.proofs.TcpEmitted.{length-header_bytes}
use Rattle.wire_tcp.proofs.TcpForms.{Reads-IsInRange, Reads-IsWritable, normal_or_shorter}
use Rattle.wire_tcp.proofs.TcpReadsBack.{reads_bytes_of}
use Rattle.wire_tcp.specs.TcpRepr.{Reads, TcpHeader, bytes_of, header_bytes, header_len_of, normal, segment_with, tcp_of}

-- how long a segment is that is written
pub length-written : (src dst : IpAddress) (v : TcpHeader) (q : List ℕ) (computed : Bool) → length (bytes_of v q src dst computed []) ≡ header_len_of v + length q
length-written src dst v q computed =
    let checksum = if computed then 65535 - segment_sum src dst (segment_with v q 0 ++ []) else 0 in
    length-append (header_bytes v checksum) q ∙ ap (λ n. n + length q) (length-header_bytes v checksum)

-- it is read as the normal form of what was read
pub written-read : (src dst : IpAddress) (bytes : List ℕ) (v : TcpHeader) (p : List ℕ) → AreWords src dst → AreBytes bytes → Reads bytes src dst true v p
    → Reads (bytes_of v p src dst true []) src dst true (normal v) p
written-read src dst bytes v p words h r =
    reads_bytes_of v src dst p true true (Reads-IsWritable src dst true bytes p v h r) words.src_bytes words.dst_bytes (λ on. on)

-- which is written shorter, unless it is what was read
pub written-shorter : (src dst : IpAddress) (bytes : List ℕ) (v : TcpHeader) (p : List ℕ) → Reads bytes src dst true v p
    → (normal v ≡ v) ⊎ (length (bytes_of (normal v) p src dst true []) < length (bytes_of v p src dst true []))
written-shorter src dst bytes v p r = elim (normal_or_shorter src dst true bytes p v r) [
  | inl same ↦ inl same
  | inr shorter ↦
      let whole = length-written src dst v p true in
      let normal_whole = length-written src dst (normal v) p true in
      inr (omega (arith, whole, normal_whole, shorter))
]

pub AreBytes-written : (src dst : IpAddress) (bytes : List ℕ) (v : TcpHeader) (p : List ℕ) → Reads bytes src dst true v p → AreBytes bytes → AreBytes (bytes_of v p src dst true [])
AreBytes-written src dst bytes v p r h =
    AreBytes-segment v p (65535 - segment_sum src dst (segment_with v p 0 ++ [])) (Reads-IsInRange src dst true bytes p v h r)
    (subst AreBytes (sym r.body) (AreBytes-drop (header_len bytes) bytes h))

-- ---- what a packet carries, rebuilt

pub rebuilt-tcp : (src dst : IpAddress) (bytes : List ℕ) (v : TcpHeader) → tcp_of src dst true bytes ≡ Some v
    → rebuilt_transport_by protocol.Tcp src dst bytes ≡ bytes_of v (payload_of bytes) src dst true []
rebuilt-tcp src dst bytes v e = rw e refl

pub rebuilt-tcp-copied : (src dst : IpAddress) (bytes : List ℕ) → tcp_of src dst true bytes ≡ None → rebuilt_transport_by protocol.Tcp src dst bytes ≡ bytes
rebuilt-tcp-copied src dst bytes e = rw e refl
