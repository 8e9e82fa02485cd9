-- What the premises of laws exclude and include, on worked frames: packets that a frame does not carry, and checksums that
-- need not be computed. The checksums of the frames were computed by another program.
use Rattle.std.specs.Borrow.{Bor}
use Rattle.std.proofs.Common.{ℕ, ◌≡◌, ◌∙◌, ◌++◌, List, [], ◌∷◌, inl, inr, refl, sym, arith, true≢false}
use Rattle.ip_wire.specs.Frame.{CarriesMessage, CarriesPacket, CarriesTransport, ReadsPacket, all_checked}
use Rattle.ip_wire.specs.FrameValue.{Computes}
use Rattle.ip_wire.specs.Types.{ArpRepr, IpRepr, Ipv4, Ipv6, Ipv6Repr, UdpRepr}
use Rattle.ip_wire.specs.declared.frame.carried.Carried.TheVariants as carried
use Rattle.ip_wire.specs.declared.frame.transport.Transport.TheVariants as transport
use Rattle.net_base.specs.Checksum.{all_are}
use Rattle.net_base.specs.declared.Checksum.TheVariants as when
use Rattle.net_base.specs.declared.ChecksumCapabilities.{ChecksumCapabilities}
use Rattle.wire_checksum.specs.WordSum.{residue, words}
use Rattle.wire_addr.specs.declared.IpProtocol.TheVariants as protocol
use Rattle.wire_addr.specs.declared.IpVersion.TheVariants as version
use Rattle.wire_ethernet.specs.declared.EthernetProtocol.TheVariants as ethertype
use Rattle.wire_tcp.specs.declared.TcpRepr.{TcpRepr}

-- ---- the frames

-- a frame of this type
abbrev frame : ℕ → List ℕ → List ℕ
frame type bytes = (2 ∷ 0 ∷ 0 ∷ 0 ∷ 0 ∷ 2 ∷ 2 ∷ 0 ∷ 0 ∷ 0 ∷ 0 ∷ 1 ∷ 0x08 ∷ type ∷ []) ++ bytes

-- a UDP packet from 192.168.1.1 to 192.168.1.2 with this last byte of its checksum, which is 4d in a valid one
abbrev udp_packet : ℕ → List ℕ
udp_packet low = 0xbf ∷ 0x00 ∷ 0x00 ∷ 0x35 ∷ 0x00 ∷ 0x0c ∷ 0x12 ∷ low ∷ 0xaa ∷ 0x00 ∷ 0x00 ∷ 0xff ∷ []

-- the IPv4 packet with it, with this byte of flags and this header checksum
abbrev ipv4_packet : ℕ → ℕ → ℕ → List ℕ
ipv4_packet flags high low =
    (0x45 ∷ 0x00 ∷ 0x00 ∷ 0x20 ∷ 0x00 ∷ 0x00 ∷ flags ∷ 0x00 ∷ 0x40 ∷ 0x11 ∷ high ∷ low ∷ 192 ∷ 168 ∷ 1 ∷ 1 ∷ 192 ∷ 168 ∷ 1 ∷ 2 ∷ []) ++ udp_packet 0x4d

abbrev arp_packet : List ℕ
arp_packet =
    (0x00 ∷ 0x01 ∷ 0x08 ∷ 0x00 ∷ 0x06 ∷ 0x04 ∷ 0x00 ∷ 0x01 ∷ 2 ∷ 0 ∷ 0 ∷ 0 ∷ 0 ∷ 1 ∷ 192 ∷ 168 ∷ 1 ∷ 1 ∷ [])
    ++ (0 ∷ 0 ∷ 0 ∷ 0 ∷ 0 ∷ 0 ∷ 192 ∷ 168 ∷ 1 ∷ 2 ∷ [])

-- ---- packets

-- a fragment is no whole packet
fragment-packet : (w : IpRepr) → ¬ ReadsPacket all_checked (ipv4_packet 0x20 0xd7 0x79) w
fragment-packet (Ipv4 v) (reads, whole) = true≢false whole
fragment-packet (Ipv6 v) reads = let version = reads.version in absurd (omega (arith, version))

fragment-carries : ¬ CarriesPacket (frame 0x00 (ipv4_packet 0x20 0xd7 0x79))
fragment-carries (v, w, header, type, reads) = fragment-packet w reads

-- nor is a packet with a wrong checksum
wrong_checksum-packet : (w : IpRepr) → ¬ ReadsPacket all_checked (ipv4_packet 0x40 0xb7 0x78) w
unfolding words residue
wrong_checksum-packet (Ipv4 v) (reads, whole) = let sum = reads.checksum refl in absurd (omega (arith, sum))
wrong_checksum-packet (Ipv6 v) reads = let version = reads.version in absurd (omega (arith, version))

wrong_checksum-carries : ¬ CarriesPacket (frame 0x00 (ipv4_packet 0x40 0xb7 0x78))
wrong_checksum-carries (v, w, header, type, reads) = wrong_checksum-packet w reads

-- the type of a frame with an IPv4 packet has to name it
mistyped-packet : ¬ CarriesPacket (frame 0x06 (ipv4_packet 0x40 0xb7 0x79))
mistyped-packet (v, Ipv4 w, header, type, reads) = let apart : ethertype.Arp ≡ ethertype.Ipv4 = sym header.ethertype ∙ type in absurd (cc)
mistyped-packet (v, Ipv6 w, header, type, reads) = let apart : ethertype.Arp ≡ ethertype.Ipv6 = sym header.ethertype ∙ type in absurd (cc)

-- and so does that of a frame with an ARP packet
mistyped-message : ¬ CarriesMessage (frame 0x00 arp_packet)
mistyped-message (v, w, reads) =
    let apart : ethertype.Ipv4 ≡ ethertype.Arp = sym reads.reads_header.ethertype ∙ reads.reads_carried.0 in absurd (cc)

-- ---- transports

-- the header of such a packet
header : IpRepr
header = Ipv4 (record {
  src_addr = 192 ∷ 168 ∷ 1 ∷ 1 ∷ [];
  dst_addr = 192 ∷ 168 ∷ 1 ∷ 2 ∷ [];
  next_header = protocol.Udp;
  payload_len = 12;
  hop_limit = 64;
})

-- a UDP packet with a wrong checksum
wrong_udp-carries : ¬ CarriesTransport header (udp_packet 0x4e)
unfolding header words residue
wrong_udp-carries (inl (u, payload, reads)) = elim (reads.1.checksum refl) [
  | inl (zero, v4) ↦ omega (arith, zero)
  | inr (some, sum) ↦ omega (arith, sum)
]
wrong_udp-carries (inr (u, payload, reads)) = let apart : protocol.Udp ≡ protocol.Tcp = reads.0 in absurd (cc)

-- ---- checksums that need not be computed

-- a sender that computes no checksum
abbrev none : ChecksumCapabilities
none = all_are when.None

-- those of headers that the frame does not have
arp-computed : (v : ArpRepr) → Computes none all_checked (carried.Arp v)
arp-computed v = record {}

ipv6-computed : (v : Ipv6Repr) (payload : Bor (List ℕ)) → Computes none all_checked (carried.Packet (Ipv6 v) (transport.Other payload))
ipv6-computed v payload = (λ has. let apart : version.Ipv6 ≡ version.Ipv4 = has in absurd (cc), record {})

udp-computed : (v : IpRepr) (u : UdpRepr) (payload : Bor (List ℕ))
    → Computes (record all_checked { tcp = when.None }) all_checked (carried.Packet v (transport.Udp u payload))
udp-computed v u payload = (λ has verified. refl, λ verified. refl)

tcp-computed : (v : IpRepr) (u : TcpRepr) → Computes (record all_checked { udp = when.None }) all_checked (carried.Packet v (transport.Tcp u))
tcp-computed v u = (λ has verified. refl, λ verified. refl)

-- those that are not verified
unverified : (v : IpRepr) (u : UdpRepr) (payload : Bor (List ℕ)) → Computes none (all_are when.Tx) (carried.Packet v (transport.Udp u payload))
unverified v u payload = (λ has verified. absurd (true≢false (sym verified)), λ verified. absurd (true≢false (sym verified)))
