-- No frame is read as two pairs of values.
use Rattle.std.proofs.Common.{ℕ, ◌≡◌, ◌≢◌, List, refl, ap}
pub use Rattle.ip_wire.proofs.Options.{computed-one}
use Rattle.ip_wire.proofs.FrameOf.{carried-read, frame_of-Reads, header-read, transport-read}
use Rattle.ip_wire.specs.Frame.{Carried, ReadsTransportBy, ReadsCarried, ReadsFrame, ReadsPacket, Transport, type_of}
use Rattle.net_base.specs.declared.ChecksumCapabilities.{ChecksumCapabilities}
use Rattle.ip_wire.specs.Types.{EthernetProtocol, EthernetRepr, IpAddress, IpProtocol, IpRepr, Ipv4, Ipv6}
use Rattle.wire_ethernet.specs.declared.EthernetProtocol.TheVariants as ethertype

pub transport-once : (caps : ChecksumCapabilities) (p : IpProtocol) (src dst : IpAddress) (bytes : List ℕ) (t u : Transport)
    → ReadsTransportBy caps p src dst bytes t → ReadsTransportBy caps p src dst bytes u → t ≡ u
transport-once caps p src dst bytes t u a b = computed-one _ t u (transport-read caps p src dst bytes t a) (transport-read caps p src dst bytes u b)

-- no bytes are packets of one type with two headers
pub packet-once : (caps : ChecksumCapabilities) (bytes : List ℕ) (v w : IpRepr) → type_of v ≡ type_of w → ReadsPacket caps bytes v → ReadsPacket caps bytes w → v ≡ w
packet-once caps bytes v w type a b = computed-one _ v w (header-read caps (type_of v) bytes v refl a) (header-read caps (type_of v) bytes w type b)

-- a packet's type is not ARP
pub not-arp : (v : IpRepr) → type_of v ≢ ethertype.Arp
not-arp (Ipv4 v) is = absurd (cc)
not-arp (Ipv6 v) is = absurd (cc)

pub carried-once : (caps : ChecksumCapabilities) (t : EthernetProtocol) (bytes : List ℕ) (c d : Carried) → ReadsCarried caps t bytes c → ReadsCarried caps t bytes d → c ≡ d
carried-once caps t bytes c d a b = computed-one _ c d (carried-read caps t bytes c a) (carried-read caps t bytes d b)

pub frame-once : (caps : ChecksumCapabilities) (frame : List ℕ) (v w : EthernetRepr) (a b : Carried) → ReadsFrame caps frame v a → ReadsFrame caps frame w b → (v ≡ w) × (a ≡ b)
frame-once caps frame v w a b r s =
    let same : (v, a) ≡ (w, b) = computed-one _ _ _ ((frame_of-Reads caps frame v a).1 r) ((frame_of-Reads caps frame w b).1 s) in
    (ap (λ (d : EthernetRepr × Carried). d.0) same, ap (λ (d : EthernetRepr × Carried). d.1) same)
