-- The packet of a frame, and packets without a frame.
use Rattle.std.proofs.Common.{ℕ, ◌≡◌, ◌↔◌, ◌∙◌, List, Option, None, Some, Result, Ok, Err, refl, sym, ap, subst, arith}
use Rattle.std.specs.Option.{option_and_then, option_map}
use Rattle.std.specs.Prelude.{IsErr}
use Rattle.ip_wire.proofs.FrameOf.{frame_of-Reads}
use Rattle.ip_wire.proofs.Options.{option_and_then-Some, option_map-Some}
use Rattle.ip_wire.specs.Frame.{Carried, ReadsCarried, ReadsFrame, ReadsPacket, Transport, frame_of, message, packet, type_of, type_of_version}
use Rattle.ip_wire.specs.FrameValue.{ParsesCarried, carried_of, transport_of}
use Rattle.ip_wire.specs.Packet.{GivesPacket, ParsesPacket, packet_in, packet_of}
use Rattle.ip_wire.specs.Types.{Error, EthernetProtocol, EthernetRepr, IpRepr, IpVersion, Ipv4, Ipv6}
use Rattle.ip_wire.specs.declared.frame.carried.Carried.TheVariants as carried
use Rattle.ip_wire.specs.declared.frame.carried.Carried as value
use Rattle.ip_wire.specs.declared.frame.packet.Packet.{Packet}
use Rattle.ip_wire.specs.declared.frame.transport.Transport as inner
use Rattle.net_base.specs.declared.ChecksumCapabilities.{ChecksumCapabilities}
use Rattle.wire_addr.specs.IpVersion.{IsOfVersion}
use Rattle.net_base.proofs.Spelled.{AreBytes}
use Rattle.wire_ip.specs.Ip.{version_of}

packet-in : (d : EthernetRepr × Carried) (link : EthernetRepr) (v : IpRepr) (t : Transport) → packet_in d ≡ Some (link, v, t) → d ≡ (link, packet v t)
packet-in (l, packet w s) link v t e =
    let same : (l, w, s) ≡ (link, v, t) = cc in
    ap (λ (x : EthernetRepr × IpRepr × Transport). (x.0, packet x.1 x.2)) same
packet-in (l, message w) link v t e = absurd (cc)

-- a frame has this packet exactly if it reads as it
pub packet_of-Reads : (caps : ChecksumCapabilities) (frame : List ℕ) (link : EthernetRepr) (v : IpRepr) (t : Transport)
    → (packet_of caps frame ≡ Some (link, v, t)) ↔ ReadsFrame caps frame link (packet v t)
packet_of-Reads caps frame link v t = (
  λ e.
      let (d, found, is) = option_and_then-Some packet_in (frame_of caps frame) (link, v, t) e in
      (frame_of-Reads caps frame link (packet v t)).0 (found ∙ ap Some (packet-in d link v t is)),
  λ r. ap (option_and_then packet_in) ((frame_of-Reads caps frame link (packet v t)).1 r),
)

-- ---- of a frame that was parsed

-- it carries the packet
pub parsed-packet : (found : Option (EthernetRepr × Carried)) (link : EthernetRepr) (k : value.Carried) (c : Carried) (v : IpRepr) (s : inner.Transport)
    → carried_of k ≡ Some c → found ≡ Some (link, c) → k ≡ carried.Packet v s
    → (t : Transport) × (transport_of s ≡ Some t) × (option_and_then packet_in found ≡ Some (link, v, t))
parsed-packet found link k c v s is values carries =
    let (t, some, same) = option_map-Some (packet v) (transport_of s) c (sym (ap carried_of carries) ∙ is) in
    (t, some, ap (option_and_then packet_in) (values ∙ ap (λ x. Some (link, x)) (sym same)))

-- it carries no packet
pub parsed-other : (link : EthernetRepr) (k : value.Carried) (c : Carried) → carried_of k ≡ Some c → ((w : IpRepr) (s : inner.Transport) → ¬ (k ≡ carried.Packet w s))
    → packet_in (link, c) ≡ None
parsed-other link (carried.Arp v) c is none = ap (option_and_then (λ x. packet_in (link, x))) (sym is)
parsed-other link (carried.Packet v s) c is none = absurd (none v s refl)
parsed-other link _ c is none = absurd (cc)

-- ---- without a frame

-- a packet has the version of its header in its first four bits
packet-version : (caps : ChecksumCapabilities) (bytes : List ℕ) (v : IpRepr) → AreBytes bytes → ReadsPacket caps bytes v → IsOfVersion bytes (version_of v)
packet-version caps bytes (Ipv4 v) are (r, _) =
    let least = r.lengths.least in
    let version = r.version in
    let first = are 0 in
    record { some = omega (arith, least); number = omega (arith, version, first) }
packet-version caps bytes (Ipv6 v) are r =
    let whole = r.lengths in
    let version = r.version in
    let first = are 0 in
    record { some = omega (arith, whole); number = omega (arith, version, first) }

-- a type that names the version of the bytes is that of a packet which they parse as
pub reads-by-version : (caps : ChecksumCapabilities) (type : EthernetProtocol) (bytes : List ℕ) (v : IpRepr) (t : Transport) → AreBytes bytes
    → ((w : IpVersion) → IsOfVersion bytes w → type ≡ type_of_version w)
    → ReadsCarried caps type bytes (packet v t) ↔ ReadsCarried caps (type_of v) bytes (packet v t)
reads-by-version caps type bytes v t are named =
    ((λ (_, read, following). (refl, read, following)), (λ (_, read, following). (named (version_of v) (packet-version caps bytes v are read), read, following)))

-- a type that is that of the version that was found names the version of the bytes
pub names-version : (type : EthernetProtocol) (bytes : List ℕ) (r : Result IpVersion Error) (n : IpVersion) → r ≡ Ok n
    → ((w : IpVersion) → (r ≡ Ok w) ↔ IsOfVersion bytes w) → type ≡ type_of_version n → (w : IpVersion) → IsOfVersion bytes w → type ≡ type_of_version w
names-version type bytes r n is found named w of =
    let other = (found w).1 of in
    let same : n ≡ w = cc in
    named ∙ ap type_of_version same

-- bytes of no version parse as no packet
pub reads-no-version : (caps : ChecksumCapabilities) (bytes : List ℕ) (v : IpRepr) (t : Transport) → AreBytes bytes → ((w : IpVersion) → ¬ IsOfVersion bytes w)
    → ¬ ReadsCarried caps (type_of v) bytes (packet v t)
reads-no-version caps bytes v t are none (_, read, _) = none (version_of v) (packet-version caps bytes v are read)

-- an error is no packet
pub gives-error : {E : Type 0} (r : Result Packet E) (v : IpRepr) (t : Transport) → IsErr r → ¬ GivesPacket r v t
gives-error (Ok p) v t is = absurd (cc)
gives-error (Err e) v t is = λ gives. gives

-- the packet that was parsed is what is carried
pub parses-packet : (caps : ChecksumCapabilities) (type : EthernetProtocol) (bytes : List ℕ) (k : value.Carried) (v : IpRepr) (s : inner.Transport)
    → k ≡ carried.Packet v s → ParsesCarried caps type bytes k → ParsesPacket caps bytes (record { header = v; inner = s })
parses-packet caps type bytes k v s carries (c, is, reads) =
    let (t, some, same) = option_map-Some (packet v) (transport_of s) c (sym (ap carried_of carries) ∙ is) in
    let (_, read, following) = subst (ReadsCarried caps type bytes) (sym same) reads in
    (t, some, (refl, read, following))

pub gives-packet : (k : value.Carried) (w : IpRepr) (s : inner.Transport) → k ≡ carried.Packet w s
    → (v : IpRepr) (t : Transport) → ((w ≡ v) × (transport_of s ≡ Some t)) ↔ (carried_of k ≡ Some (packet v t))
gives-packet k w s carries v t = (
  λ (header, some). ap carried_of carries ∙ ap (option_map (packet w)) some ∙ ap (λ h. Some (packet h t)) header,
  λ e.
      let (u, some, same) = option_map-Some (packet w) (transport_of s) (packet v t) (sym (ap carried_of carries) ∙ e) in
      let header : w ≡ v = cc in
      let last : u ≡ t = cc in
      (header, some ∙ ap Some last),
)
