-- What is found in a frame is what is computed of it.
use Rattle.std.proofs.Common.{ℕ, ◌≡◌, ◌↔◌, ◌∙◌, IsSome, List, Option, None, Some, drop, refl, sym, ap}
use Rattle.std.specs.Option.{option_map}
use Rattle.std.specs.Prelude.{MatchOption}
use Rattle.ip_wire.proofs.FrameOf.{carried-only, carried-packet, carried-read, frame_of-Reads, transport-only, transport-read}
use Rattle.ip_wire.proofs.Options.{none_of, option_map-Some, value}
use Rattle.ip_wire.specs.Frame as frame
use Rattle.ip_wire.specs.Frame.{ReadsCarried, ReadsFrame, ReadsTransport, carried_by, frame_of, message, packet, transport_by}
use Rattle.ip_wire.specs.FrameValue.{Finds, FindsCarried, FindsTransport, Parses, ParsesCarried, ParsesTransport, ReadsHeader, ReadsNothing, carried_of, transport_bytes, transport_of}
use Rattle.ip_wire.specs.declared.frame.carried.Carried.{Carried}
use Rattle.ip_wire.specs.declared.frame.carried.Carried.TheVariants as carried
use Rattle.ip_wire.specs.declared.frame.transport.Transport.{Transport}
use Rattle.ip_wire.specs.declared.frame.Frame.{Frame}
use Rattle.net_base.specs.Checksum.{verifies}
use Rattle.net_base.specs.declared.ChecksumCapabilities.{ChecksumCapabilities}
use Rattle.wire_arp.specs.Arp as arp
use Rattle.ip_wire.specs.Types.{ArpRepr, EthernetProtocol, EthernetRepr, IpRepr, Ipv4, Ipv4Repr, Ipv6, Ipv6Repr}
use Rattle.wire_ipv4.specs.Ipv4 as ipv4
use Rattle.wire_ipv6.specs.Ipv6 as ipv6
use Rattle.wire_ethernet.proofs.EthernetComputed.{ethernet_of-Reads}
use Rattle.wire_ethernet.specs.declared.EthernetProtocol.TheVariants as ethertype
use Rattle.wire_ip.specs.Ip.{dst_addr_of, next_header_of, src_addr_of}

-- ---- what a packet carries

pub transport-found : (caps : ChecksumCapabilities) (v : IpRepr) (bytes : List ℕ) (t : Transport) → FindsTransport caps v bytes t
    → transport_by caps (next_header_of v) (src_addr_of v) (dst_addr_of v) bytes ≡ transport_of t
transport-found caps v bytes t found = by (transport_of t) found
  where
    by : (o : Option frame.Transport)
        → MatchOption o (((read : frame.Transport) → ¬ ReadsTransport caps v bytes read) × (transport_bytes caps v t ≡ bytes)) (ReadsTransport caps v bytes)
        → transport_by caps (next_header_of v) (src_addr_of v) (dst_addr_of v) bytes ≡ o
    by None f = none_of _ (λ read e. f.0 read (transport-only caps _ _ _ bytes read e))
    by (Some read) f = transport-read caps _ _ _ bytes read f

pub gives-transport : (caps : ChecksumCapabilities) (v : IpRepr) (bytes : List ℕ) (t : Transport) → FindsTransport caps v bytes t
    → (s : frame.Transport) → (transport_of t ≡ Some s) ↔ ReadsTransport caps v bytes s
gives-transport caps v bytes t found s =
    let is = transport-found caps v bytes t found in
    (λ e. transport-only caps _ _ _ bytes s (is ∙ e), λ r. sym is ∙ transport-read caps _ _ _ bytes s r)

pub parses-transport : (caps : ChecksumCapabilities) (v : IpRepr) (bytes : List ℕ) (t : Transport) → FindsTransport caps v bytes t
    → IsSome (transport_of t) → ParsesTransport caps v bytes t
parses-transport caps v bytes t found some =
    let (read, is) = value (transport_of t) some in (read, is, (gives-transport caps v bytes t found read).0 is)

-- bytes that are not read as the protocol of their header are not read
pub unread-transport : (caps : ChecksumCapabilities) (v : IpRepr) (bytes : List ℕ) → transport_by caps (next_header_of v) (src_addr_of v) (dst_addr_of v) bytes ≡ None
    → (t : frame.Transport) → ¬ ReadsTransport caps v bytes t
unread-transport caps v bytes none t r = let apart = sym none ∙ transport-read caps _ _ _ bytes t r in cc

-- ---- what a frame carries

pub reads-nothing : (caps : ChecksumCapabilities) (t : EthernetProtocol) (bytes : List ℕ) → ((w : ArpRepr) → t ≡ ethertype.Arp → ¬ arp.Reads bytes w)
    → ((w : Ipv4Repr) → t ≡ ethertype.Ipv4 → ¬ ipv4.Reads bytes (verifies caps.ipv4) w) → ((w : Ipv6Repr) → t ≡ ethertype.Ipv6 → ¬ ipv6.Reads bytes w)
    → ReadsNothing caps t bytes
reads-nothing caps t bytes no_arp no_ipv4 no_ipv6 = record { no_message = no_arp; no_header = no_header }
  where
    no_header : (v : IpRepr) → ¬ ReadsHeader caps t bytes v
    no_header (Ipv4 v) (type, r) = no_ipv4 v type r
    no_header (Ipv6 v) (type, r) = no_ipv6 v type r

nothing-read : (caps : ChecksumCapabilities) (t : EthernetProtocol) (bytes : List ℕ) → ReadsNothing caps t bytes → (d : frame.Carried) → ¬ ReadsCarried caps t bytes d
nothing-read caps t bytes none (message w) (type, r) = none.no_message w type r
nothing-read caps t bytes none (packet (Ipv4 w) s) (type, (r, whole), inner) = none.no_header (Ipv4 w) (type, r)
nothing-read caps t bytes none (packet (Ipv6 w) s) (type, r, inner) = none.no_header (Ipv6 w) (type, r)

pub carried-found : (caps : ChecksumCapabilities) (t : EthernetProtocol) (bytes : List ℕ) (c : Carried) → FindsCarried caps t bytes c
    → carried_by caps t bytes ≡ carried_of c
carried-found caps t bytes (carried.Arp v) found = carried-read caps t bytes (message v) found
carried-found caps t bytes (carried.Packet v inner) (type, read, found) =
    carried-packet caps t bytes v type read ∙ ap (option_map (packet v)) (transport-found caps v (frame.packet_payload v bytes) inner found)
carried-found caps t bytes (carried.Fragment part) (borrowed, is_part, (v, (type, read))) = rw (type, is_part) refl
carried-found caps t bytes (carried.Unread kept) (nothing, is) =
    none_of (carried_by caps t bytes) (λ d e. nothing-read caps t bytes nothing d (carried-only caps t bytes d e))

pub gives-carried : (caps : ChecksumCapabilities) (t : EthernetProtocol) (bytes : List ℕ) (c : Carried) → FindsCarried caps t bytes c
    → (d : frame.Carried) → (carried_of c ≡ Some d) ↔ ReadsCarried caps t bytes d
gives-carried caps t bytes c found d =
    let is = carried-found caps t bytes c found in
    (λ e. carried-only caps t bytes d (is ∙ e), λ r. sym is ∙ carried-read caps t bytes d r)

pub parses-carried : (caps : ChecksumCapabilities) (t : EthernetProtocol) (bytes : List ℕ) (c : Carried) → FindsCarried caps t bytes c
    → IsSome (carried_of c) → ParsesCarried caps t bytes c
parses-carried caps t bytes c found some =
    let (read, is) = value (carried_of c) some in (read, is, (gives-carried caps t bytes c found read).0 is)

-- ---- whole frames

pub frame-found : (caps : ChecksumCapabilities) (bytes : List ℕ) (f : Frame) → Finds caps bytes f
    → frame_of caps bytes ≡ option_map (λ c. (f.header, c)) (carried_of f.carried)
unfolding frame_of
frame-found caps bytes f found =
    rw ((ethernet_of-Reads bytes f.header).1 found.header, carried-found caps f.header.ethertype (drop 14 bytes) f.carried found.carried) refl

pub gives-frame : (caps : ChecksumCapabilities) (bytes : List ℕ) (f : Frame) → Finds caps bytes f
    → (v : EthernetRepr) (d : frame.Carried) → ((f.header ≡ v) × (carried_of f.carried ≡ Some d)) ↔ ReadsFrame caps bytes v d
gives-frame caps bytes f found v d =
    let is = frame-found caps bytes f found in (
      λ (header, e). (frame_of-Reads caps bytes v d).0 (is ∙ ap (option_map (λ c. (f.header, c))) e ∙ ap (λ h. Some (h, d)) header),
      λ r.
          let (c, e, same) = option_map-Some (λ c. (f.header, c)) (carried_of f.carried) (v, d) (sym is ∙ (frame_of-Reads caps bytes v d).1 r) in
          (ap (λ (x : EthernetRepr × frame.Carried). x.0) same, e ∙ ap (λ (x : EthernetRepr × frame.Carried). Some x.1) same),
    )

-- a frame of which everything was parsed has the values of the result
pub values-found : (caps : ChecksumCapabilities) (bytes : List ℕ) (f : Frame) → Finds caps bytes f → IsSome (carried_of f.carried)
    → (c : frame.Carried) × (carried_of f.carried ≡ Some c) × (frame_of caps bytes ≡ Some (f.header, c))
values-found caps bytes f found some =
    let (c, is) = value (carried_of f.carried) some in
    (c, is, frame-found caps bytes f found ∙ ap (option_map (λ d. (f.header, d))) is)

pub parses-frame : (caps : ChecksumCapabilities) (bytes : List ℕ) (f : Frame) → Finds caps bytes f → IsSome (carried_of f.carried) → Parses caps bytes f
parses-frame caps bytes f found some =
    let (c, is, _) = values-found caps bytes f found some in (c, is, (gives-frame caps bytes f found f.header c).0 (refl, is))
