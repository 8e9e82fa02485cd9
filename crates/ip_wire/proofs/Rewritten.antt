-- What a frame is written as that was read.
use Rattle.std.proofs.Common.{ℕ, ◌≡◌, ◌≤◌, ◌<◌, ◌+◌, ◌^◌, ◌++◌, ◌∙◌, inr, true, List, Option, None, Some, drop, length, length-drop, refl, sym, ap, ap₂, arith}
use Rattle.std.specs.Option.{option_map_or}
use Rattle.std.specs.Prelude.{MatchOption, ⊤}
use Rattle.ip_wire.proofs.Found.{transport-found}
use Rattle.ip_wire.proofs.Frames.{rebuilt-ip, rebuilt-ipv4-copied, rebuilt-read}
use Rattle.ip_wire.proofs.Layers.{length-part}
use Rattle.ip_wire.proofs.Transports.{fits-read, length-bytes}
use Rattle.ip_wire.proofs.Unread.{payload-stays}
use Rattle.ip_wire.specs.Frame as frame
use Rattle.ip_wire.specs.Frame.{ReadsPacket, ReadsTransport, all_checked, describe_transport, ipv4_payload, packet_payload, rebuilt, rebuilt_payload, rebuilt_transport, type_of}
use Rattle.ip_wire.specs.FrameValue.{ReadsHeader, Finds, FindsCarried, FindsTransport, Fits, FitsCarried, FitsTransport, carried_bytes, carried_len, frame_bytes, frame_len, kept_of, transport_bytes, transport_len, transport_of}
use Rattle.ip_wire.specs.declared.frame.carried.Carried.{Carried}
use Rattle.ip_wire.specs.declared.frame.carried.Carried.TheVariants as carried
use Rattle.ip_wire.specs.declared.frame.transport.Transport.{Transport}
use Rattle.ip_wire.specs.declared.frame.Frame.{Frame}
use Rattle.net_base.specs.declared.ChecksumCapabilities.{ChecksumCapabilities}
use Rattle.wire_arp.proofs.ArpComputed.{arp_of-Reads}
use Rattle.ip_wire.specs.Types.{EthernetProtocol, IpRepr, Ipv4, Ipv6}
use Rattle.wire_ethernet.proofs.EthernetComputed.{ethernet_of-Reads}
use Rattle.wire_ethernet.specs.Ethernet as ethernet
use Rattle.wire_ip.specs.Ip.{bytes_of, dst_addr_of, src_addr_of, with_payload_len}
use Rattle.wire_ipv4.specs.Ipv4.{header_len, total_len}
use Rattle.wire_ipv6.specs.Ipv6 as ipv6

-- ---- its headers can say it, and it is no longer

pub fits-transport : (caps : ChecksumCapabilities) (v : IpRepr) (bytes : List ℕ) (t : Transport) → FindsTransport caps v bytes t → FitsTransport t × (transport_len t ≤ length bytes)
fits-transport caps v bytes t found = by (transport_of t) (kept_of t) found
  where
    by : (o : Option frame.Transport) (kept : List ℕ)
        → MatchOption o (((read : frame.Transport) → ¬ ReadsTransport caps v bytes read) × (option_map_or (λ read. (describe_transport read).bytes caps (src_addr_of v) (dst_addr_of v)) o kept ≡ bytes)) (ReadsTransport caps v bytes)
        → MatchOption o ⊤ (λ read. (describe_transport read).fits) × (option_map_or (λ read. (describe_transport read).len) o (length kept) ≤ length bytes)
    by None kept (none, e) = let same = ap length e in (record {}, omega (arith, same))
    by (Some read) kept r = fits-read caps _ _ _ bytes read r

pub fits-carried : (caps : ChecksumCapabilities) (t : EthernetProtocol) (bytes : List ℕ) (c : Carried) → FindsCarried caps t bytes c → FitsCarried c × (carried_len c ≤ length bytes)
fits-carried caps t bytes (carried.Arp v) (is, r) = let whole = r.whole in (record {}, omega (arith, whole))
fits-carried caps t bytes (carried.Packet (Ipv4 v) inner) (is, (r, part), found) =
    let (fits, shorter) = fits-transport caps (Ipv4 v) (ipv4_payload bytes) inner found in
    let len = length-part bytes (header_len bytes) (total_len bytes) r.lengths.whole in
    let least = r.lengths.header in
    let within = r.lengths.within in
    let whole = r.lengths.whole in
    let most : total_len bytes < 2 ^ 16 = omega arith in
    ((omega (arith, shorter, len, least, most), fits), omega (arith, shorter, len, least, within, whole))
fits-carried caps t bytes (carried.Packet (Ipv6 v) inner) (is, r, found) =
    let (fits, shorter) = fits-transport caps (Ipv6 v) (ipv6.payload_of bytes) inner found in
    let len = length-part bytes 40 (ipv6.total_len bytes) r.lengths in
    let whole = r.lengths in
    let most : ipv6.total_len bytes < 40 + 2 ^ 16 = omega arith in
    ((omega (arith, shorter, len, most), fits), omega (arith, shorter, len, whole))
fits-carried caps t bytes (carried.Fragment part) (borrowed, is_part, read) = let same = ap length borrowed in (record {}, omega (arith, same))
fits-carried caps t bytes (carried.Unread kept) (unread, e) = let same = ap length e in (record {}, omega (arith, same))

pub fits-frame : (caps : ChecksumCapabilities) (bytes : List ℕ) (f : Frame) → Finds caps bytes f → Fits f × (frame_len f ≤ length bytes)
fits-frame caps bytes f found =
    let (fits, shorter) = fits-carried caps f.header.ethertype (drop 14 bytes) f.carried found.carried in
    let len = length-drop 14 bytes in
    let whole = found.header.whole in
    (fits, omega (arith, shorter, len, whole))

-- ---- it is the rebuilt frame

length-transport : (caps : ChecksumCapabilities) (v : IpRepr) (t : Transport) → length (transport_bytes caps v t) ≡ transport_len t
length-transport caps v t = by (transport_of t)
  where
    by : (o : Option frame.Transport) → length (option_map_or (λ read. (describe_transport read).bytes caps (src_addr_of v) (dst_addr_of v)) o (kept_of t))
        ≡ option_map_or (λ read. (describe_transport read).len) o (length (kept_of t))
    by None = refl
    by (Some read) = length-bytes caps (src_addr_of v) (dst_addr_of v) read

rewritten-transport : (v : IpRepr) (bytes : List ℕ) (t : Transport) → FindsTransport all_checked v bytes t → transport_bytes all_checked v t ≡ rebuilt_transport v bytes
rewritten-transport v bytes t found =
    by (transport_of t) (kept_of t) found ∙ ap (λ o. option_map_or (λ read. (describe_transport read).bytes all_checked (src_addr_of v) (dst_addr_of v)) o bytes) (sym (transport-found all_checked v bytes t found))
  where
    by : (o : Option frame.Transport) (kept : List ℕ)
        → MatchOption o (((read : frame.Transport) → ¬ ReadsTransport all_checked v bytes read) × (option_map_or (λ read. (describe_transport read).bytes all_checked (src_addr_of v) (dst_addr_of v)) o kept ≡ bytes)) (ReadsTransport all_checked v bytes)
        → option_map_or (λ read. (describe_transport read).bytes all_checked (src_addr_of v) (dst_addr_of v)) o kept ≡ option_map_or (λ read. (describe_transport read).bytes all_checked (src_addr_of v) (dst_addr_of v)) o bytes
    by None kept (none, e) = e
    by (Some read) kept r = refl

rewritten-packet : (v : IpRepr) (payload : List ℕ) (t : Transport) → FindsTransport all_checked v payload t
    → carried_bytes all_checked (carried.Packet v t) ≡ frame.rebuilt_packet v payload
rewritten-packet v payload t found =
    let inner = rewritten-transport v payload t found in
    let len : transport_len t ≡ length (rebuilt_transport v payload) = sym (length-transport all_checked v t) ∙ ap length inner in
    ap₂ (λ n rest. bytes_of (with_payload_len v n) true ++ rest) len inner

-- where no header is read, no packet is
no-packet : (t : EthernetProtocol) (bytes : List ℕ) → ((v : IpRepr) → ¬ ReadsHeader all_checked t bytes v)
    → (v : IpRepr) → t ≡ type_of v → ¬ ReadsPacket all_checked bytes v
no-packet t bytes none (Ipv4 v) type (r, whole) = none (Ipv4 v) (type, r)
no-packet t bytes none (Ipv6 v) type r = none (Ipv6 v) (type, r)

rewritten-carried : (t : EthernetProtocol) (bytes : List ℕ) (c : Carried) → FindsCarried all_checked t bytes c → carried_bytes all_checked c ≡ rebuilt_payload t bytes
rewritten-carried t bytes (carried.Arp v) (is, r) = rw (is, (arp_of-Reads bytes v).1 r) refl
rewritten-carried t bytes (carried.Packet v inner) (is, r, found) =
    rewritten-packet v (packet_payload v bytes) inner found ∙ sym (ap (λ p. rebuilt_payload p bytes) is ∙ rebuilt-ip bytes v r)
rewritten-carried t bytes (carried.Fragment part) (borrowed, is_part, (v, (is, read))) =
    borrowed ∙ sym (ap (λ p. rebuilt_payload p bytes) is ∙ rebuilt-ipv4-copied bytes (inr is_part))
rewritten-carried t bytes (carried.Unread kept) (nothing, e) =
    e ∙ sym (payload-stays t bytes nothing.no_message (no-packet t bytes nothing.no_header))

pub rewritten-frame : (bytes : List ℕ) (f : Frame) → Finds all_checked bytes f → frame_bytes all_checked f ≡ rebuilt bytes
rewritten-frame bytes f found =
    ap (λ rest. ethernet.bytes_of f.header ++ rest) (rewritten-carried f.header.ethertype (drop 14 bytes) f.carried found.carried)
    ∙ sym (rebuilt-read bytes f.header ((ethernet_of-Reads bytes f.header).1 found.header))
