-- What is not read stays.
use Rattle.std.proofs.Common.{ℕ, ◌≡◌, ◌<◌, ◌/◌, ◌%◌, inl, inr, true, List, ◌∷◌, ◌++◌, Option, Some, None, drop, length, slice_range, refl, sym, ap, subst, ◌∙◌, arith}
use Rattle.std.specs.Int.{bytes_high_first}
use Rattle.std.specs.Option.{option_map_or}
use Rattle.ip_wire.proofs.FrameOf.{header-only, transport-only}
use Rattle.ip_wire.proofs.Frames.{rebuilt-ip, rebuilt-read}
use Rattle.ip_wire.proofs.IpLayer.{ReadsPacket-IsHeader, sets_len}
use Rattle.ip_wire.proofs.Options.{none_of}
use Rattle.ip_wire.specs.Frame.{CarriesMessage, CarriesPacket, CarriesTransport, ReadsPacket, ReadsTransportBy, Transport, all_checked, datagram, describe_transport, header_by, other, packet_payload, rebuilt, rebuilt_packet, rebuilt_payload, rebuilt_transport_by, segment, transport_by, type_of}
use Rattle.net_base.proofs.Cells.{cells-drop}
use Rattle.net_base.proofs.Spelled.{AreBytes}
use Rattle.net_base.specs.Field.{field}
use Rattle.ip_wire.specs.Types.{ArpRepr, EthernetProtocol, EthernetRepr, IpAddress, IpProtocol, IpRepr, UdpRepr}
use Rattle.wire_ip.specs.Ip as ip_header
use Rattle.wire_ip.specs.Ip.{dst_addr_of, next_header_of, payload_len_of, src_addr_of}
use Rattle.wire_arp.proofs.ArpComputed.{arp_of-Reads}
use Rattle.wire_arp.specs.Arp as arp_packet
use Rattle.wire_arp.specs.Arp.{arp_of}
use Rattle.wire_ethernet.proofs.EthernetComputed.{ethernet_of-Reads}
use Rattle.wire_ethernet.proofs.EthernetNormal.{number_of-protocol_of}
use Rattle.wire_ethernet.specs.Ethernet.{Reads, bytes_of, ethernet_of, number_of}
use Rattle.wire_ethernet.specs.declared.EthernetProtocol.TheVariants as ethertype
use Rattle.wire_tcp.specs.TcpRepr.{TcpHeader}

-- what a frame of this type carries, if it is no ARP packet or IP packet that is read
pub payload-stays : (t : EthernetProtocol) (bytes : List ℕ) → ((w : ArpRepr) → t ≡ ethertype.Arp → ¬ arp_packet.Reads bytes w)
    → ((w : IpRepr) → t ≡ type_of w → ¬ ReadsPacket all_checked bytes w) → rebuilt_payload t bytes ≡ bytes
payload-stays ethertype.Arp bytes h k = ap (λ o. option_map_or arp_packet.bytes_of o bytes) (none_of (arp_of bytes) (λ w e. h w refl ((arp_of-Reads bytes w).0 e)))
payload-stays t bytes h k =
    let unread = none_of (header_by all_checked t bytes) (λ v e. let (type, read) = header-only all_checked t bytes v e in k v type read) in
    ap (λ o. option_map_or (λ v. rebuilt_packet v (packet_payload v bytes)) o bytes) unread

-- the header that was read, written again
header-again : (a b c d e f g h i j k l m n : ℕ) (rest : List ℕ) → m < 256 → n < 256
    → let frame = a ∷ b ∷ c ∷ d ∷ e ∷ f ∷ g ∷ h ∷ i ∷ j ∷ k ∷ l ∷ m ∷ n ∷ rest in
    (slice_range frame 0 6 ++ slice_range frame 6 12 ++ bytes_high_first 2 (field frame 96 16)) ++ drop 14 frame ≡ frame
header-again a b c d e f g h i j k l m n rest high low =
    let whole = a ∷ b ∷ c ∷ d ∷ e ∷ f ∷ g ∷ h ∷ i ∷ j ∷ k ∷ l ∷ m ∷ n ∷ rest in
    let first : field whole 96 16 / 256 % 256 ≡ m = omega (arith, high, low) in
    let second : field whole 96 16 % 256 ≡ n = omega (arith, high, low) in
    rw (first, second) refl

-- a header of bytes that is read is emitted unchanged
header-stays : (frame : List ℕ) (v : EthernetRepr) → AreBytes frame → Reads frame v → bytes_of v ++ drop 14 frame ≡ frame
header-stays frame v are r =
    let parts = cells-drop 14 frame r.whole in
    let are_cells = subst AreBytes parts are in
    let number : number_of v.ethertype ≡ field frame 96 16 = ap number_of r.ethertype ∙ number_of-protocol_of (field frame 96 16) in
    rw (r.dst_addr, r.src_addr, number)
    (subst (λ f. (slice_range f 0 6 ++ slice_range f 6 12 ++ bytes_high_first 2 (field f 96 16)) ++ drop 14 f ≡ f) (sym parts)
    (header-again _ _ _ _ _ _ _ _ _ _ _ _ _ _ (drop 14 frame) (are_cells 12) (are_cells 13)))

-- ---- what a packet carries

transport_by-stays : (t : IpProtocol) (src dst : IpAddress) (bytes : List ℕ)
    → ((v : UdpRepr) (payload : List ℕ) → ¬ ReadsTransportBy all_checked t src dst bytes (datagram v payload))
    → ((v : TcpHeader) (payload : List ℕ) → ¬ ReadsTransportBy all_checked t src dst bytes (segment v payload))
    → rebuilt_transport_by t src dst bytes ≡ bytes
transport_by-stays t src dst bytes h k = by (transport_by all_checked t src dst bytes) (λ read. transport-only all_checked t src dst bytes read)
  where
    by : (o : Option Transport) → ((read : Transport) → o ≡ Some read → ReadsTransportBy all_checked t src dst bytes read)
        → option_map_or (λ read. (describe_transport read).bytes all_checked src dst) o bytes ≡ bytes
    by None only = refl
    by (Some (datagram v p)) only = absurd (h v p (only (datagram v p) refl))
    by (Some (segment v p)) only = absurd (k v p (only (segment v p) refl))
    by (Some (other p)) only = (only (other p) refl).2

transport-stays : (w : IpRepr) (bytes : List ℕ) → ReadsPacket all_checked bytes w → ¬ CarriesTransport w (packet_payload w bytes)
    → rebuilt_payload (type_of w) bytes ≡ ip_header.bytes_of w true ++ packet_payload w bytes
transport-stays w bytes r h =
    let payload = packet_payload w bytes in
    let len : payload_len_of w ≡ length payload = (ReadsPacket-IsHeader all_checked bytes w r).payload_len in
    let stays = transport_by-stays (next_header_of w) (src_addr_of w) (dst_addr_of w) payload (λ v p r. h (inl (v, p, r))) (λ v p r. h (inr (v, p, r))) in
    rebuilt-ip bytes w r ∙ rw (stays, ← len, (sets_len w 0 0).own) refl

pub payload-unread-stays : (frame : List ℕ) (v : EthernetRepr) (w : IpRepr) → Reads frame v → v.ethertype ≡ type_of w
    → ReadsPacket all_checked (drop 14 frame) w → ¬ CarriesTransport w (packet_payload w (drop 14 frame))
    → rebuilt frame ≡ bytes_of v ++ (ip_header.bytes_of w true ++ packet_payload w (drop 14 frame))
payload-unread-stays frame v w r type read h =
    rebuilt-read frame v ((ethernet_of-Reads frame v).1 r) ∙ rw (type, transport-stays w (drop 14 frame) read h) refl

-- ---- a frame

-- a frame of no header stays, and so does one that carries nothing that is read
header-or-stays : (frame : List ℕ) (read : Option EthernetRepr) → ethernet_of frame ≡ read → AreBytes frame
    → ¬ CarriesMessage frame → ¬ CarriesPacket frame → rebuilt frame ≡ frame
unfolding rebuilt
header-or-stays frame None e are message packet = rw e refl
header-or-stays frame (Some v) e are message packet =
    let r = (ethernet_of-Reads frame v).0 e in
    let stays = payload-stays v.ethertype (drop 14 frame) (λ w type read. message (v, w, record { reads_header = r; reads_carried = (type, read) }))
    (λ w type read. packet (v, w, r, type, read))
    in
    rebuilt-read frame v e ∙ ap (λ rest. bytes_of v ++ rest) stays ∙ header-stays frame v are r

pub frame-stays : (frame : List ℕ) → AreBytes frame → ¬ CarriesMessage frame → ¬ CarriesPacket frame → rebuilt frame ≡ frame
frame-stays frame = header-or-stays frame (ethernet_of frame) refl
