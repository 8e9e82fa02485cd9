-- A frame that is written is read as its normal form.
use Rattle.std.proofs.Common.{ℕ, ◌≡◌, ◌++◌, ◌∙◌, List, Some, sym, ap, ap₂, subst}
use Rattle.std.specs.Option.{option_map}
use Rattle.ip_wire.specs.Frame as frame
use Rattle.ip_wire.specs.Frame.{ReadsFrame, packet}
use Rattle.ip_wire.specs.FrameValue.{Composes, carried_bytes, normal_carried_of, normal_transport_of, transport_bytes, transport_len}
use Rattle.ip_wire.specs.declared.frame.carried.Carried.TheVariants as carried
use Rattle.ip_wire.specs.declared.frame.transport.Transport.{Transport}
use Rattle.ip_wire.specs.declared.frame.carried.Carried.{Carried}
use Rattle.net_base.specs.Checksum.{computes}
use Rattle.net_base.specs.declared.ChecksumCapabilities.{ChecksumCapabilities}
use Rattle.wire_ethernet.specs.Ethernet as ethernet
use Rattle.wire_ip.specs.Ip as ip
use Rattle.wire_ip.specs.Ip.{dst_addr_of, src_addr_of, with_payload_len}
use Rattle.ip_wire.specs.Types.{EthernetRepr, IpRepr, Ipv4, Ipv6}

-- a header has the same addresses and version with another length of its payload
pub src_addr-with : (v w : IpRepr) (n : ℕ) → w ≡ with_payload_len v n → src_addr_of w ≡ src_addr_of v
src_addr-with (Ipv4 v) w n is = ap src_addr_of is
src_addr-with (Ipv6 v) w n is = ap src_addr_of is

pub dst_addr-with : (v w : IpRepr) (n : ℕ) → w ≡ with_payload_len v n → dst_addr_of w ≡ dst_addr_of v
dst_addr-with (Ipv4 v) w n is = ap dst_addr_of is
dst_addr-with (Ipv6 v) w n is = ap dst_addr_of is

pub back-packet : (sent received : ChecksumCapabilities) (header : EthernetRepr) (c : Carried) (v : IpRepr) (t : Transport) (inner : IpRepr) (s : frame.Transport) (q padding : List ℕ)
    → c ≡ carried.Packet v t → inner ≡ with_payload_len v (transport_len t) → normal_transport_of t ≡ Some s → q ≡ transport_bytes sent v t
    → ReadsFrame received (ethernet.bytes_of header ++ (ip.bytes_of inner (computes sent.ipv4) ++ q) ++ padding) (ethernet.normal header) (packet (ip.normal inner) s)
    → Composes received (ethernet.bytes_of header ++ carried_bytes sent c ++ padding) header c
back-packet sent received header c v t inner s q padding is filled normal bytes r =
    let read = packet (ip.normal inner) s in
    let named : normal_carried_of c ≡ Some read =
    ap normal_carried_of is
    ∙ ap (option_map (packet (ip.normal (with_payload_len v (transport_len t))))) normal
    ∙ ap (λ w. Some (packet (ip.normal w) s)) (sym filled)
    in
    let written : ethernet.bytes_of header ++ (ip.bytes_of inner (computes sent.ipv4) ++ q) ++ padding ≡ ethernet.bytes_of header ++ carried_bytes sent c ++ padding =
    ap₂ (λ w p. ethernet.bytes_of header ++ (ip.bytes_of w (computes sent.ipv4) ++ p) ++ padding) filled bytes
    ∙ ap (λ x. ethernet.bytes_of header ++ carried_bytes sent x ++ padding) (sym is)
    in
    (read, named, subst (λ bytes. ReadsFrame received bytes (ethernet.normal header) read) written r)
