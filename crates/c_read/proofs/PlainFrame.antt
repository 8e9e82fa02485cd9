-- A frame without IPv6 extension headers is parsed as by itself.
use Rattle.std.proofs.Common.{ℕ, ◌≡◌, ◌∙◌, ap, List, drop, false, length, refl, subst, sym}
use Rattle.ip_wire.proofs.Numbers.{protocol_number}
use Rattle.ip_wire.specs.Field.{field}
use Rattle.ip_wire.specs.Frame.{ReadsFrame, ReadsTransportBy, Transport, packet}
use Rattle.ip_wire.specs.Ip.{dst_addr_of, src_addr_of}
use Rattle.ip_wire.specs.Ipv6.{payload_of}
use Rattle.ip_wire.specs.Protocol.{number_of, protocol_of}
use Rattle.ip_wire.specs.Types.{EthernetRepr, IpProtocol, IpRepr, Ipv4, Ipv6}
use Rattle.ip_wire.specs.declared.ChecksumCapabilities.{ChecksumCapabilities}
use Rattle.wire_extensions.proofs.Steps.{chain-none}
use Rattle.c_read.specs.FrameFields.{ipv6_chain}
use Rattle.wire_extensions.specs.Chain.{begun}
use Rattle.wire_extensions.specs.Extension.{is_extension}
use Rattle.c_read.specs.Stored.{HasNoExtension, StepsFrame}
use Rattle.wire_extensions.specs.declared.chain.Chain.{Chain}

pub plain-steps : (caps : ChecksumCapabilities) (frame : List ℕ) (v : EthernetRepr) (w : IpRepr) (t : Transport) → ReadsFrame caps frame v (packet w t) → HasNoExtension w
    → StepsFrame caps frame v (packet w t)
plain-steps caps frame v (Ipv4 w) t r none =
    let (type, header, inner) = r.reads_carried in record { reads_header = r.reads_header; reads_carried = (type, header, refl, inner) }
plain-steps caps frame v (Ipv6 w) t r none =
    let bytes = drop 14 frame in
    let (type, header, inner) = r.reads_carried in
    let number : number_of w.next_header ≡ field bytes 48 8 = ap number_of header.next_header ∙ protocol_number (field bytes 48 8) in
    let is : ipv6_chain bytes ≡ begun (field bytes 48 8) =
    chain-none (field bytes 48 8) (length (payload_of bytes)) (payload_of bytes) (subst (λ n. is_extension n ≡ false) number none) in
    let carried : ReadsTransportBy caps (protocol_of (field bytes 48 8)) (src_addr_of (Ipv6 w)) (dst_addr_of (Ipv6 w)) (payload_of bytes) t =
    subst (λ (p : IpProtocol). ReadsTransportBy caps p (src_addr_of (Ipv6 w)) (dst_addr_of (Ipv6 w)) (payload_of bytes) t) header.next_header inner in
    record {
      reads_header = r.reads_header;
      reads_carried = (
        type,
        header,
        ap (λ (c : Chain). c.fault) is,
        subst (λ (c : Chain). ReadsTransportBy caps (protocol_of c.protocol) (src_addr_of (Ipv6 w)) (dst_addr_of (Ipv6 w)) (drop c.len (payload_of bytes)) t) (sym is) carried,
      );
    }
