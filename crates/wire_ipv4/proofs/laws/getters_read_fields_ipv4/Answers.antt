use Rattle.std.proofs.Common.{◌≡◌, rules, subst, sym}
use Rattle.net_base.proofs.Spelled.{AreBytes}
use Rattle.wire_ipv4.specs.Ipv4.{packet_bytes}
use Rattle.wire_ipv4.specs.Ipv4Fields.{got}
use Rattle.wire_ipv4.specs.declared.laws.Ipv4Getting.{Ipv4Getting}
use Rattle.wire_ipv4.proofs.Ipv4Numbers.{address_read}
use Rattle.wire_ipv4.proofs.laws.getters_read_fields_ipv4.Goals as goal

pub returns-in-SrcAddr : goal.returns-in-SrcAddr
returns-in-SrcAddr c = subst (λ (g : Ipv4Getting). c.to_bits.result ≡ got g (packet_bytes c.args.packet.now)) (sym c.in-SrcAddr.is)
    (address_read (packet_bytes c.args.packet.now) c.src_addr.result 12 c.to_bits.result (subst AreBytes c.as_bytes.ensures c.bytes_fit.ensures) (search rules) c.src_addr.ensures c.to_bits.ensures.value)

pub returns-in-DstAddr : goal.returns-in-DstAddr
returns-in-DstAddr c = subst (λ (g : Ipv4Getting). c.to_bits-in-DstAddr.result ≡ got g (packet_bytes c.args.packet.now)) (sym c.in-DstAddr.is)
    (address_read (packet_bytes c.args.packet.now) c.dst_addr.result 16 c.to_bits-in-DstAddr.result (subst AreBytes c.as_bytes.ensures c.bytes_fit.ensures) (search rules) c.dst_addr.ensures c.to_bits-in-DstAddr.ensures.value)
