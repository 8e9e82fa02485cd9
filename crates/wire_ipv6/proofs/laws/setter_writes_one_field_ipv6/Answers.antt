use Rattle.std.proofs.Common.{◌≡◌, rules, subst, sym, ◌∙◌}
use Rattle.net_base.proofs.Ranges.{range_field}
use Rattle.wire_ipv6.specs.Ipv6.{packet_bytes_mut}
use Rattle.wire_ipv6.specs.Ipv6Fields.{after}
use Rattle.wire_ipv6.specs.declared.laws.Ipv6Setting.{Ipv6Setting}
use Rattle.wire_ipv6.proofs.laws.setter_writes_one_field_ipv6.Goals as goal

pub returns-in-SrcAddr : goal.returns-in-SrcAddr
returns-in-SrcAddr c = subst (λ (s : Ipv6Setting). packet_bytes_mut c.set_src_addr.new.self ≡ after s (packet_bytes_mut c.args.packet.now)) (sym c.in-SrcAddr.is)
    (c.set_src_addr.ensures.holds ∙ range_field (packet_bytes_mut c.args.packet.now) c.in-SrcAddr.x 8 16 (search rules) (search rules))

pub returns-in-DstAddr : goal.returns-in-DstAddr
returns-in-DstAddr c = subst (λ (s : Ipv6Setting). packet_bytes_mut c.set_dst_addr.new.self ≡ after s (packet_bytes_mut c.args.packet.now)) (sym c.in-DstAddr.is)
    (c.set_dst_addr.ensures.holds ∙ range_field (packet_bytes_mut c.args.packet.now) c.in-DstAddr.x 24 16 (search rules) (search rules))
