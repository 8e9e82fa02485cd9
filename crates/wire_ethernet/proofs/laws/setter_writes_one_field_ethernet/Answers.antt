use Rattle.std.proofs.Common.{◌≡◌, ◌∙◌, rules, subst, sym}
use Rattle.net_base.proofs.Ranges.{range_field}
use Rattle.net_base.proofs.Spelled.{AreBytes}
use Rattle.wire_ethernet.specs.Ethernet.{frame_bytes_mut}
use Rattle.wire_ethernet.specs.EthernetFields.{after}
use Rattle.wire_ethernet.specs.declared.laws.EthernetSetting.{EthernetSetting}
use Rattle.wire_ethernet.proofs.laws.setter_writes_one_field_ethernet.Goals as goal

pub returns-in-DstAddr : goal.returns-in-DstAddr
returns-in-DstAddr c = subst (λ (s : EthernetSetting). frame_bytes_mut c.set_dst_addr.new.self ≡ after s (frame_bytes_mut c.args.frame.now)) (sym c.in-DstAddr.is)
    (c.set_dst_addr.ensures.holds ∙ range_field (frame_bytes_mut c.args.frame.now) c.in-DstAddr.x.0 0 6 (subst AreBytes c.as_bytes.ensures.octets c.bytes_fit.ensures) (search rules))

pub returns-in-SrcAddr : goal.returns-in-SrcAddr
returns-in-SrcAddr c = subst (λ (s : EthernetSetting). frame_bytes_mut c.set_src_addr.new.self ≡ after s (frame_bytes_mut c.args.frame.now)) (sym c.in-SrcAddr.is)
    (c.set_src_addr.ensures.holds ∙ range_field (frame_bytes_mut c.args.frame.now) c.in-SrcAddr.x.0 6 6 (subst AreBytes c.as_bytes-in-SrcAddr.ensures.octets c.bytes_fit-in-SrcAddr.ensures) (search rules))
