use Rattle.std.proofs.Common.{◌≡◌, ◌≤◌, ◌∙◌, length, rules, subst, sym}
use Rattle.net_base.specs.Diagram.{end_of}
use Rattle.net_base.proofs.Spelled.{AreBytes}
use Rattle.wire_ipv4.specs.Ipv4.{packet_bytes_mut}
use Rattle.wire_ipv4.specs.Ipv4Fields.{after_update, diagram, setting_of, write_of}
use Rattle.wire_ipv4.specs.declared.laws.Ipv4Update.{Ipv4Update}
use Rattle.wire_ipv4.proofs.Ipv4Numbers.{address_updated}
use Rattle.wire_ipv4.proofs.laws.update_writes_two_fields_ipv4.Goals as goal

pub returns-in-SrcAddr-clause-written : goal.returns-in-SrcAddr-clause-written
returns-in-SrcAddr-clause-written c =
    let room = subst (λ (u : Ipv4Update). end_of diagram (write_of (setting_of u)).0 ≤ length (packet_bytes_mut c.args.packet.now)) c.in-SrcAddr.is c.requires.field in
    subst (λ (u : Ipv4Update). packet_bytes_mut c.update_src_addr.new.self ≡ after_update u (packet_bytes_mut c.args.packet.now)) (sym c.in-SrcAddr.is)
    (c.update_src_addr.ensures.value.holds ∙ address_updated (packet_bytes_mut c.args.packet.now) c.in-SrcAddr.x 12 (subst AreBytes c.as_bytes.ensures c.bytes_fit.ensures) (search rules) (search rules) room)

pub returns-in-DstAddr-clause-written : goal.returns-in-DstAddr-clause-written
returns-in-DstAddr-clause-written c =
    let room = subst (λ (u : Ipv4Update). end_of diagram (write_of (setting_of u)).0 ≤ length (packet_bytes_mut c.args.packet.now)) c.in-DstAddr.is c.requires.field in
    subst (λ (u : Ipv4Update). packet_bytes_mut c.update_dst_addr.new.self ≡ after_update u (packet_bytes_mut c.args.packet.now)) (sym c.in-DstAddr.is)
    (c.update_dst_addr.ensures.value.holds ∙ address_updated (packet_bytes_mut c.args.packet.now) c.in-DstAddr.x 16 (subst AreBytes c.as_bytes.ensures c.bytes_fit.ensures) (search rules) (search rules) room)
