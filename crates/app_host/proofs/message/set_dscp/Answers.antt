use Rattle.std.proofs.Common.{◌≡◌, ◌*◌, rules, subst, true}
use Rattle.app_host.proofs.Marked.{ipv4_marked, remarked, sum_after, remarked-ipv4, remarked-ipv6}
use Rattle.app_host.specs.Message.{HasClass}
use Rattle.ip_wire.specs.Field.{with_field}
use Rattle.ip_wire.specs.Frame.{ReadsPacket, all_checked}
use Rattle.ip_wire.specs.Ip.{version_of}
use Rattle.ip_wire.specs.Ipv4 as ipv4
use Rattle.ip_wire.specs.Ipv6 as ipv6
use Rattle.ip_wire.specs.Types.{Ipv4, Ipv6}
use Rattle.app_host.proofs.message.set_dscp.Goals as goal

pub returns-in-Ipv4 : goal.returns-in-Ipv4
returns-in-Ipv4 c =
    let bytes = c.args.packet.now in
    let n = c.args.dscp in
    let v = c.in-Ipv4.field-0 in
    let view : ipv4.packet_bytes_mut c.new_unchecked-packet.result ≡ bytes = search rules in
    let reads = subst (ReadsPacket all_checked bytes) c.in-Ipv4.is c.requires.reads in
    let unmarked = subst (λ w. HasClass (version_of w) bytes 0) c.in-Ipv4.is c.requires.unmarked in
    let written : ipv4.packet_bytes_mut c.update_dscp.new.self ≡ ipv4_marked bytes n (sum_after bytes n) = (rw view at c.update_dscp.ensures.value).holds in
    let step = rw view at c.update_dscp.ensures.reads in
    remarked (Ipv4 v) c.args.ip.now bytes (ipv4.packet_bytes_mut c.update_dscp.new.self) _ n c.in-Ipv4.is (search rules)
    (remarked-ipv4 v bytes (ipv4.packet_bytes_mut c.update_dscp.new.self) n c.bytes_fit.ensures c.requires.fits reads unmarked written (step v true reads.0))

pub returns-in-Ipv6 : goal.returns-in-Ipv6
returns-in-Ipv6 c =
    let bytes = c.args.packet.now in
    let n = c.args.dscp in
    let v = c.in-Ipv6.field-0 in
    let view : ipv6.packet_bytes_mut c.new_unchecked-packet-in-Ipv6.result ≡ bytes = search rules in
    let reads = subst (ReadsPacket all_checked bytes) c.in-Ipv6.is c.requires.reads in
    let written : ipv6.packet_bytes_mut c.set_traffic_class.new.self ≡ with_field bytes 4 8 (4 * n) = (rw view at c.set_traffic_class.ensures).holds in
    remarked (Ipv6 v) c.args.ip.now bytes (ipv6.packet_bytes_mut c.set_traffic_class.new.self) _ n c.in-Ipv6.is (search rules)
    (remarked-ipv6 v bytes (ipv6.packet_bytes_mut c.set_traffic_class.new.self) n c.bytes_fit.ensures c.requires.fits reads written)
