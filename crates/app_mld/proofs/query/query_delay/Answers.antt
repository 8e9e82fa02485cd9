use Rattle.std.proofs.Common.{◌≡◌, rules}
use Rattle.ip_wire.specs.Frame.{all_checked}
use Rattle.ip_wire.specs.Packet.{packet_of}
use Rattle.app_mld.proofs.Queries.{in_packet, no_frame, no_ipv6, no_other}
use Rattle.app_mld.proofs.query.query_delay.Goals as goal

pub returns-in-Other : goal.returns-in-Other
returns-in-Other c =
    let frame = c.args.frame.now in
    let caps : c.default.result ≡ all_checked = search rules in
    in_packet c.args.group.now frame (packet_of all_checked frame) c.in-Ok.field-0-0 c.in-Ok.header c.in-Ok.inner c.in-Ipv6.ip c.in-Other.payload c.carried_delay.result
    (rw caps at c.in-Ok.ensures.reads) (rw caps at c.in-Ok.ensures.value) c.in-Ipv6.is c.in-Other.is c.carried_delay.ensures

pub returns-in_default : goal.returns-in_default
returns-in_default c =
    let frame = c.args.frame.now in
    let caps : c.default.result ≡ all_checked = search rules in
    no_other c.args.group.now frame (packet_of all_checked frame) c.in-Ok.field-0-0 c.in-Ok.header c.in-Ok.inner
    (rw caps at c.in-Ok.ensures.reads) (rw caps at c.in-Ok.ensures.value) c.in_default.not-Other

pub returns-in-Ipv4 : goal.returns-in-Ipv4
returns-in-Ipv4 c =
    let frame = c.args.frame.now in
    let caps : c.default.result ≡ all_checked = search rules in
    no_ipv6 c.args.group.now frame (packet_of all_checked frame) c.in-Ok.field-0-0 c.in-Ok.header c.in-Ok.inner c.in-Ipv4.field-0
    (rw caps at c.in-Ok.ensures.reads) (rw caps at c.in-Ok.ensures.value) c.in-Ipv4.is

pub returns-in-Err : goal.returns-in-Err
returns-in-Err c =
    let frame = c.args.frame.now in
    let caps : c.default.result ≡ all_checked = search rules in
    no_frame c.args.group.now frame (packet_of all_checked frame) (rw caps at c.in-Err.ensures.reads) (rw caps at c.in-Err.ensures.value)
