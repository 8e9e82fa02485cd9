use Rattle.std.proofs.Common.{◌≡◌, arith, length, rules}
use Rattle.ip_wire.specs.declared.IpAddress.TheVariants.{Ipv6}
use Rattle.app_mld.proofs.Reports.{verified}
use Rattle.app_mld.proofs.report.emit_report.Goals as goal

pub returns-clause-checksum : goal.returns-clause-checksum
returns-clause-checksum c =
    let src : length c.args.src ≡ 16 = search rules in
    let group : length c.args.group ≡ 16 = search rules in
    verified (record { msg_type = 131; msg_code = 0; word = 0 }) c.args.group (Ipv6 c.args.src) (Ipv6 c.args.group)
    (record { src_bytes = omega (arith, src); dst_bytes = omega (arith, group) })
