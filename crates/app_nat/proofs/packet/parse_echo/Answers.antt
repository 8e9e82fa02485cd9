use Rattle.std.proofs.Common.{◌≡◌, ◌≤◌, Some, length, refl, rules}
use Rattle.ip_wire.specs.Field.{field}
use Rattle.ip_wire.specs.WordSum.{sum_of_bytes}
use Rattle.wire_icmp.specs.Icmp.{packet_bytes}
use Rattle.app_nat.proofs.Echoes.{read-echo}
use Rattle.app_nat.specs.Nat.{echo_kind}
use Rattle.app_nat.proofs.packet.parse_echo.Goals as goal

pub returns-clause-packet : goal.returns-clause-packet
returns-clause-packet c =
    let bytes = c.args.payload.now in
    let view : packet_bytes c.new_unchecked-message.result ≡ bytes = search rules in
    let kind : echo_kind (field bytes 0 8) (field bytes 8 8) ≡ Some c.in_ok-kind.kind = search rules in
    let long : 8 ≤ length bytes = search rules in
    let sum : sum_of_bytes bytes ≡ 65535 = search rules in
    let ident : c.echo_ident-ident.result ≡ field bytes 32 16 = search rules in
    read-echo c.args.header.now bytes c.in_ok-kind.kind
    (record { header = c.args.header.now; src_port = c.echo_ident-ident.result; dst_port = c.echo_ident-ident.result; kind = c.in_ok-kind.kind })
    c.bytes_fit.ensures c.requires kind long sum ident ident refl
