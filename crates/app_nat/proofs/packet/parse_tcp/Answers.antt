use Rattle.std.proofs.Common.{◌≡◌, refl, rules}
use Rattle.ip_wire.specs.Frame.{all_checked}
use Rattle.ip_wire.specs.Tcp.{packet_bytes}
use Rattle.ip_wire.specs.TcpRepr.{header_of}
use Rattle.app_nat.proofs.Faults.{bad-tcp}
use Rattle.app_nat.specs.Nat.{segment}
use Rattle.app_nat.proofs.packet.parse_tcp.Goals as goal

pub returns-in-Ok-clause-packet : goal.returns-in-Ok-clause-packet
returns-in-Ok-clause-packet c =
    let caps : c.default.result ≡ all_checked = search rules in
    let bytes : packet_bytes c.new_unchecked-packet.result ≡ c.args.payload.now = search rules in
    let v = c.in-Ok.segment in
    (segment (header_of v) v.payload.now, (c.requires, rw (bytes, caps) at c.in-Ok.ensures.ok), record { src_port = refl; dst_port = refl; kind = refl })

pub returns-in-Err-clause-rejected : goal.returns-in-Err-clause-rejected
returns-in-Err-clause-rejected c =
    let caps : c.default.result ≡ all_checked = search rules in
    let bytes : packet_bytes c.new_unchecked-packet.result ≡ c.args.payload.now = search rules in
    bad-tcp c.args.header.now c.args.payload.now c.parse.result c.in-Err.field-0 c.requires (rw (bytes, caps) at c.parse.ensures.value) c.in-Err.is
