use Rattle.std.proofs.Common.{◌≡◌, refl, rules}
use Rattle.ip_wire.specs.Frame.{all_checked}
use Rattle.ip_wire.specs.Udp.{packet_bytes, payload_of}
use Rattle.app_nat.proofs.Faults.{bad-udp}
use Rattle.app_nat.specs.Nat.{datagram}
use Rattle.app_nat.proofs.packet.parse_udp.Goals as goal

pub returns-in-Ok-clause-packet : goal.returns-in-Ok-clause-packet
returns-in-Ok-clause-packet c =
    let caps : c.default.result ≡ all_checked = search rules in
    let bytes : packet_bytes c.new_unchecked-packet.result ≡ c.args.payload.now = search rules in
    let reads = rw (bytes, caps) at c.parse.ensures.reads in
    (datagram c.in-Ok.ports (payload_of c.args.payload.now), (c.requires, (reads c.in-Ok.ports).0 c.in-Ok.is), record { src_port = refl; dst_port = refl; kind = refl })

pub returns-in-Err-clause-rejected : goal.returns-in-Err-clause-rejected
returns-in-Err-clause-rejected c =
    let caps : c.default.result ≡ all_checked = search rules in
    let bytes : packet_bytes c.new_unchecked-packet.result ≡ c.args.payload.now = search rules in
    bad-udp c.args.header.now c.args.payload.now c.parse.result c.in-Err.field-0 c.requires (rw (bytes, caps) at c.parse.ensures.value) c.in-Err.is
