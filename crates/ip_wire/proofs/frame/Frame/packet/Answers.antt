use Rattle.std.proofs.Common.{◌≤◌, refl, rules}
use Rattle.ip_wire.proofs.Built.{agrees-around, fits-around}
use Rattle.ip_wire.specs.FrameValue.{FitsTransport, NamesTransport, protocol_before, transport_len}
use Rattle.wire_ip.specs.Ip.{header_before, max_payload_len}
use Rattle.ip_wire.proofs.frame.Frame.packet.Goals as goal

pub returns-clause-ok : goal.returns-clause-ok
returns-clause-ok c =
    let v = c.args.header in
    let t = c.args.inner in
    let names : NamesTransport (header_before v (protocol_before v t) (transport_len t)) t = search rules in
    let fits : FitsTransport t = search rules in
    let len : transport_len t ≤ max_payload_len v = search rules in
    ((λ ok. (agrees-around c.args.src_addr c.args.dst_addr v t names, fits-around c.args.src_addr c.args.dst_addr v t len fits)), (λ both. refl))
