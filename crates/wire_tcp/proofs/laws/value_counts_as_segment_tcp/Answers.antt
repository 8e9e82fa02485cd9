use Rattle.std.proofs.Common.{◌≡◌, rules, sym, ◌∙◌}
use Rattle.net_base.specs.Checksum.{verifies}
use Rattle.wire_tcp.specs.Tcp.{packet_bytes}
use Rattle.wire_tcp.specs.TcpRepr.{header_of}
use Rattle.wire_tcp.proofs.TcpCounted.{counted}
use Rattle.wire_tcp.proofs.laws.value_counts_as_segment_tcp.Goals as goal

pub returns-in-Ok : goal.returns-in-Ok
returns-in-Ok c =
    let v = c.in-Ok.value in
    let same : c.segment_len.result ≡ c.segment_len-in-Ok.result =
    c.segment_len.ensures ∙ counted (packet_bytes c.args.packet.now) c.args.src_addr.now c.args.dst_addr.now (verifies c.args.caps.now.tcp) (header_of v) v.payload.now c.in-Ok.ensures.ok ∙ sym c.segment_len-in-Ok.ensures in
    rw (same) (search rules)
