use Rattle.std.proofs.Common.{refl, rules}
use Rattle.ip_wire.proofs.Composed.{reads_frame}
use Rattle.ip_wire.specs.Frame.{other}
use Rattle.net_base.specs.Checksum.{computes}
use Rattle.wire_ip.proofs.IpReadsBack.{IsInRange}
use Rattle.ip_wire.proofs.laws.back.frame_composes_other.Goals as goal

pub returns : goal.returns
returns c =
    let inner = c.args.inner in
    let payload = c.args.payload.now in
    let in_range : IsInRange inner = search rules in
    reads_frame c.args.received (computes c.args.sent.ipv4) c.args.header inner payload c.args.padding.now (other payload) (search rules) (search rules)
    c.requires.names in_range c.requires.len c.requires.packet_checksum (c.requires.datagram, c.requires.segment, refl)
