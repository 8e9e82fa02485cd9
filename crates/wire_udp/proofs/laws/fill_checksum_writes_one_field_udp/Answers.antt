use Rattle.std.proofs.Common.{subst, sym, rules}
use Rattle.net_base.proofs.Spelled.{AreBytes}
use Rattle.wire_udp.proofs.UdpUpdated.{filled}
use Rattle.wire_udp.specs.Udp.{Verifies, packet_bytes_mut}
use Rattle.wire_udp.proofs.laws.fill_checksum_writes_one_field_udp.Goals as goal

pub returns-clause-valid : goal.returns-clause-valid
returns-clause-valid c =
    let are : AreBytes (packet_bytes_mut c.args.packet.now) = subst AreBytes c.as_bytes.ensures c.bytes_fit.ensures in
    subst (Verifies c.args.src_addr c.args.dst_addr) (sym c.fill_checksum.ensures.holds)
    (filled c.args.src_addr c.args.dst_addr (packet_bytes_mut c.args.packet.now) are (search rules) (search rules) c.requires.lengths).1
