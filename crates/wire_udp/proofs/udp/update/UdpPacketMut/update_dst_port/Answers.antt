use Rattle.std.proofs.Common.{◌≡◌, false, subst, sym, arith, rules}
use Rattle.net_base.proofs.Spelled.{AreBytes}
use Rattle.net_base.specs.Field.{field, with_field}
use Rattle.wire_udp.specs.Udp.{HasChecksum, packet_bytes_mut, with_updated_checksum}
use Rattle.wire_udp.proofs.UdpChanged.{reads-dst_port}
use Rattle.wire_udp.proofs.UdpUpdated.{reads-updated, valid-port}
use Rattle.wire_udp.proofs.udp.update.UdpPacketMut.update_dst_port.Goals as goal

written : (c : goal.After-update_checksum)
    → packet_bytes_mut c.update_checksum.new.self ≡ with_updated_checksum (with_field (packet_bytes_mut c.args.self.now) 16 16 c.args.value) (field (packet_bytes_mut c.args.self.now) 16 16) c.args.value
written c = search rules

pub returns-clause-valid : goal.returns-clause-valid
returns-clause-valid c src dst s d lengths valid =
    subst (HasChecksum src dst) (sym (written c)) (valid-port src dst (packet_bytes_mut c.args.self.now) 1 c.args.value (subst AreBytes c.as_bytes.ensures c.bytes_fit.ensures) (search rules) (omega arith) s d lengths valid)

pub returns-clause-reads : goal.returns-clause-reads
returns-clause-reads c src dst verified v payload s d some r =
    reads-updated (with_field (packet_bytes_mut c.args.self.now) 16 16 c.args.value) _ _ _ src dst src dst false verified (record v { dst_port = c.args.value }) payload (written c)
    (reads-dst_port (packet_bytes_mut c.args.self.now) c.args.value src dst verified false v payload (search rules) some r (λ no. cc)) (λ on. returns-clause-valid c src dst s d r.lengths (r.checksum on))
