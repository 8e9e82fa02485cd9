use Rattle.std.proofs.Common.{◌≡◌, ◌*◌, false, subst, sym, arith, rules}
use Rattle.net_base.proofs.Spelled.{AreBytes}
use Rattle.net_base.specs.Field.{field, with_field}
use Rattle.wire_ipv4.specs.Ipv4.{HasChecksum, packet_bytes_mut, with_updated_checksum}
use Rattle.wire_ipv4.proofs.Ipv4Changed.{reads-hop_limit, reads-summed}
use Rattle.wire_ipv4.proofs.Ipv4Updated.{valid-hop_limit}
use Rattle.wire_ipv4.proofs.ipv4.update.Ipv4PacketMut.update_hop_limit.Goals as goal

written : (c : goal.After-update_checksum)
    → packet_bytes_mut c.update_checksum.new.self ≡ with_updated_checksum (with_field (packet_bytes_mut c.args.self.now) 64 8 c.args.value) (256 * field (packet_bytes_mut c.args.self.now) 64 8) (256 * c.args.value)
written c = search rules

pub returns-clause-valid : goal.returns-clause-valid
returns-clause-valid c header room valid = subst HasChecksum (sym (written c)) (valid-hop_limit (packet_bytes_mut c.args.self.now) c.args.value (subst AreBytes c.as_bytes.ensures c.bytes_fit.ensures) (search rules) header room valid)

pub returns-clause-reads : goal.returns-clause-reads
returns-clause-reads c v verified r =
    reads-summed (with_field (packet_bytes_mut c.args.self.now) 64 8 c.args.value) _ _ false verified (record v { hop_limit = c.args.value }) (written c)
    (reads-hop_limit (packet_bytes_mut c.args.self.now) c.args.value verified false v (search rules) r (λ no. cc)) (λ on. returns-clause-valid c r.lengths.header (omega (arith, r.lengths.within, r.lengths.whole)) (r.checksum on))
