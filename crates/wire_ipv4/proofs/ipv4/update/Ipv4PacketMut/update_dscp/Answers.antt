use Rattle.std.proofs.Common.{◌≡◌, ◌*◌, ◌%◌, inl, false, subst, sym, arith, rules}
use Rattle.net_base.proofs.Spelled.{AreBytes}
use Rattle.net_base.specs.Field.{field, with_field}
use Rattle.wire_ipv4.specs.Ipv4.{HasChecksum, packet_bytes_mut, with_updated_checksum}
use Rattle.wire_ipv4.proofs.Ipv4Changed.{reads-no_value, reads-summed}
use Rattle.wire_ipv4.proofs.Ipv4Updated.{valid-dscp}
use Rattle.wire_ipv4.proofs.ipv4.update.Ipv4PacketMut.update_dscp.Goals as goal

written : (c : goal.After-update_checksum)
    → packet_bytes_mut c.update_checksum.new.self ≡ with_updated_checksum (with_field (packet_bytes_mut c.args.self.now) 8 6 c.args.value) (4 * field (packet_bytes_mut c.args.self.now) 8 6) (4 * (c.args.value % 64))
written c = search rules

pub returns-clause-valid : goal.returns-clause-valid
returns-clause-valid c header room valid = subst HasChecksum (sym (written c)) (valid-dscp (packet_bytes_mut c.args.self.now) c.args.value (subst AreBytes c.as_bytes.ensures c.bytes_fit.ensures) header room valid)

pub returns-clause-reads : goal.returns-clause-reads
returns-clause-reads c v verified r =
    reads-summed (with_field (packet_bytes_mut c.args.self.now) 8 6 c.args.value) _ _ false verified v (written c)
    (reads-no_value (packet_bytes_mut c.args.self.now) 8 6 c.args.value verified v (subst AreBytes c.as_bytes.ensures c.bytes_fit.ensures) (omega arith) (inl (omega arith, omega arith)) r) (λ on. returns-clause-valid c r.lengths.header (omega (arith, r.lengths.within, r.lengths.whole)) (r.checksum on))
