use Rattle.std.proofs.Common.{◌≡◌, slice_range, false, subst, sym, arith, rules}
use Rattle.wire_checksum.specs.WordSum.{sum_of_bytes}
use Rattle.net_base.proofs.Spelled.{AreBytes}
use Rattle.net_base.specs.Field.{with_range}
use Rattle.wire_ipv4.specs.Ipv4.{HasChecksum, packet_bytes_mut, with_updated_checksum}
use Rattle.wire_ipv4.proofs.Ipv4Changed.{reads-src_addr, reads-summed}
use Rattle.wire_ipv4.proofs.Ipv4Updated.{valid-src_addr}
use Rattle.wire_ipv4.proofs.ipv4.update.Ipv4PacketMut.update_src_addr.Goals as goal

written : (c : goal.After-update_checksum)
    → packet_bytes_mut c.update_checksum.new.self ≡ with_updated_checksum (with_range (packet_bytes_mut c.args.self.now) 12 16 c.args.value) (sum_of_bytes (slice_range (packet_bytes_mut c.args.self.now) 12 16)) (sum_of_bytes c.args.value)
written c = search rules

pub returns-clause-valid : goal.returns-clause-valid
returns-clause-valid c header room valid =
    subst HasChecksum (sym (written c)) (valid-src_addr (packet_bytes_mut c.args.self.now) c.args.value (subst AreBytes c.as_bytes.ensures c.bytes_fit.ensures) (search rules) (search rules) header room valid)

pub returns-clause-reads : goal.returns-clause-reads
returns-clause-reads c v verified r =
    reads-summed (with_range (packet_bytes_mut c.args.self.now) 12 16 c.args.value) _ _ false verified (record v { src_addr = c.args.value }) (written c)
    (reads-src_addr (packet_bytes_mut c.args.self.now) c.args.value verified false v (search rules) r (λ no. cc)) (λ on. returns-clause-valid c r.lengths.header (omega (arith, r.lengths.within, r.lengths.whole)) (r.checksum on))
