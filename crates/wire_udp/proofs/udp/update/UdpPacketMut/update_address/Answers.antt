use Rattle.std.proofs.Common.{◌≡◌, subst, sym, refl, arith, rules}
use Rattle.wire_checksum.specs.WordSum.{sum_of_bytes}
use Rattle.wire_addr.specs.IpAddress.{address_bytes}
use Rattle.net_base.proofs.Spelled.{AreBytes}
use Rattle.wire_udp.specs.Udp.{HasChecksum, packet_bytes_mut, with_updated_checksum}
use Rattle.wire_udp.proofs.UdpUpdated.{reads-updated, valid-addresses}
use Rattle.wire_udp.proofs.udp.update.UdpPacketMut.update_address.Goals as goal

written : (c : goal.After-update_checksum)
    → packet_bytes_mut c.update_checksum.new.self ≡ with_updated_checksum (packet_bytes_mut c.args.self.now) (sum_of_bytes (address_bytes c.args.old.now)) (sum_of_bytes (address_bytes c.args.new.now))
written c = search rules

pub returns-clause-valid_src : goal.returns-clause-valid_src
returns-clause-valid_src c dst d lengths valid =
    subst (HasChecksum c.args.new.now dst) (sym (written c))
    (valid-addresses c.args.old.now dst c.args.new.now dst (packet_bytes_mut c.args.self.now) (address_bytes c.args.old.now) (address_bytes c.args.new.now)
    (subst AreBytes c.as_bytes.ensures c.bytes_fit.ensures) (search rules) d (search rules) d c.requires.family lengths (omega arith) valid)

pub returns-clause-valid_dst : goal.returns-clause-valid_dst
returns-clause-valid_dst c src s lengths valid =
    subst (HasChecksum src c.args.new.now) (sym (written c))
    (valid-addresses src c.args.old.now src c.args.new.now (packet_bytes_mut c.args.self.now) (address_bytes c.args.old.now) (address_bytes c.args.new.now)
    (subst AreBytes c.as_bytes.ensures c.bytes_fit.ensures) s (search rules) s (search rules) refl lengths (omega arith) valid)

pub returns-clause-reads_src : goal.returns-clause-reads_src
returns-clause-reads_src c dst verified v payload d r =
    reads-updated (packet_bytes_mut c.args.self.now) _ _ _ c.args.old.now dst c.args.new.now dst verified verified v payload (written c) r (λ on. returns-clause-valid_src c dst d r.lengths (r.checksum on))

pub returns-clause-reads_dst : goal.returns-clause-reads_dst
returns-clause-reads_dst c src verified v payload s r =
    reads-updated (packet_bytes_mut c.args.self.now) _ _ _ src c.args.old.now src c.args.new.now verified verified v payload (written c) r (λ on. returns-clause-valid_dst c src s r.lengths (r.checksum on))
