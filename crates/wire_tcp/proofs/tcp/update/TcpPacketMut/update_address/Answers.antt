use Rattle.std.proofs.Common.{◌≡◌, rules, arith}
use Rattle.wire_checksum.specs.WordSum.{sum_of_bytes}
use Rattle.wire_addr.specs.IpAddress.{address_bytes}
use Rattle.wire_tcp.specs.Tcp.{packet_bytes_mut, with_updated_checksum}
use Rattle.wire_tcp.proofs.Sums.{valid-dst_addr, valid-src_addr}
use Rattle.wire_tcp.proofs.TcpChanged.{reads-summed}
use Rattle.wire_tcp.proofs.tcp.update.TcpPacketMut.update_address.Goals as goal
use Rattle.std.proofs.lemmas.Grind.{common_steps}
use Rattle.std.proofs.lemmas.Bool.Decides.{nat_tests}

written : (c : goal.After-update_checksum)
    → packet_bytes_mut c.update_checksum.new.self ≡ with_updated_checksum (packet_bytes_mut c.args.self.now) (sum_of_bytes (address_bytes c.args.old.now)) (sum_of_bytes (address_bytes c.args.new.now))
written c = search rules

pub returns-clause-valid_src : goal.returns-clause-valid_src
returns-clause-valid_src c dst d valid = grind (arith, common_steps, nat_tests, written, valid-src_addr)

pub returns-clause-valid_dst : goal.returns-clause-valid_dst
returns-clause-valid_dst c src s valid = grind (arith, common_steps, nat_tests, written, valid-dst_addr)

pub returns-clause-reads_src : goal.returns-clause-reads_src
returns-clause-reads_src c dst verified v payload d r =
    reads-summed (packet_bytes_mut c.args.self.now) _ _ c.args.old.now dst c.args.new.now dst verified verified v payload (written c) r (λ on. returns-clause-valid_src c dst d (r.checksum on))

pub returns-clause-reads_dst : goal.returns-clause-reads_dst
returns-clause-reads_dst c src verified v payload s r =
    reads-summed (packet_bytes_mut c.args.self.now) _ _ src c.args.old.now src c.args.new.now verified verified v payload (written c) r (λ on. returns-clause-valid_dst c src s (r.checksum on))
