use Rattle.std.proofs.Common.{◌≡◌, ◌↔◌, IsTrue, false, rules, true}
use Rattle.net_base.specs.Checksum.{verifies}
use Rattle.wire_ipv4.proofs.Ipv4Changed.{reads-verified}
use Rattle.wire_ipv4.specs.Ipv4.{HasChecksum, packet_bytes}
use Rattle.ip_wire.proofs.HeaderFaults.{bad-header, wrong-checksum}
use Rattle.ip_wire.proofs.frame.header.parse_ipv4.Goals as goal

pub returns-in_default-clause-fault : goal.returns-in_default-clause-fault
returns-in_default-clause-fault c =
    let view : packet_bytes c.new_unchecked-packet.result ≡ c.args.bytes.now = search rules in
    let verified : verifies c.ignored.result.ipv4 ≡ false = search rules in
    bad-header c.args.bytes.now c.parse.result c.in_default.field-0 (rw (verified, view) at c.parse.ensures.value) (search rules)

pub returns-then-not-verify_checksum-clause-fault : goal.returns-then-not-verify_checksum-clause-fault
returns-then-not-verify_checksum-clause-fault c =
    let view : packet_bytes c.new_unchecked-packet.result ≡ c.args.bytes.now = search rules in
    let verified : verifies c.ignored.result.ipv4 ≡ false = search rules in
    let sums : IsTrue c.verify_checksum.result ↔ HasChecksum c.args.bytes.now = rw view at c.verify_checksum.ensures in
    wrong-checksum c.args.bytes.now c.parse.result c.in-Ok.header c.verify_checksum.result (rw (verified, view) at c.parse.ensures.value) c.in-Ok.is sums (search rules)

pub returns-clause-reads : goal.returns-clause-reads
returns-clause-reads c =
    let view : packet_bytes c.new_unchecked-packet.result ≡ c.args.bytes.now = search rules in
    let verified : verifies c.ignored.result.ipv4 ≡ false = search rules in
    let reads = rw (verified, view) at c.parse.ensures.reads in
    let sums : IsTrue c.verify_checksum.result ↔ HasChecksum c.args.bytes.now = rw view at c.verify_checksum.ensures in
    reads-verified c.args.bytes.now false true c.in-Ok.header ((reads c.in-Ok.header).0 c.in-Ok.is) (λ _. sums.0 (search rules))
