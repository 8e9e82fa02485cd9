use Rattle.std.proofs.Common.{subst, ◌∙◌, arith}
use Rattle.net_base.proofs.Rewritten.{with_field_twice}
use Rattle.net_base.proofs.Spelled.{AreBytes}
use Rattle.wire_tcp.proofs.Sums.{verifies}
use Rattle.wire_tcp.specs.Tcp.{packet_bytes_mut}
use Rattle.wire_tcp.proofs.laws.fill_checksum_writes_one_field_tcp.Goals as goal
use Rattle.std.proofs.lemmas.Grind.{common_steps}
use Rattle.std.proofs.lemmas.Bool.Decides.{nat_tests}

pub returns-clause-fields : goal.returns-clause-fields
returns-clause-fields c =
    let are : AreBytes (packet_bytes_mut c.args.packet.now) = subst AreBytes c.as_bytes.ensures c.bytes_fit.ensures in
    c.fill_checksum.ensures.holds ∙ with_field_twice (packet_bytes_mut c.args.packet.now) 128 16 _ 0 are (omega arith) (omega (arith, c.requires.header))

pub returns-clause-valid : goal.returns-clause-valid
returns-clause-valid c = grind (arith, common_steps, nat_tests, verifies)
