use Rattle.std.proofs.Common.{◌∙◌, arith, subst, sym}
use Rattle.net_base.proofs.Spelled.{AreBytes}
use Rattle.wire_ipv4.specs.Ipv4.{HasChecksum, packet_bytes_mut}
use Rattle.wire_ipv4.proofs.Ipv4Numbers.{filled, shape-filled}
use Rattle.wire_ipv4.proofs.Ipv4Updated.{valid-filled}
use Rattle.wire_ipv4.proofs.laws.fill_checksum_writes_one_field_ipv4.Goals as goal
use Rattle.std.proofs.lemmas.Grind.{common_steps}
use Rattle.std.proofs.lemmas.Bool.Decides.{nat_tests}

pub verify_checksum-requires : goal.verify_checksum-requires
verify_checksum-requires c = grind (arith, common_steps, nat_tests, shape-filled)

pub returns : goal.returns
returns c =
    let bytes = packet_bytes_mut c.args.packet.now in
    let octets = subst AreBytes c.as_bytes.ensures c.bytes_fit.ensures in
    let valid = subst HasChecksum (sym c.fill_checksum.ensures.holds) (valid-filled (packet_bytes_mut c.args.packet.now) octets c.requires.field c.requires.header) in
    record { written = c.fill_checksum.ensures.holds ∙ filled bytes octets (omega (arith, c.requires.field, c.requires.header)); valid = valid; verified = c.verify_checksum.ensures.1 valid }
