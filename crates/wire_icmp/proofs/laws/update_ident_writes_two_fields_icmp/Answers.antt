use Rattle.std.proofs.Common.{subst, sym, arith, rules}
use Rattle.net_base.proofs.Spelled.{AreBytes}
use Rattle.wire_icmp.proofs.IcmpSums.{valid_word}
use Rattle.wire_icmp.specs.Icmp.{Verifies, packet_bytes_mut}
use Rattle.wire_icmp.proofs.laws.update_ident_writes_two_fields_icmp.Goals as goal

pub returns-clause-valid : goal.returns-clause-valid
returns-clause-valid c src dst s d valid =
    let are : AreBytes (packet_bytes_mut c.args.packet.now) = subst AreBytes c.as_bytes.ensures c.bytes_fit.ensures in
    subst (Verifies src dst) (sym c.update_echo_ident.ensures.holds)
    (valid_word src dst (packet_bytes_mut c.args.packet.now) 2 c.args.ident are (record { src_bytes = s; dst_bytes = d }) (search rules) (omega arith) (omega (arith, c.requires)) valid)
