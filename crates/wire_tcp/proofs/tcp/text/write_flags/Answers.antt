use Rattle.std.proofs.Common.{arith, rules}
use Rattle.std.proofs.lemmas.Grind.{common_steps}
use Rattle.net_base.specs.Field.{field}
use Rattle.net_base.proofs.Readings.{flag_test}
use Rattle.wire_tcp.proofs.TcpTexts.{flags_text-values}
use Rattle.wire_tcp.proofs.tcp.text.write_flags.Goals as goal

pub returns : goal.returns
returns g c =
    let bytes = c.args.packet.now.buffer.now in
    let text = flags_text-values bytes c.syn.result c.fin.result c.rst.result c.psh.result c.ece.result c.cwr.result c.ns.result
    (flag_test c.syn.result (field bytes 110 1) c.syn.ensures) (flag_test c.fin.result (field bytes 111 1) c.fin.ensures)
    (flag_test c.rst.result (field bytes 109 1) c.rst.ensures) (flag_test c.psh.result (field bytes 108 1) c.psh.ensures)
    (flag_test c.ece.result (field bytes 105 1) c.ece.ensures) (flag_test c.cwr.result (field bytes 104 1) c.cwr.ensures)
    (flag_test c.ns.result (field bytes 103 1) c.ns.ensures) in
    rw text (first_of (search rules, grind (arith, common_steps)))
