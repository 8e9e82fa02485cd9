use Rattle.std.proofs.Common.{◌∙◌, sym}
use Rattle.std.proofs.lemmas.Option.{same_Some}
use Rattle.wire_icmp.proofs.NdiscComputed.{ndisc_of_Reads}
use Rattle.wire_icmp.proofs.laws.ndisc.reads_once_ndisc.Goals as goal

pub returns : goal.returns
returns c =
    let one = (ndisc_of_Reads c.args.src_addr c.args.dst_addr c.args.hop_limit c.args.verified c.args.bytes.now c.args.value).1 c.requires.value in
    let two = (ndisc_of_Reads c.args.src_addr c.args.dst_addr c.args.hop_limit c.args.verified c.args.bytes.now c.args.other).1 c.requires.other in
    same_Some c.args.value c.args.other (sym one ∙ two)
