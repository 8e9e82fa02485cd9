use Rattle.std.proofs.Common.{rules}
use Rattle.wire_tcp.proofs.Sums.{word_changed}
use Rattle.wire_tcp.proofs.laws.word_changed.Goals as goal

pub returns : goal.returns
returns c =
    word_changed c.args.src_addr c.args.dst_addr c.args.bytes.now c.args.index c.args.word (search rules) (search rules) (λ i. (c.type_inv.bytes i).fits) c.requires.place (search rules) c.requires.changed c.requires.holds
