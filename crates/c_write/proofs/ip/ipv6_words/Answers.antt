use Rattle.std.proofs.Common.{rules}
use Rattle.c_write.proofs.Ipv6Words.{ipv6-words}
use Rattle.c_write.proofs.ip.ipv6_words.Goals as goal

pub returns : goal.returns
returns c =
    let h = c.args.header.now in
    let v = c.args.value in
    ipv6-words h v _ _ _ _ _ c.requires.dscp c.requires.ecn c.requires.flow_label c.requires.payload_len (search rules) (search rules) (search rules)
    (search rules) (search rules) (search rules) (search rules) (search rules) (search rules)
