use Rattle.std.proofs.Common.{arith, rules}
use Rattle.c_write.proofs.Ipv4Words.{ipv4-words}
use Rattle.c_write.proofs.ip.ipv4_words.Goals as goal

pub returns-clause-value : goal.returns-clause-value
returns-clause-value c =
    let h = c.args.header.now in
    let v = c.args.value in
    ipv4-words h v _ _ _ _ _ c.requires.dscp c.requires.ecn c.requires.ident (search rules) (omega (arith, c.requires.payload_len)) (search rules) (search rules)
    (search rules) (search rules) (search rules) c.to_bits.ensures.value c.to_bits.ensures.octets c.to_bits-2.ensures.value c.to_bits-2.ensures.octets
