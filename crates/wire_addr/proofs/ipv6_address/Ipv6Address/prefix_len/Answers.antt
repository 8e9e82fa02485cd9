use Rattle.wire_addr.proofs.Blocks.{prefix_test}
use Rattle.wire_addr.proofs.ipv6_address.Ipv6Address.prefix_len.Goals as goal

pub returns-clause-value : goal.returns-clause-value
returns-clause-value c =
    λ n. rw c.then_some.ensures
    (prefix_test 16 c.leading_ones-ones.result _ _ c.args.self.now c.to_bits-bits.ensures.octets c.to_bits-bits.ensures.value
    c.leading_ones-ones.ensures c.mask_128.ensures n)
