use Rattle.std.proofs.Common.{◌∙◌, arith, bit_and, ap₂}
use Rattle.wire_addr.proofs.Blocks.{IsLeast_number, number_under_mask}
use Rattle.wire_addr.proofs.ipv4_cidr.Ipv4Cidr.network.Goals as goal

pub returns-clause-address : goal.returns-clause-address
returns-clause-address c =
    rw (← c.self.view_is, c.new.ensures)
    (IsLeast_number 4 c.self.inside.prefix_len _ c.self.inside.address c.from_bits.result c.self.invariant.0 c.from_bits.ensures.octets
    (omega (arith, c.self.invariant.1))
    (c.from_bits.ensures.value ∙ ap₂ bit_and c.to_bits.ensures.value c.mask_32.ensures
    ∙ number_under_mask 4 _ c.self.inside.address c.self.invariant.0 (omega arith)))
