use Rattle.std.proofs.Common.{◌∙◌, arith}
use Rattle.wire_addr.proofs.Blocks.{IsNetmask_number}
use Rattle.wire_addr.proofs.ipv4_cidr.Ipv4Cidr.netmask.Goals as goal

pub returns : goal.returns
returns c =
    rw (← c.self.view_is)
    (IsNetmask_number 4 c.self.inside.prefix_len _ c.from_bits.result c.from_bits.ensures.octets (omega (arith, c.self.invariant.1))
    (c.from_bits.ensures.value ∙ c.mask_32.ensures))
