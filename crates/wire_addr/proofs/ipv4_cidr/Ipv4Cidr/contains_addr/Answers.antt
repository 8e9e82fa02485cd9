use Rattle.wire_addr.proofs.Blocks.{member_test}
use Rattle.wire_addr.proofs.ipv4_cidr.Ipv4Cidr.contains_addr.Goals as goal

pub returns : goal.returns
returns c =
    rw (← c.self.view_is)
    (member_test 4 c.self.inside.prefix_len _ _ _ c.self.inside.address c.args.addr.now c.self.invariant.0 c.to_bits-2.ensures.octets
    c.self.invariant.1 c.to_bits.ensures.value c.to_bits-2.ensures.value c.mask_32-mask.ensures)
