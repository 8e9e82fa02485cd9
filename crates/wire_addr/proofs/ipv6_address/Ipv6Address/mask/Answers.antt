use Rattle.wire_addr.proofs.Blocks.{IsMasked_bytes}
use Rattle.wire_addr.proofs.ipv6_address.Ipv6Address.mask.Goals as goal

pub returns : goal.returns
returns c =
    rw c.to_be_bytes.ensures
    (IsMasked_bytes 16 c.args.mask _ _ c.args.self.now c.to_bits.ensures.octets c.requires c.to_bits.ensures.value c.mask_128.ensures)
