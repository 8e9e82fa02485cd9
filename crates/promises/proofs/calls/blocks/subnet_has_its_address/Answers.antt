use Rattle.std.proofs.Common.{sym, subst}
use Rattle.ip_wire.specs.IpCidr.{IsIn}
use Rattle.promises.proofs.Blocks.{has_its_address}
use Rattle.promises.proofs.calls.blocks.subnet_has_its_address.Goals as goal

pub returns : goal.returns
returns c = λ within.
    let subnet = c.args.subnet.now in
    c.contains_addr.ensures.1 (c.contains_subnet.ensures.0 within c.address.result c.address.ensures.octets (subst (IsIn subnet) (sym c.address.ensures.value) (has_its_address subnet)))
