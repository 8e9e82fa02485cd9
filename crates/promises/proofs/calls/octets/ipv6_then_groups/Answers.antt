use Rattle.std.proofs.Common.{◌∙◌, ap}
use Rattle.ip_wire.specs.Bytes.{address_bytes}
use Rattle.promises.proofs.Octets.{bytes_back}
use Rattle.promises.proofs.calls.octets.ipv6_then_groups.Goals as goal

pub returns : goal.returns
returns c = c.from.ensures ∙ ap address_bytes c.segments.ensures ∙ bytes_back 8 c.args.address.now c.to_bits-bits.ensures.octets.0 c.to_bits-bits.ensures.octets.1
