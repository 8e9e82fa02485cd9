use Rattle.std.proofs.Common.{rules, ◌∙◌}
use Rattle.wire_addr.proofs.GroupBytes.{written_groups}
use Rattle.wire_addr.proofs.ipv6_address.Ipv6AddressFromArrayU168.from.Goals as goal

pub returns : goal.returns
returns c = c.from_octets.ensures ∙ c.write_u16_into.ensures ∙ written_groups c.args.groups (search rules)
