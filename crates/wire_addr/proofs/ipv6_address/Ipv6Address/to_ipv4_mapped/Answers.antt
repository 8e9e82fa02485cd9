use Rattle.std.proofs.Common.{drop, ap, rules}
use Rattle.std.proofs.NetLemmas.Arrays.{sixteen_items}
use Rattle.wire_addr.proofs.Ipv6Texts.{mapped_then_some}
use Rattle.wire_addr.proofs.Mapped.{Decides_mapped}
use Rattle.wire_addr.proofs.ipv6_address.Ipv6Address.to_ipv4_mapped.Goals as goal

pub returns : goal.returns
returns c =
    let octets = c.self.inside.0 in
    rw (c.then_some.ensures, ← c.self.view_is, c.new.ensures)
    (mapped_then_some octets _ _ (Decides_mapped octets c.to_bits.result c.to_bits.ensures.octets c.to_bits.ensures.value)
    (ap (drop 12) (sixteen_items octets (search rules))))
