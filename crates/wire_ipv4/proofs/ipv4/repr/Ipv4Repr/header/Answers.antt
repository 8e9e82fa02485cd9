use Rattle.std.proofs.Common.{◌≡◌, length, refl, rules}
use Rattle.net_base.proofs.Cells.{cells-all}
use Rattle.wire_ipv4.proofs.ipv4.repr.Ipv4Repr.header.Goals as goal

pub returns : goal.returns
returns c =
    let v = c.args.self in
    let src : length v.src_addr ≡ 4 = search rules in
    let dst : length v.dst_addr ≡ 4 = search rules in
    rw (
      c.write_u16-2.ensures,
      c.write_u16.ensures,
      c.from-protocol.ensures,
      c.octets.ensures,
      c.octets-2.ensures,
      cells-all 4 v.src_addr src,
      cells-all 4 v.dst_addr dst,
    ) refl
