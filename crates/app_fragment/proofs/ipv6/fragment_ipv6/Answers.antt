use Rattle.std.proofs.Common.{drop, refl, subst, sym}
use Rattle.app_fragment.proofs.Ipv6Headers.{IsValid, fragment-valid}
use Rattle.app_fragment.specs.Ipv6Fragments.{fragment_len}
use Rattle.app_fragment.proofs.ipv6.fragment_ipv6.Goals as goal

pub returns-clause-reads : goal.returns-clause-reads
returns-clause-reads c =
    let bytes = c.args.packet.now in
    let next = c.next_place-next.result in
    let may = c.if-not-may_be_fragmented.ensures.0 refl in
    let e = c.next_place-next.ensures in
    let f = subst (IsValid (fragment_len bytes c.args.mtu c.args.at next)) (sym c.write.ensures)
    (fragment-valid c.args.ident bytes (drop _ c.args.out.now) c.args.mtu c.args.at next c.bytes_fit.ensures may.lengths may.version e.order e.within e.fits e.whole) in
    (f.lengths, f.version, rw c.header_len.ensures f.total)
