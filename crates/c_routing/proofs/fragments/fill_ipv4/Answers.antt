use Rattle.std.proofs.Common.{◌++◌, ap, arith, drop, is_some, ◌∙◌}
use Rattle.app_fragment.specs.Ipv4Fragments.{fragment_bytes, fragment_len}
use Rattle.c_routing.proofs.Fragmenting.{filled-ipv4, no-room-ipv4}
use Rattle.c_routing.proofs.fragments.fill_ipv4.Goals as goal

pub returns-in-Some : goal.returns-in-Some
returns-in-Some c =
    let bytes = c.args.packet.now in
    let w = c.in-Some.written in
    let e = c.in-Some.ensures in
    let may = c.fragment_ipv4.ensures.accepted.0 (ap is_some c.in-Some.is) in
    let size = e.len ∙ ap (fragment_len bytes c.args.at) e.next in
    filled-ipv4 c.args.ident c.args.mtu c.args.at w.len w.next bytes c.args.out.now c.fragment_ipv4.new.out c.bytes_fit.ensures c.requires.may c.requires.begin
    e.next e.len (omega (arith, size, may.2)) (e.bytes ∙ ap (λ i. fragment_bytes i bytes c.args.at w.next ++ drop w.len c.args.out.now) c.short.ensures)

pub returns-in-None : goal.returns-in-None
returns-in-None c =
    no-room-ipv4 c.fragment_ipv4.result c.short.result c.args.ident c.args.mtu c.args.at c.args.packet.now c.args.out.now c.fragment_ipv4.new.out c.bytes_fit.ensures c.short.ensures
    c.requires.may c.requires.begin c.fragment_ipv4.ensures.accepted c.in-None.is (c.fragment_ipv4.ensures.unchanged c.in-None.is)
