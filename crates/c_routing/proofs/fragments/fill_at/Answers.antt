use Rattle.std.proofs.Common.{◌≡◌, drop, rules, subst, sym}
use Rattle.c_routing.proofs.Fragmenting.{filled, no-room}
use Rattle.c_routing.specs.Fragmented.{MayBeWritten, fragment_at}
use Rattle.c_routing.proofs.fragments.fill_at.Goals as goal

pub fill_packet-requires : goal.fill_packet-requires
fill_packet-requires c =
    let back : c.split_at.result.1.now ≡ drop 14 c.args.frame.now = search rules in
    subst (λ b. MayBeWritten c.args.ident c.args.mtu b c.args.at) (sym back) c.requires.may

pub returns-in-Some : goal.returns-in-Some
returns-in-Some c =
    let back : c.split_at.result.1.now ≡ drop 14 c.args.frame.now = search rules in
    let rest : c.split_at_mut-front.result.1.now ≡ drop 14 c.args.out.now = search rules in
    filled c.args.frame.now (fragment_at c.args.ident c.args.mtu (drop 14 c.args.frame.now) c.args.at) c.args.out.now c.copy_from_slice.new.self c.fill_packet.new.out c.in-Some.len
    c.requires.header (search rules) (search rules) (rw (back, rest) at c.in-Some.ensures)

pub returns-in-None : goal.returns-in-None
returns-in-None c =
    let back : c.split_at.result.1.now ≡ drop 14 c.args.frame.now = search rules in
    let rest : c.split_at_mut-front.result.1.now ≡ drop 14 c.args.out.now = search rules in
    no-room c.args.frame.now (fragment_at c.args.ident c.args.mtu (drop 14 c.args.frame.now) c.args.at) c.args.out.now _ c.fill_packet.new.out
    c.requires.header (search rules) (rw (back, rest) at c.in-None.ensures) (search rules)
