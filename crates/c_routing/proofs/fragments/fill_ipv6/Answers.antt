use Rattle.c_routing.proofs.Fragmenting.{no-room-ipv6}
use Rattle.c_routing.proofs.fragments.fill_ipv6.Goals as goal

pub returns-in-None : goal.returns-in-None
returns-in-None c =
    no-room-ipv6 c.fragment_ipv6.result c.args.ident c.args.mtu c.args.at c.args.packet.now c.args.out.now c.fragment_ipv6.new.out c.bytes_fit.ensures
    c.requires.may c.requires.begin c.fragment_ipv6.ensures.accepted c.in-None.is (c.fragment_ipv6.ensures.unchanged c.in-None.is)
