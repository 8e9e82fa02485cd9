use Rattle.app_fragment.proofs.Ipv6Cuts.{call-copies}
use Rattle.app_fragment.proofs.laws.ipv6.packet_that_fits_is_copied_ipv6.Goals as goal

pub returns-clause-bytes : goal.returns-clause-bytes
returns-clause-bytes c =
    call-copies c.fragment_ipv6.result c.args.ident c.args.packet.now c.args.out.now c.fragment_ipv6.new.out c.args.mtu c.requires c.fragment_ipv6.ensures.bytes
