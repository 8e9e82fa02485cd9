use Rattle.std.proofs.lemmas.Option.{IfSome_then}
use Rattle.app_fragment.proofs.Ipv6Cuts.{call-writes, is-ipv6, written-cuts}
use Rattle.app_fragment.proofs.laws.ipv6.fragments_cut_the_payload_ipv6.Goals as goal

pub returns-clause-valid : goal.returns-clause-valid
returns-clause-valid c =
    let bytes = c.args.packet.now in
    let e = c.fragment_ipv6.ensures in
    IfSome_then c.fragment_ipv6.result
    (call-writes c.fragment_ipv6.result c.args.ident bytes c.args.out.now c.fragment_ipv6.new.out c.args.at c.args.mtu c.requires (λ some. let may = e.accepted.0 some in (may.0, may.1)) e.next e.bytes)
    (λ w is. is-ipv6 c.args.ident bytes c.fragment_ipv6.new.out c.args.at c.args.mtu w.next c.bytes_fit.ensures is)

pub returns-clause-cut : goal.returns-clause-cut
returns-clause-cut c =
    let bytes = c.args.packet.now in
    let e = c.fragment_ipv6.ensures in
    IfSome_then c.fragment_ipv6.result
    (call-writes c.fragment_ipv6.result c.args.ident bytes c.args.out.now c.fragment_ipv6.new.out c.args.at c.args.mtu c.requires (λ some. let may = e.accepted.0 some in (may.0, may.1)) e.next e.bytes)
    (λ w is fs rest. written-cuts c.args.ident bytes c.fragment_ipv6.new.out c.args.at c.args.mtu w.next fs c.bytes_fit.ensures c.ranges.ident.fits is rest)
