use Rattle.app_fragment.proofs.Cuts.{call-writes, piece_cuts}
use Rattle.std.proofs.lemmas.Option.{IfSome_then}
use Rattle.app_fragment.specs.Ipv4Fragments.{fragment_of}
use Rattle.app_fragment.proofs.laws.fragments_cut_the_payload.Goals as goal

pub returns : goal.returns
returns c =
    let bytes = c.args.packet.now in
    let new = c.fragment_ipv4.new.out in
    let e = c.fragment_ipv4.ensures in
    IfSome_then c.fragment_ipv4.result
    (call-writes c.fragment_ipv4.result c.args.ident bytes c.args.out.now new c.args.at c.args.mtu c.bytes_fit.ensures (λ some. let may = e.accepted.0 some in (may.0, may.1)) e.next e.bytes)
    (λ w is fs rest. piece_cuts bytes c.args.at c.args.mtu w.next (fragment_of new) fs is.lengths c.requires is.multiple is.order is.within is.is is.piece rest)
