use Rattle.app_fragment.proofs.Cuts.{call-writes, piece_covers, piece_is_part, piece_last}
use Rattle.std.proofs.lemmas.Option.{IfSome_then}
use Rattle.app_fragment.specs.Ipv4Fragments.{fragment_of}
use Rattle.app_fragment.proofs.laws.fragments_of_a_fragment.Goals as goal

pub returns-clause-covers : goal.returns-clause-covers
returns-clause-covers c =
    let bytes = c.args.packet.now in
    let new = c.fragment_ipv4.new.out in
    let e = c.fragment_ipv4.ensures in
    IfSome_then c.fragment_ipv4.result
    (call-writes c.fragment_ipv4.result c.args.ident bytes c.args.out.now new c.args.at c.args.mtu c.bytes_fit.ensures (λ some. let may = e.accepted.0 some in (may.0, may.1)) e.next e.bytes)
    (λ w is p. piece_covers bytes c.args.at w.next (fragment_of new) is.order is.piece p)

pub returns-clause-part : goal.returns-clause-part
returns-clause-part c =
    let bytes = c.args.packet.now in
    let new = c.fragment_ipv4.new.out in
    let e = c.fragment_ipv4.ensures in
    IfSome_then c.fragment_ipv4.result
    (call-writes c.fragment_ipv4.result c.args.ident bytes c.args.out.now new c.args.at c.args.mtu c.bytes_fit.ensures (λ some. let may = e.accepted.0 some in (may.0, may.1)) e.next e.bytes)
    (λ w is whole part. piece_is_part bytes whole c.args.at c.args.mtu w.next (fragment_of new) is.lengths is.multiple is.order is.within is.is is.piece part)

pub returns-clause-last : goal.returns-clause-last
returns-clause-last c =
    let bytes = c.args.packet.now in
    let new = c.fragment_ipv4.new.out in
    let e = c.fragment_ipv4.ensures in
    IfSome_then c.fragment_ipv4.result
    (call-writes c.fragment_ipv4.result c.args.ident bytes c.args.out.now new c.args.at c.args.mtu c.bytes_fit.ensures (λ some. let may = e.accepted.0 some in (may.0, may.1)) e.next e.bytes)
    (λ w is. piece_last bytes c.args.at w.next (fragment_of new) is.piece)
