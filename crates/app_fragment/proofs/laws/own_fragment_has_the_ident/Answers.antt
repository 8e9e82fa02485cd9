use Rattle.std.proofs.Common.{Some, ap, append_assoc, arith, ◌∙◌}
use Rattle.std.proofs.lemmas.Option.{IfSome_then}
use Rattle.ip_wire.specs.Ipv4.{dont_frag_of, ident_of}
use Rattle.app_fragment.proofs.Bits.{ident-fragment}
use Rattle.app_fragment.proofs.Cuts.{call-writes}
use Rattle.app_fragment.specs.Ipv4Fragments.{fragment_header}
use Rattle.app_fragment.proofs.laws.own_fragment_has_the_ident.Goals as goal

pub returns : goal.returns
returns c =
    let bytes = c.args.packet.now in
    let e = c.fragment_ipv4.ensures in
    IfSome_then c.fragment_ipv4.result
    (call-writes c.fragment_ipv4.result (Some c.args.ident) bytes c.args.out.now c.fragment_ipv4.new.out c.args.at c.args.mtu c.bytes_fit.ensures (λ some. let may = e.accepted.0 some in (may.0, may.1)) e.next e.bytes)
    (λ w is.
    let joined = is.same ∙ append_assoc (fragment_header (Some c.args.ident) bytes c.args.at w.next) _ is.rest in
    let found = ident-fragment c.args.ident bytes _ c.args.at w.next c.bytes_fit.ensures is.lengths (omega arith) in
    (ap ident_of joined ∙ found.0, ap dont_frag_of joined ∙ found.1))
