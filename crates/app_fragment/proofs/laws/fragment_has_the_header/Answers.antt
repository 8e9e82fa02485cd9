use Rattle.std.proofs.Common.{ap, append_assoc, slice_range, ◌∙◌}
use Rattle.std.proofs.lemmas.Option.{IfSome_then}
use Rattle.ip_wire.specs.Field.{bit}
use Rattle.ip_wire.specs.Ipv4.{header_len}
use Rattle.app_fragment.proofs.Bits.{bit-fragment, options-fragment}
use Rattle.app_fragment.proofs.Cuts.{call-writes}
use Rattle.app_fragment.specs.Ipv4Fragments.{fragment_header}
use Rattle.app_fragment.proofs.laws.fragment_has_the_header.Goals as goal

pub returns-clause-bits : goal.returns-clause-bits
returns-clause-bits c =
    let bytes = c.args.packet.now in
    let e = c.fragment_ipv4.ensures in
    IfSome_then c.fragment_ipv4.result
    (call-writes c.fragment_ipv4.result c.args.ident bytes c.args.out.now c.fragment_ipv4.new.out c.args.at c.args.mtu c.bytes_fit.ensures (λ some. let may = e.accepted.0 some in (may.0, may.1)) e.next e.bytes)
    (λ w is i low common.
    ap (λ l. bit l i) (is.same ∙ append_assoc (fragment_header c.args.ident bytes c.args.at w.next) _ is.rest)
    ∙ bit-fragment c.args.ident bytes _ c.args.at w.next i c.bytes_fit.ensures is.lengths low common)

pub returns-clause-options : goal.returns-clause-options
returns-clause-options c =
    let bytes = c.args.packet.now in
    let e = c.fragment_ipv4.ensures in
    IfSome_then c.fragment_ipv4.result
    (call-writes c.fragment_ipv4.result c.args.ident bytes c.args.out.now c.fragment_ipv4.new.out c.args.at c.args.mtu c.bytes_fit.ensures (λ some. let may = e.accepted.0 some in (may.0, may.1)) e.next e.bytes)
    (λ w is.
    ap (λ l. slice_range l 20 (header_len bytes)) (is.same ∙ append_assoc (fragment_header c.args.ident bytes c.args.at w.next) _ is.rest)
    ∙ options-fragment c.args.ident bytes _ c.args.at w.next c.bytes_fit.ensures is.lengths)
