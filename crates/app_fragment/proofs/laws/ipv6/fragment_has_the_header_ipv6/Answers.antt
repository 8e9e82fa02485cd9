use Rattle.std.proofs.lemmas.Option.{IfSome_then}
use Rattle.app_fragment.proofs.Ipv6Cuts.{bit-written, call-writes, next-header, written-headed}
use Rattle.app_fragment.proofs.laws.ipv6.fragment_has_the_header_ipv6.Goals as goal

pub returns-clause-bits : goal.returns-clause-bits
returns-clause-bits c =
    let bytes = c.args.packet.now in
    let e = c.fragment_ipv6.ensures in
    IfSome_then c.fragment_ipv6.result
    (call-writes c.fragment_ipv6.result c.args.ident bytes c.args.out.now c.fragment_ipv6.new.out c.args.at c.args.mtu c.requires (λ some. let may = e.accepted.0 some in (may.0, may.1)) e.next e.bytes)
    (λ w is i low common. bit-written c.args.ident bytes c.fragment_ipv6.new.out c.args.at c.args.mtu w.next i c.bytes_fit.ensures is low common)

pub returns-clause-next : goal.returns-clause-next
returns-clause-next c =
    let bytes = c.args.packet.now in
    let e = c.fragment_ipv6.ensures in
    IfSome_then c.fragment_ipv6.result
    (call-writes c.fragment_ipv6.result c.args.ident bytes c.args.out.now c.fragment_ipv6.new.out c.args.at c.args.mtu c.requires (λ some. let may = e.accepted.0 some in (may.0, may.1)) e.next e.bytes)
    (λ w is. (
      next-header c.args.ident bytes c.fragment_ipv6.new.out c.args.at c.args.mtu w.next c.bytes_fit.ensures is,
      (written-headed c.args.ident bytes c.fragment_ipv6.new.out c.args.at c.args.mtu w.next c.bytes_fit.ensures c.ranges.ident.fits is).own,
    ))

pub returns-clause-reserved : goal.returns-clause-reserved
returns-clause-reserved c =
    let bytes = c.args.packet.now in
    let e = c.fragment_ipv6.ensures in
    IfSome_then c.fragment_ipv6.result
    (call-writes c.fragment_ipv6.result c.args.ident bytes c.args.out.now c.fragment_ipv6.new.out c.args.at c.args.mtu c.requires (λ some. let may = e.accepted.0 some in (may.0, may.1)) e.next e.bytes)
    (λ w is. (written-headed c.args.ident bytes c.fragment_ipv6.new.out c.args.at c.args.mtu w.next c.bytes_fit.ensures c.ranges.ident.fits is).reserved)

pub returns-clause-ident : goal.returns-clause-ident
returns-clause-ident c =
    let bytes = c.args.packet.now in
    let e = c.fragment_ipv6.ensures in
    IfSome_then c.fragment_ipv6.result
    (call-writes c.fragment_ipv6.result c.args.ident bytes c.args.out.now c.fragment_ipv6.new.out c.args.at c.args.mtu c.requires (λ some. let may = e.accepted.0 some in (may.0, may.1)) e.next e.bytes)
    (λ w is. (written-headed c.args.ident bytes c.fragment_ipv6.new.out c.args.at c.args.mtu w.next c.bytes_fit.ensures c.ranges.ident.fits is).ident_of)
