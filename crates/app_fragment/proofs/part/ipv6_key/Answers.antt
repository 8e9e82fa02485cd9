use Rattle.std.proofs.Common.{◌≡◌, ◌∷◌, [], rules, ◌∙◌, ap, slice_range}
use Rattle.ip_wire.specs.Ipv6 as ipv6
use Rattle.ip_wire.specs.Ipv6Fragment.{header_bytes, ident_of}
use Rattle.app_fragment.proofs.Versions.{has_place}
use Rattle.app_fragment.proofs.part.ipv6_key.Goals as goal

pub returns : goal.returns
returns c =
    let view : header_bytes c.new_unchecked-fragment.result ≡ slice_range c.args.packet.now 42 48 = search rules in
    let ident = c.ident.ensures ∙ ap ident_of view ∙ (has_place c.args.packet.now c.requires).ident in
    let src : c.octets.result ≡ ipv6.src_addr_of c.args.packet.now = search rules in
    let dst : c.octets-2.result ≡ ipv6.dst_addr_of c.args.packet.now = search rules in
    λ i. record { ident = ident i; version = 6; protocol = 0; unused = 0 ∷ 0 ∷ []; src = src i; dst = dst i }
