use Rattle.std.proofs.Common.{◌≡◌, ◌++◌, ◌∙◌, [], ap, append-nil, arith, drop, subst}
use Rattle.std.proofs.lemmas.List.{drop_all}
use Rattle.ip_wire.specs.Ipv6.{Becomes, bytes_of, packet_bytes_mut}
use Rattle.promises.proofs.views.fill_ipv6.Goals as goal

pub returns : goal.returns
returns c =
    let old = c.args.packet.now in
    let bytes = bytes_of c.args.value.now in
    let none : drop 40 (packet_bytes_mut old) ≡ [] = drop_all 40 (packet_bytes_mut old) (omega (arith, c.requires.room)) in
    subst (λ b. Becomes old c.emit.new.packet b) (ap (λ rest. bytes ++ rest) none ∙ append-nil bytes) c.emit.ensures
