use Rattle.std.proofs.Common.{sym, ap, ◌≡◌, ◌∙◌, length, Some, List, ℕ, get_or, [], ◌∷◌}
use Rattle.ip_wire.specs.Class.{link_address}
use Rattle.promises.proofs.Blocks.{interface, interface_ends, interface_in_block}
use Rattle.promises.proofs.calls.interfaces.parts_of_interface.Goals as goal

pub returns-in-Some-clause-prefix : goal.returns-in-Some-clause-prefix
returns-in-Some-clause-prefix c =
    let a = c.in-Some.address in
    let prefix = c.args.link_prefix.now in
    let made : Some a ≡ link_address prefix c.args.hardware = sym c.in-Some.is ∙ c.from_link_prefix.ensures in
    let whole : length prefix.address ≡ 16 = ap length (sym c.address.ensures.value) ∙ c.to_bits-bits.ensures.octets.0 in
    let own : length a ≡ 16 = c.to_bits-own_bits.ensures.octets.0 in
    c.contains_addr-is_in.ensures.1 (interface_in_block prefix c.args.hardware a whole (interface prefix c.args.hardware a own whole made))

pub returns-in-Some-clause-identifier : goal.returns-in-Some-clause-identifier
returns-in-Some-clause-identifier c =
    let a = c.in-Some.address in
    let prefix = c.args.link_prefix.now in
    let made : Some a ≡ link_address prefix c.args.hardware = sym c.in-Some.is ∙ c.from_link_prefix.ensures in
    let whole : length prefix.address ≡ 16 = ap length (sym c.address.ensures.value) ∙ c.to_bits-bits.ensures.octets.0 in
    let own : length a ≡ 16 = c.to_bits-own_bits.ensures.octets.0 in
    ap (λ (o : List ℕ). Some (get_or o 8 0 ∷ get_or o 9 0 ∷ get_or o 10 0 ∷ get_or o 11 0 ∷ get_or o 12 0 ∷ get_or o 13 0 ∷ get_or o 14 0 ∷ get_or o 15 0 ∷ [])) c.octets.ensures
    ∙ interface_ends prefix c.args.hardware a whole (interface prefix c.args.hardware a own whole made)
    ∙ sym c.as_eui_64.ensures
