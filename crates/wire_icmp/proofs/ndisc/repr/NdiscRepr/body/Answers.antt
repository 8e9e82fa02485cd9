use Rattle.std.proofs.Common.{◌≡◌, ◌∙◌, ◌++◌, Some, ap, replicate, rules, refl, sym}
use Rattle.wire_icmp.proofs.Emitted.{body_written}
use Rattle.wire_icmp.specs.Ndisc.{address_in, target_of}
use Rattle.wire_icmp.proofs.ndisc.repr.NdiscRepr.body.Goals as goal

pub returns-in-Some : goal.returns-in-Some
returns-in-Some c =
    let v = c.args.self.now in
    let has : address_in v ≡ Some c.in-Some.lladdr = sym c.in-Some.ensures in
    let target = c.octets.ensures ∙ c.target_addr.ensures in
    rw (has, ← c.option_type.ensures)
    (body_written c.option_type.result (target_of v) c.in-Some.lladdr.0 c.write_front.new.bytes c.write_six.new.bytes (replicate 8 0) _ (search rules) (search rules) refl
    (c.write_front.ensures ∙ ap (λ t. t ++ replicate 8 0) target) c.write_six.ensures)
