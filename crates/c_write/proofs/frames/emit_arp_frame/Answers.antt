use Rattle.std.proofs.Common.{◌≡◌, ◌∙◌, ◌+◌, ◌++◌, Some, ap, arith, length, refl, rules, subst, sym, take}
use Rattle.std.proofs.lemmas.Grind.{common_steps}
use Rattle.std.specs.Option.{option_map}
use Rattle.ip_wire.specs.Arp.{bytes_of}
use Rattle.c_write.proofs.Filled.{filled-after}
use Rattle.c_write.specs.Frames.{arp_frame}
use Rattle.c_write.specs.Headers.{arp_value, link_bytes}
use Rattle.c_structs.specs.Written.{Fills}
use Rattle.c_write.proofs.frames.emit_arp_frame.Goals as goal

pub returns-in-Some : goal.returns-in-Some
returns-in-Some c =
    let f = c.args.fields.now in
    let old = c.args.out.now in
    let link = link_bytes f.ethernet 2054 in
    let inner = bytes_of c.in_ok-value.value in
    let value : arp_value f.arp f.src.addr f.dst.addr ≡ Some c.in_ok-value.value = sym c.arp_value.ensures ∙ c.in_ok-value.was in
    let frame : arp_frame f ≡ Some (link ++ inner) = ap (λ o. option_map (λ packet. link ++ packet) (option_map bytes_of o)) value in
    let front : c.split_at_mut-link.result.0.now ≡ take 14 old = search rules in
    let is_front = rw front at c.write_ethernet.ensures in
    let (len, room, is) = c.in-Some.ensures in
    let same = c.try_emit.auto.out in
    let size : c.in-Some.len ≡ length inner = grind (arith, common_steps, room, same, is) in
    subst (λ o. Fills o old (c.write_ethernet.new.out ++ c.try_emit.new.out) (Some (14 + c.in-Some.len))) (sym frame)
    (filled-after link inner old c.write_ethernet.new.out _ c.try_emit.new.out 14 c.in-Some.len
    (search rules) (search rules) refl is_front size (search rules) (search rules))
