use Rattle.std.proofs.Common.{◌≡◌, ◌∙◌, Some, of_z, refl, rules, subst, sym, to_z, w32}
use Rattle.std.specs.Option.{option_and_then}
use Rattle.app_edit.specs.Edited.{addr_set}
use Rattle.c_structs.specs.Addresses.{ip_of}
use Rattle.c_structs.specs.Written.{within}
use Rattle.c_routing.specs.Edited.{Edits}
use Rattle.c_routing.specs.Translated.{side_of}
use Rattle.c_routing.proofs.Editing.{edits, no-addr_of, too-long}
use Rattle.c_routing.proofs.edits.set_addr.Goals as goal

pub returns-then-frame-gt-MAX_LEN : goal.returns-then-frame-gt-MAX_LEN
returns-then-frame-gt-MAX_LEN c =
    too-long (λ l. option_and_then (addr_set c.args.offload l (side_of c.args.side)) (ip_of c.args.addr.now)) c.args.frame.now _ refl (search rules)
    (no-addr_of c.args.offload (side_of c.args.side) (ip_of c.args.addr.now))

pub returns-in-Some : goal.returns-in-Some
returns-in-Some c =
    let side : c.side_of.result ≡ side_of c.args.side = search rules in
    let is : ip_of c.args.addr.now ≡ Some c.in-Some.addr = sym c.ip.ensures ∙ c.in-Some.is in
    subst (λ o. Edits (option_and_then (addr_set c.args.offload (within c.args.frame.now) (side_of c.args.side)) o) c.args.frame.now c.set_addr.new.frame (to_z w32 (of_z w32 c.code.result))) (sym is)
    (subst (λ s. Edits (addr_set c.args.offload (within c.args.frame.now) s c.in-Some.addr) c.args.frame.now c.set_addr.new.frame (to_z w32 (of_z w32 c.code.result))) side
    (edits (λ l. addr_set c.args.offload l c.side_of.result c.in-Some.addr) c.args.frame.now c.set_addr.new.frame c.set_addr.result _ (search rules) c.code.ensures (search rules)
    c.set_addr.ensures.done c.set_addr.ensures.bytes))
