use Rattle.std.proofs.Common.{◌≡◌, of_z, refl, rules, subst, to_z, w32}
use Rattle.app_edit.specs.Edited.{port_set}
use Rattle.c_structs.specs.Written.{within}
use Rattle.c_routing.specs.Edited.{Edits}
use Rattle.c_routing.specs.Translated.{side_of}
use Rattle.c_routing.proofs.Editing.{edits, no-port, too-long}
use Rattle.c_routing.proofs.edits.set_port.Goals as goal

pub returns-then-frame-gt-MAX_LEN : goal.returns-then-frame-gt-MAX_LEN
returns-then-frame-gt-MAX_LEN c =
    too-long (λ l. port_set c.args.offload l (side_of c.args.side) c.args.port) c.args.frame.now _ refl (search rules) (no-port c.args.offload (side_of c.args.side) c.args.port)

pub returns : goal.returns
returns c =
    let side : c.side_of.result ≡ side_of c.args.side = search rules in
    subst (λ s. Edits (port_set c.args.offload (within c.args.frame.now) s c.args.port) c.args.frame.now c.set_port.new.frame (to_z w32 (of_z w32 c.code.result))) side
    (edits (λ l. port_set c.args.offload l c.side_of.result c.args.port) c.args.frame.now c.set_port.new.frame c.set_port.result _ (search rules) c.code.ensures (search rules)
    c.set_port.ensures.done c.set_port.ensures.bytes)
