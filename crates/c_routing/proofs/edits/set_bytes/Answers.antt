use Rattle.std.proofs.Common.{refl, rules}
use Rattle.app_edit.specs.Edited.{bytes_set}
use Rattle.c_routing.proofs.Editing.{edits, no-bytes, too-long}
use Rattle.c_routing.proofs.edits.set_bytes.Goals as goal

pub returns-then-frame-gt-MAX_LEN : goal.returns-then-frame-gt-MAX_LEN
returns-then-frame-gt-MAX_LEN c = too-long (λ l. bytes_set c.args.offload l c.args.offset c.args.bytes.now) c.args.frame.now _ refl (search rules) (no-bytes c.args.offload c.args.offset c.args.bytes.now)

pub returns : goal.returns
returns c =
    edits (λ l. bytes_set c.args.offload l c.args.offset c.args.bytes.now) c.args.frame.now c.set_bytes.new.frame c.set_bytes.result _ (search rules) c.code.ensures (search rules)
    c.set_bytes.ensures.done c.set_bytes.ensures.bytes
