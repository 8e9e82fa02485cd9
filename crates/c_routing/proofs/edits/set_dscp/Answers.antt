use Rattle.std.proofs.Common.{refl, rules}
use Rattle.app_edit.specs.Edited.{dscp_set}
use Rattle.c_routing.proofs.Editing.{edits, no-dscp, too-long}
use Rattle.c_routing.proofs.edits.set_dscp.Goals as goal

pub returns-then-frame-gt-MAX_LEN : goal.returns-then-frame-gt-MAX_LEN
returns-then-frame-gt-MAX_LEN c = too-long (λ l. dscp_set l c.args.dscp) c.args.frame.now _ refl (search rules) (no-dscp c.args.dscp)

pub returns : goal.returns
returns c =
    edits (λ l. dscp_set l c.args.dscp) c.args.frame.now c.set_dscp.new.frame c.set_dscp.result _ (search rules) c.code.ensures (search rules)
    c.set_dscp.ensures.done c.set_dscp.ensures.bytes
