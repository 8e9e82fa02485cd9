use Rattle.std.proofs.Common.{refl, rules}
use Rattle.app_edit.specs.Edited.{hop_limit_set}
use Rattle.c_routing.proofs.Editing.{edits, no-hop_limit, too-long}
use Rattle.c_routing.proofs.edits.set_hop_limit.Goals as goal

pub returns-then-frame-gt-MAX_LEN : goal.returns-then-frame-gt-MAX_LEN
returns-then-frame-gt-MAX_LEN c = too-long (λ l. hop_limit_set l c.args.hop_limit) c.args.frame.now _ refl (search rules) (no-hop_limit c.args.hop_limit)

pub returns : goal.returns
returns c =
    edits (λ l. hop_limit_set l c.args.hop_limit) c.args.frame.now c.set_hop_limit.new.frame c.set_hop_limit.result _ (search rules) c.code.ensures (search rules)
    c.set_hop_limit.ensures.done c.set_hop_limit.ensures.bytes
