use Rattle.std.proofs.Common.{refl, rules}
use Rattle.app_edit.specs.Filled.{checksum_filled}
use Rattle.c_routing.proofs.Editing.{edits, no-checksum, too-long}
use Rattle.c_routing.proofs.edits.fill_checksum.Goals as goal

pub returns-then-frame-gt-MAX_LEN : goal.returns-then-frame-gt-MAX_LEN
returns-then-frame-gt-MAX_LEN c = too-long (λ l. checksum_filled l) c.args.frame.now _ refl (search rules) no-checksum

pub returns : goal.returns
returns c =
    edits (λ l. checksum_filled l) c.args.frame.now c.fill_checksum.new.frame c.fill_checksum.result _ (search rules) c.code.ensures (search rules)
    c.fill_checksum.ensures.done c.fill_checksum.ensures.bytes
