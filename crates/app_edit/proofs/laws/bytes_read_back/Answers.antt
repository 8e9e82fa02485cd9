use Rattle.std.proofs.Common.{◌∙◌, ◌+◌, ap, is_some, length, slice_range, unwrap_or}
use Rattle.app_edit.proofs.Kept.{found}
use Rattle.app_edit.proofs.ReadBack.{bytes-is, bytes-read}
use Rattle.app_edit.proofs.laws.bytes_read_back.Goals as goal

pub returns : goal.returns
returns c p is allowed =
    let xs = c.args.frame.now in
    let o = c.args.offload in
    let at = c.args.at in
    let bytes = c.args.bytes.now in
    let made = bytes-is o xs at bytes p c.requires allowed is in (
      c.set_bytes.ensures.done ∙ ap is_some made,
      ap (λ l. slice_range l at (at + length bytes)) (c.set_bytes.ensures.bytes ∙ ap (λ r. unwrap_or r xs) made)
          ∙ bytes-read o p xs bytes at (found c.of.result xs p c.of.ensures.value c.of.ensures.holds is) c.requires allowed,
    )
