use Rattle.std.proofs.Common.{◌≡◌, ◌∙◌, subst, sym}
use Rattle.promises_c.proofs.OptionsOnce.{frame_options_once}
use Rattle.c_structs.specs.declared.types.FrameFields.{FrameFields}
use Rattle.c_read.specs.FrameOptions.{HasOptions}
use Rattle.c_structs.specs.Written.{within}
use Rattle.promises_c.proofs.read_calls.read_frame_options_once.Goals as goal

pub returns-clause-stored : goal.returns-clause-stored
returns-clause-stored c =
    let first = c.lk_read_frame_options.ensures in
    let second = c.lk_read_frame_options-2.ensures in
    let bytes = within c.args.bytes.now in
    let same : c.lk_read_frame_options.new.frame ≡ c.lk_read_frame_options-2.new.frame = first.fields ∙ sym second.fields in
    frame_options_once c.lk_read_frame_options-2.new.frame bytes _ _ (subst (λ (f : FrameFields). HasOptions f bytes c.lk_read_frame_options.new.options) same first.options) second.options
