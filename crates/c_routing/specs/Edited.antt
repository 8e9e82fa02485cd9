-- What the calls that edit a field of a frame return and write.
-- Pinned by: `worked/edit`, `judge`
use Rattle.std.specs.Prelude.{ℕ, ℤ, pos, ◌≡◌, if◌then◌else◌, is_some, List, Option}
use Rattle.std.specs.Option.{unwrap_or}
use Rattle.std.specs.Ordering.{int_eq}
use Rattle.app_edit.specs.declared.replace.Offload.{Offload}
use Rattle.app_edit.specs.declared.replace.Offload.TheVariants as offload
use Rattle.c_structs.specs.Written.{flag}

-- what the caller says of a checksum by this number: 1 that it is left to the device, 2 that it is complete, else nothing
abbrev pub offload_of : ℤ → Offload
offload_of number =
    if int_eq number (pos 1) then offload.Offloaded
    else if int_eq number (pos 2) then offload.Complete
    else offload.Guess

-- 1 is returned, and these are the new bytes of the frame; or 0, if there are none, and the frame is unchanged
abbrev pub Edits : Option (List ℕ) → List ℕ → List ℕ → ℤ → Type 0
Edits edited old new answer = (answer ≡ pos (flag (is_some edited))) × (new ≡ unwrap_or edited old)
