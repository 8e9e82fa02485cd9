-- What the calls of a NAT with a table return and write.
-- Pinned by: `worked/nat`, `judge`
use Rattle.std.specs.Prelude.{ℕ, ℤ, pos, ◌≡◌, ◌≤◌, ◌⊎◌, List, length}
use Rattle.app_nat.specs.declared.Mapping.{Mapping}
use Rattle.app_nat.specs.declared.Nat.{Nat}
use Rattle.app_nat.specs.Flows.{ComesIn, GoesOut, IsKeptInside, IsKeptOutside}
use Rattle.app_nat.specs.declared.translation.Rejection.{Rejection}
use Rattle.c_structs.specs.Written.{max_len, within}
use Rattle.c_routing.specs.Lengths.{in_bounds}
use Rattle.c_routing.specs.Rejections.{of_nat, rejection_code}

-- the frame and the table are short enough to be used
pub record AreUsable (mappings : List Mapping) (frame : List ℕ) : Type 0 where
  pub short_table : length mappings ≤ max_len
  pub short_frame : length frame ≤ max_len

-- 0 is returned, and the frame goes out; or the number of the reason, and the frame and the table are unchanged
abbrev pub TranslatesOut : Nat → List Mapping → List Mapping → ℕ → List ℕ → List ℕ → ℤ → Type 0
TranslatesOut nat old new now before after answer =
    ((answer ≡ pos 0) × AreUsable old before × GoesOut nat old new now before after)
    ⊎ ((reason : Rejection) × (answer ≡ pos (rejection_code (of_nat reason))) × IsKeptInside nat (in_bounds old) now (within before) reason
    × (new ≡ old) × (after ≡ before))

-- 0 is returned, and the frame comes in; or the number of the reason, and the frame is unchanged
abbrev pub TranslatesIn : Nat → List Mapping → List Mapping → ℕ → List ℕ → List ℕ → ℤ → Type 0
TranslatesIn nat old new now before after answer =
    ((answer ≡ pos 0) × AreUsable old before × ComesIn nat old new now before after)
    ⊎ ((reason : Rejection) × (answer ≡ pos (rejection_code (of_nat reason))) × IsKeptOutside nat (in_bounds old) (in_bounds new) now (within before) reason
    × (after ≡ before))
