-- What the call that translates a frame returns and writes.
-- Pinned by: `worked/nat`
use Rattle.std.specs.Prelude.{ℕ, ℤ, pos, ◌≡◌, ◌≢◌, ◌≤◌, ◌⊎◌, List, if◌then◌else◌, length, take}
use Rattle.std.specs.Ordering.{int_eq}
use Rattle.app_nat.specs.Nat.{IsTranslated, IsUntranslated}
use Rattle.app_nat.specs.declared.translation.Rejection.{Rejection}
use Rattle.app_edit.specs.declared.side.Side.{Side}
use Rattle.app_edit.specs.declared.side.Side.TheVariants.{Source, Destination}
use Rattle.c_structs.specs.Written.{max_len, within}
use Rattle.c_structs.specs.declared.types.Endpoint.{Endpoint}
use Rattle.c_routing.specs.Rejections.{of_nat, rejection_code}
use Rattle.c_routing.specs.declared.rejections.Rejection.TheVariants as rejection

-- the side with this number: 0 for the source, else the destination
abbrev pub side_of : ℤ → Side
side_of number = if int_eq number (pos 0) then Source else Destination

-- 0 is returned, and the frame is translated to this address and port; or the number of the reason, and the frame is
-- unchanged
abbrev pub TranslatesTo : List ℕ → List ℕ → Side → List ℕ → ℕ → ℤ → Type 0
TranslatesTo old new side addr port answer =
    ((answer ≡ pos 0) × (length old ≤ max_len) × IsTranslated old new side addr port)
    ⊎ ((reason : Rejection) × (answer ≡ pos (rejection_code (of_nat reason))) × IsUntranslated (within old) side port reason × (new ≡ old))

-- The endpoint needs an IPv4 address. Without one the frame is unchanged.
pub record Translates (old new : List ℕ) (side : Side) (end : Endpoint) (answer : ℤ) : Type 0 where
  pub ipv4 : end.addr.version ≡ 4 → TranslatesTo old new side (take 4 end.addr.octets) end.port answer
  pub other : end.addr.version ≢ 4 → (answer ≡ pos (rejection_code rejection.NoIpv4)) × (new ≡ old)
