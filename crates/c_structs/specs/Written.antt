-- What the calls for C return and write.
-- Pinned by: `judge`, `worked/write`, `WrittenOnce`, `worked/values`, `worked/read`
use Rattle.std.specs.Prelude.{ℕ, ℤ, pos, negsuc, ◌≡◌, ◌≤◌, ◌<◌, ◌⊎◌, ◌*◌, ◌-◌, ◌++◌, not, nat_le, nat_lt, Bool, if◌then◌else◌, List, [], ◌∷◌, drop, length, slice_set, Option, None, Some}
use Rattle.std.specs.Option.{unwrap_or}
use Rattle.std.specs.Ordering.{int_eq}
use Rattle.ip_wire.specs.Filled as filled
use Rattle.c_structs.specs.declared.failures.Failure.{Failure}
use Rattle.c_structs.specs.declared.failures.Failure.TheVariants as failure

-- ---- lengths and failures

-- the length of the longest input or output in bytes: 2 ^ 40 - 1
abbrev pub max_len : ℕ
max_len = 1099511627775

-- the input; one that is longer than `max_len` counts as empty
unfoldable pub within : List ℕ → List ℕ
within bytes = if nat_le (length bytes) max_len then bytes else []

-- the number of bytes; one above `max_len` counts as 0
unfoldable pub usable : ℕ → ℕ
usable len = if nat_le len max_len then len else 0

-- the number of a failure; in C, `LK_FAILURE` makes its code of it
abbrev pub failure_number : Failure → ℕ
failure_number failure.NoVersion = 1
failure_number failure.TwoVersions = 2
failure_number failure.BadPrefix = 3
failure_number failure.NoPort = 4
failure_number failure.NoHopLimit = 5
failure_number failure.BadField = 6
failure_number failure.TwoControls = 7
failure_number failure.OptionsTooLong = 8
failure_number failure.PayloadTooLong = 9
failure_number failure.NoHeader = 10
failure_number failure.NoRoom = 11
failure_number failure.DontFragment = 12
failure_number failure.Dropped = 13

-- what a call returns for a failure: its number, times -(1 << 40)
abbrev pub failure_code : Failure → ℤ
failure_code w = negsuc (1099511627776 * failure_number w - 1)

-- what a call returns that wrote nothing; without another failure, the output did not fit
abbrev pub failed_by : Option Failure → ℤ
failed_by why = failure_code (unwrap_or why failure.NoRoom)

-- ---- bytes

-- the bytes are at the front of the slice, and their length is returned; if there are none, or if they do not fit,
-- the slice is unchanged
abbrev pub Fills : Option (List ℕ) → List ℕ → List ℕ → Option ℕ → Type 0
Fills None old new answer = (answer ≡ None) × (new ≡ old)
Fills (Some bytes) old new answer = filled.Fills bytes (length bytes) old new answer

-- the bytes are written to the front of the slice, and `len` is returned; if they do not fit, the slice is unchanged
-- and a failure is returned
pub record WritesBytes (bytes : List ℕ) (len : ℕ) (why : Option Failure) (old new : List ℕ) (answer : ℤ) : Type 0 where
  pub fits : length bytes ≤ length old → length old ≤ max_len → (answer ≡ pos len) × (new ≡ bytes ++ drop (length bytes) old)
  pub no_room : (length old < length bytes) ⊎ (max_len < length old) → (answer ≡ failed_by why) × (new ≡ old)

-- The bytes are written and their length is returned. If there are none, a failure is returned; the law
-- `failures_are_exact` says that there is a failure exactly if there are no bytes.
abbrev pub Writes : Option (List ℕ) → Option Failure → List ℕ → List ℕ → ℤ → Type 0
Writes None why old new answer = (answer ≡ failed_by why) × (new ≡ old)
Writes (Some bytes) why old new answer = WritesBytes bytes (length bytes) why old new answer

-- ---- texts

-- a text with a null after it, if there is room for that
abbrev pub ended : List ℕ → ℕ → List ℕ
ended text room = if nat_lt (length text) room then text ++ 0 ∷ [] else text

-- a slice with a null after its first `len` bytes, if it is longer
abbrev pub with_end : List ℕ → ℕ → List ℕ
with_end bytes len = if nat_lt len (length bytes) then slice_set bytes len 0 else bytes

-- the text is written, and its length without the null is returned
abbrev pub Prints : Option (List ℕ) → Option Failure → List ℕ → List ℕ → ℤ → Type 0
Prints None why old new answer = (answer ≡ failed_by why) × (new ≡ old)
Prints (Some text) why old new answer = WritesBytes (ended text (length old)) (length text) why old new answer

-- 1 is returned, and the struct of the value that the text parses as is stored; or 0, if it does not parse, and
-- nothing is stored
abbrev pub IsRead : {V A : Type 0} → (List ℕ → V → Type 0) → (V → A) → List ℕ → A → A → ℤ → Type 0
IsRead {V} Reads stored text old new answer =
    ((answer ≡ pos 1) × ((value : V) × Reads text value × (new ≡ stored value)))
    ⊎ ((answer ≡ pos 0) × (new ≡ old) × ((value : V) → ¬ (Reads text value)))

-- ---- questions

-- 1 is returned if the fact holds, else 0
abbrev pub Answers : Type 0 → ℤ → Type 0
Answers Fact answer = ((answer ≡ pos 1) × Fact) ⊎ ((answer ≡ pos 0) × ¬ Fact)

-- whether a number that C passes means yes
abbrev pub is_set : ℤ → Bool
is_set n = not (int_eq n (pos 0))

-- the number that C gets for yes or no
abbrev pub flag : Bool → ℕ
flag b = if b then 1 else 0
