-- What is returned for what a call wrote.
use Rattle.std.proofs.Common.{ℕ, ℤ, ◌≡◌, ◌∙◌, ◌≤◌, ◌<◌, List, Option, None, Some, SFits, ap, length, refl, of_z, to_z, w64}
use Rattle.std.proofs.lemmas.Int.{to_z-of_z}
use Rattle.c_structs.proofs.Filled.{within-None, within-Some, writes-nothing}
use Rattle.c_structs.specs.Written.{Fills, Writes, failed_by, max_len}
use Rattle.c_structs.specs.declared.failures.Failure.{Failure}

-- the length of the bytes, if they were written
pub all : (bytes : Option (List ℕ)) (why : Option Failure) (old new : List ℕ) (n : ℕ) → Fills bytes old new (Some n) → length old ≤ max_len
    → Writes bytes why old new (to_z w64 n)
all bytes why old new n fills room = within-Some bytes why old new new (Some n) (Some n) n refl refl refl fills room

-- if nothing was written, the failure
pub none : (bytes : Option (List ℕ)) (why given : Option Failure) (old new : List ℕ) (answer : ℤ) → given ≡ why → answer ≡ failed_by given → SFits w64 answer
    → Fills bytes old new None → length old ≤ max_len → Writes bytes why old new (to_z w64 (of_z w64 answer))
none bytes why given old new answer same is fits fills room =
    within-None bytes why old new new None None answer refl refl refl fills room (is ∙ ap failed_by same) fits

-- if the output is too long, the failure
pub too_long : (bytes : Option (List ℕ)) (why given : Option Failure) (old : List ℕ) (answer : ℤ) → given ≡ why → answer ≡ failed_by given → SFits w64 answer
    → max_len < length old → Writes bytes why old old (to_z w64 (of_z w64 answer))
too_long bytes why given old answer same is fits long =
    writes-nothing bytes why old old _ long refl (to_z-of_z w64 answer fits ∙ is ∙ ap failed_by same)
