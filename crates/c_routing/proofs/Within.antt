-- An input of a usable length, and a longer one.
use Rattle.std.proofs.Common.{ℕ, ◌≡◌, ◌<◌, List, [], length, rules}
use Rattle.c_structs.specs.Written.{max_len, within}
pub use Rattle.c_structs.proofs.Filled.{within-is as within-itself}

pub within-nothing : (bytes : List ℕ) → max_len < length bytes → within bytes ≡ []
unfolding within
within-nothing bytes long = search rules
