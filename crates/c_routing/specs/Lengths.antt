-- Lists that C passes.
-- Pinned by: `judge`
use Rattle.std.specs.Prelude.{nat_le, if◌then◌else◌, List, [], length}
use Rattle.c_structs.specs.Written.{max_len}

-- the list; one with more than `max_len` elements counts as empty
unfoldable pub in_bounds : {A : Type 0} → List A → List A
in_bounds list = if nat_le (length list) max_len then list else []
