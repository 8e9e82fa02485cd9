-- The options of an IPv4 header in its later fragments (RFC 791, section 3.1).
-- Pinned by: `fragments/ipv4_fragments`, `OptionsWorked`
use Rattle.std.specs.Prelude.{ℕ, zero, suc, ◌==◌, ◌&&◌, nat_le, if◌then◌else◌, Option, None, Some, List, ◌++◌, drop, length, replicate, slice_index, take}
use Rattle.std.specs.Option.{option_map_or}

-- The length of the option that the bytes begin with: 1 for no operation (type 1), else what its second byte says. There
-- is no option at the end of the options (type 0) or of the bytes, or if its length is below 2 or past the bytes. A byte
-- past the end counts as 0.
abbrev pub option_len : List ℕ → Option ℕ
option_len options =
    let kind = slice_index options 0 in
    let len = slice_index options 1 in
    if kind == 0 then None
    else if kind == 1 then Some 1
    else if nat_le 2 len && nat_le len (length options) then Some len
    else None

-- an option in a later fragment: it stays if its type has the copied flag, the highest bit; else it is as many NOPs
abbrev pub later_option : List ℕ → List ℕ
later_option option = if nat_le 128 (slice_index option 0) then option else replicate (length option) 1

-- the bytes with the first n options as a later fragment has them
abbrev pub later_first : ℕ → List ℕ → List ℕ
later_first zero options = options
later_first (suc n) options =
    option_map_or (λ len. later_option (take len options) ++ later_first n (drop len options)) (option_len options) options

-- the options of a header as a later fragment has them; the bytes after the last option stay
unfoldable pub later_options : List ℕ → List ℕ
later_options options = later_first (length options) options
