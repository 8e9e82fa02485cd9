-- Where a value is in the options of a header.
-- Pinned by: `tests/frames/field_lines.py`
use Rattle.std.specs.Prelude.{ℕ, ◌+◌, if◌then◌else◌, List, [], ◌∷◌, length, Option, Some, None}
use Rattle.std.specs.Option.{option_map, option_or}
use Rattle.wire_tcp_options.specs.TcpItems.{Item, is_of, text}

-- the index of the data of the last option of kind 2: they follow its kind and its length
abbrev pub segment_size_at : List Item → Option ℕ
segment_size_at [] = None
segment_size_at (i ∷ items) = option_or (option_map (λ n. length (text i) + n) (segment_size_at items)) (if is_of 2 i then Some 2 else None)
