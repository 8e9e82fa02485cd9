-- A header as the list of its fields, by their widths in the RFC's diagram, in order.
-- Pinned by: `tests/frames/field_lines.py`
use Rattle.std.specs.Prelude.{ℕ, ◌+◌, ◌/◌, Bool, if◌then◌else◌, List, slice_index, sum, take}
use Rattle.net_base.specs.Field.{field, with_field}

-- the number in field k of a diagram with these widths
abbrev pub nth_field : List ℕ → ℕ → List ℕ → ℕ
nth_field widths k bytes = field bytes (sum (take k widths)) (slice_index widths k)

-- the bytes with x in field k of a diagram with these widths
abbrev pub with_nth : List ℕ → ℕ → ℕ → List ℕ → List ℕ
with_nth widths k x bytes = with_field bytes (sum (take k widths)) (slice_index widths k) x

-- the number of bytes from the first one to the last one that has a bit of field k
abbrev pub end_of : List ℕ → ℕ → ℕ
end_of widths k = (sum (take (k + 1) widths) + 7) / 8

-- a flag as the number in its one-bit field: 1 if it is set, else 0
abbrev pub flag : Bool → ℕ
flag x = if x then 1 else 0
