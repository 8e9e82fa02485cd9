-- TCP options as the struct of C.
use Rattle.std.specs.Prelude.{ℕ, ◌==◌, ◌+◌, not, nat_lt, if◌then◌else◌, List, [], ◌∷◌, Option, None, Some, is_some, get_or}
use Rattle.std.specs.Option.{unwrap_or}
use Rattle.wire_tcp_options.specs.declared.tcp.summary.TcpOptionSummary.{TcpOptionSummary}
use Rattle.c_structs.specs.Written.{flag}
use Rattle.c_structs.specs.declared.types.SackRange.{SackRange}
use Rattle.c_structs.specs.declared.types.TcpOptions.{TcpOptions}

-- the struct of a SACK range; zeros if there is none
abbrev pub range_of : Option (ℕ × ℕ) → SackRange
range_of range = let edges = unwrap_or range (0, 0) in record { left = edges.0; right = edges.1 }

-- the SACK range in a place of the options, if there is one
abbrev pub nth_range : TcpOptionSummary → ℕ → Option (ℕ × ℕ)
nth_range s place = get_or s.sack_ranges place None

-- their structs
abbrev pub ranges_of : TcpOptionSummary → List SackRange
ranges_of s =
    range_of (nth_range s 0) ∷ range_of (nth_range s 1) ∷ range_of (nth_range s 2) ∷ range_of (nth_range s 3) ∷ []

-- how many there are
abbrev pub range_count : TcpOptionSummary → ℕ
range_count s =
    flag (is_some (nth_range s 0)) + flag (is_some (nth_range s 1)) + flag (is_some (nth_range s 2)) + flag
    (is_some (nth_range s 3))

-- the struct of these options
abbrev pub options_of : TcpOptionSummary → TcpOptions
options_of s =
    let stamps = unwrap_or s.timestamp (0, 0) in record {
      sack_ranges = ranges_of s;
      tsval = stamps.0;
      tsecr = stamps.1;
      max_seg_size = unwrap_or s.max_segment_size 0;
      window_scale = unwrap_or s.window_scale 0;
      sack_permitted = flag s.sack_permitted;
      sack_range_count = range_count s;
      has_max_seg_size = flag (is_some s.max_segment_size);
      has_window_scale = flag (is_some s.window_scale);
      has_timestamp = flag (is_some s.timestamp);
    }

-- the SACK range in a place of the struct, if there are so many
abbrev pub range_at : TcpOptions → ℕ → Option (ℕ × ℕ)
range_at o place =
    let range = get_or o.sack_ranges place (record { left = 0; right = 0 }) in
    if nat_lt place o.sack_range_count then Some (range.left, range.right) else None

-- the options in the struct
abbrev pub summary_of : TcpOptions → TcpOptionSummary
summary_of o = record {
  max_segment_size = if o.has_max_seg_size == 0 then None else Some o.max_seg_size;
  window_scale = if o.has_window_scale == 0 then None else Some o.window_scale;
  sack_permitted = not (o.sack_permitted == 0);
  sack_ranges = range_at o 0 ∷ range_at o 1 ∷ range_at o 2 ∷ range_at o 3 ∷ [];
  timestamp = if o.has_timestamp == 0 then None else Some (o.tsval, o.tsecr);
}
