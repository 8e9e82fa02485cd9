-- The options of a TCP header as the struct of C.
-- Pinned by: `worked/options`, `worked/write`
use Rattle.std.specs.Prelude.{ℕ, Option, None, Some, is_some, count_by, List, map}
use Rattle.std.specs.Option.{unwrap_or}
use Rattle.ip_wire.specs.Tcp.{HasLengths, options_of}
use Rattle.ip_wire.specs.TcpItems.{IsOptionList, Item, sack_permitted_of, sack_ranges_of, segment_size_of, timestamp_of}
use Rattle.ip_wire.specs.TcpRepr.{scale_of}
use Rattle.c_structs.specs.Written.{flag}
use Rattle.c_structs.specs.declared.types.SackRange.{SackRange}
use Rattle.c_structs.specs.declared.types.TcpOptions.{TcpOptions}

-- the bytes begin with a TCP header, whose options are these items
pub record ReadsItems (bytes : List ℕ) (items : List Item) : Type 0 where
  pub lengths : HasLengths bytes
  pub tail : List ℕ
  pub list : IsOptionList (options_of bytes) items tail

-- the bytes are a list of these items
abbrev pub IsListed : List ℕ → List Item → Type 0
IsListed bytes items = (tail : List ℕ) × IsOptionList bytes items tail

-- the struct of a SACK range; zeros if there is none
abbrev pub range_of : Option (ℕ × ℕ) → SackRange
range_of None = record { left = 0; right = 0 }
range_of (Some r) = record { left = r.0; right = r.1 }

-- the struct of an option list: the last option of each kind counts; a window scale above 14 becomes 14
abbrev pub tcp_options_of : List Item → TcpOptions
tcp_options_of items =
    let stamps = unwrap_or (timestamp_of items) (0, 0) in record {
      sack_ranges = map range_of (sack_ranges_of items);
      tsval = stamps.0;
      tsecr = stamps.1;
      max_seg_size = unwrap_or (segment_size_of items) 0;
      window_scale = unwrap_or (scale_of items) 0;
      sack_permitted = flag (sack_permitted_of items);
      sack_range_count = count_by is_some (sack_ranges_of items);
      has_max_seg_size = flag (is_some (segment_size_of items));
      has_window_scale = flag (is_some (scale_of items));
      has_timestamp = flag (is_some (timestamp_of items));
    }
