-- The values of the options of a header.
-- Pinned by: `calls/walk`, `calls/worked_transport`
use Rattle.std.specs.Prelude.{ℕ, ◌≡◌, List}
use Rattle.wire_tcp_options.specs.TcpItems.{Item, IsOptionList, first_blocks, sack_permitted_of, sack_ranges_of, segment_size_of, timestamp_of, window_scale_of}
use Rattle.wire_tcp_options.specs.declared.tcp.summary.OptionValues.{OptionValues}
use Rattle.wire_tcp_options.specs.declared.tcp.summary.TcpOptionSummary.{TcpOptionSummary}

-- the values of an option list: the last option of each kind counts
abbrev pub summary_of : List Item → TcpOptionSummary
summary_of items = record {
  max_segment_size = segment_size_of items;
  window_scale = window_scale_of items;
  sack_permitted = sack_permitted_of items;
  sack_ranges = sack_ranges_of items;
  timestamp = timestamp_of items;
}

-- the bytes have an option list with these values
abbrev pub Summarizes : List ℕ → TcpOptionSummary → Type 0
Summarizes bytes summary = (items : List Item) × (tail : List ℕ) × IsOptionList bytes items tail × (summary ≡ summary_of items)

-- the bytes have no option list: an option is malformed
abbrev pub HasNoList : List ℕ → Type 0
HasNoList bytes = (items : List Item) (tail : List ℕ) → IsOptionList bytes items tail → ⊥

-- the values of a walk as a summary of the option list
abbrev pub summary_in : OptionValues → TcpOptionSummary
summary_in values = record {
  max_segment_size = values.max_segment_size;
  window_scale = values.window_scale;
  sack_permitted = values.sack_permitted;
  sack_ranges = first_blocks values.sack_blocks.now;
  timestamp = values.timestamp;
}
