-- The maximum segment size in the options of a segment (RFC 9293, section 3.7.1).
-- Pinned by: `tests/frames/field_lines.py`
use Rattle.std.specs.Prelude.{ℕ, ◌+◌, List, Option}
use Rattle.std.specs.Option.{option_and_then, option_map, option_map_or}
use Rattle.byteorder.specs.Endian.{big_bytes}
use Rattle.wire_checksum.specs.WordSum.{sum_of_bytes}
use Rattle.net_base.specs.Field.{with_range}
use Rattle.wire_tcp.specs.Tcp.{options_of, with_updated_checksum}
use Rattle.wire_tcp.specs.TcpRepr.{items_in}
use Rattle.wire_tcp_options.specs.TcpItems.{segment_size_of}
use Rattle.wire_tcp_options.specs.TcpPlace.{segment_size_at}

-- the maximum segment size, if no option is malformed and there is one
abbrev pub max_seg_size_of : List ℕ → Option ℕ
max_seg_size_of bytes = option_and_then segment_size_of (items_in (options_of bytes))

-- the index in the segment of the two bytes of its maximum segment size
abbrev pub max_seg_size_at : List ℕ → Option ℕ
max_seg_size_at bytes = option_map (λ n. 20 + n) (option_and_then segment_size_at (items_in (options_of bytes)))

-- the bytes with this size at an index of the options, and the checksum updated for the options
abbrev pub with_size_at : List ℕ → ℕ → ℕ → List ℕ
with_size_at bytes size at =
    let changed = with_range bytes at (at + 2) (big_bytes 2 size) in
    with_updated_checksum changed (sum_of_bytes (options_of bytes)) (sum_of_bytes (options_of changed))

-- the bytes with this maximum segment size and an updated checksum, unchanged if they have no size
abbrev pub with_max_seg_size : List ℕ → ℕ → List ℕ
with_max_seg_size bytes size = option_map_or (with_size_at bytes size) (max_seg_size_at bytes) bytes
