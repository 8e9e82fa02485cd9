-- The first 20 bytes of a TCP header.
use Rattle.std.specs.Prelude.{ℕ, List, ◌++◌}
use Rattle.byteorder.specs.Endian.{big_bytes}

-- the first 20 bytes of a TCP header: ports, sequence and acknowledgement number, the word with data offset and
-- flags, the window, 0 as checksum and urgent pointer
abbrev pub fixed_bytes : ℕ → ℕ → ℕ → ℕ → ℕ → ℕ → List ℕ
fixed_bytes src_port dst_port seq_number ack_number offset_and_flags window_len =
    big_bytes 2 src_port ++ big_bytes 2 dst_port ++ big_bytes 4 seq_number ++ big_bytes 4 ack_number
    ++ big_bytes 2 offset_and_flags ++ big_bytes 2 window_len ++ big_bytes 2 0 ++ big_bytes 2 0
