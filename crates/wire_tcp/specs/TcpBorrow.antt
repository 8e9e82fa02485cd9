-- What `options_mut` and `payload_mut` promise on the borrowed bytes.
-- Pinned by: `wire/tcp`, `wire/nested`
use Rattle.std.specs.Prelude.{ℕ, ◌++◌, List, [], take}
use Rattle.std.specs.Borrow.{Lends, MutBor, Fml, Array, u8}
use denote.Slice.{MutSlice}
use mir.Syntax.{named}
use Rattle.net_base.specs.Field.{with_range}
use Rattle.wire_tcp.specs.Tcp.{Writing, header_len, packet_bytes_mut}
use Rattle.wire_tcp.specs.contracts.tcp.packet.TcpView.{the_row}

-- the view over the same borrow, with these bytes in it
abbrev pub with_bytes : Writing → List ℕ → Writing
with_bytes packet bytes = record packet { buffer = record packet.buffer { now = bytes } }

-- the bytes with other options
abbrev pub with_options : List ℕ → List ℕ → List ℕ
with_options bytes = with_range bytes 20 (header_len bytes)

-- the bytes with another payload
abbrev pub with_payload : List ℕ → List ℕ → List ℕ
with_payload bytes payload = take (header_len bytes) bytes ++ payload

-- at the end of the borrow the view has the bytes that were written to the options; all other bytes are unchanged
abbrev pub BorrowsOptions : MutBor Writing → MutBor (List ℕ) → Fml
BorrowsOptions packet options = Lends (the_row (MutSlice (named 1) [] u8)) (Array u8 0) packet options (λ w. with_bytes packet.now (with_options (packet_bytes_mut packet.now) w))

-- at the end of the borrow the view has the bytes that were written to the payload; the header is unchanged
abbrev pub BorrowsPayload : MutBor Writing → MutBor (List ℕ) → Fml
BorrowsPayload packet payload = Lends (the_row (MutSlice (named 1) [] u8)) (Array u8 0) packet payload (λ w. with_bytes packet.now (with_payload (packet_bytes_mut packet.now) w))
