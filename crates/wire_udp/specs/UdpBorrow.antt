-- What `payload_mut` promises on the borrowed bytes.
-- Pinned by: `wire/nested`
use Rattle.std.specs.Prelude.{ℕ, List, []}
use Rattle.std.specs.Borrow.{Lends, MutBor, Fml, Array, u8}
use denote.Slice.{MutSlice}
use mir.Syntax.{named}
use Rattle.net_base.specs.Field.{with_range}
use Rattle.wire_udp.specs.Udp.{Writing, packet_bytes_mut, packet_len}
use Rattle.wire_udp.specs.contracts.udp.packet.UdpView.{the_row}

-- the view over the same borrow, with these bytes in it
abbrev pub with_bytes : Writing → List ℕ → Writing
with_bytes packet bytes = record packet { buffer = record packet.buffer { now = bytes } }

-- the bytes with another payload
abbrev pub with_payload : List ℕ → List ℕ → List ℕ
with_payload bytes = with_range bytes 8 (packet_len bytes)

-- at the end of the borrow the view has the bytes that were written to the payload; all other bytes are unchanged
abbrev pub BorrowsPayload : MutBor Writing → MutBor (List ℕ) → Fml
BorrowsPayload packet payload = Lends (the_row (MutSlice (named 1) [] u8)) (Array u8 0) packet payload (λ w. with_bytes packet.now (with_payload (packet_bytes_mut packet.now) w))
