-- What `payload_mut` promises on the borrowed bytes.
-- Pinned by: `wire/icmp`
use Rattle.std.specs.Prelude.{ℕ, ◌++◌, List, [], take}
use Rattle.std.specs.Borrow.{Lends, MutBor, Fml, Array, u8}
use denote.Slice.{MutSlice}
use mir.Syntax.{named}
use Rattle.wire_icmp.specs.Icmp.{Writing, packet_bytes_mut}
use Rattle.wire_icmp.specs.contracts.icmp.packet.IcmpView.{the_row}

-- the view over the same borrow, with these bytes in it
abbrev pub with_bytes : Writing → List ℕ → Writing
with_bytes packet bytes = record packet { buffer = record packet.buffer { now = bytes } }

-- at the end of the borrow the view has the bytes that were written to the payload; the header is unchanged
abbrev pub BorrowsPayload : MutBor Writing → MutBor (List ℕ) → Fml
BorrowsPayload packet payload = Lends (the_row (MutSlice (named 1) [] u8)) (Array u8 0) packet payload (λ w. with_bytes packet.now (take 8 (packet_bytes_mut packet.now) ++ w))
