-- What `payload_mut` promises on the borrowed bytes.
-- Pinned by: `wire/nested`
use Rattle.std.specs.Prelude.{ℕ, List, [], ◌++◌, take}
use Rattle.std.specs.Borrow.{Lends, MutBor, Fml, Array, u8}
use denote.Slice.{MutSlice}
use mir.Syntax.{named}
use Rattle.wire_ethernet.specs.Ethernet.{Writing, frame_bytes_mut}
use Rattle.wire_ethernet.specs.contracts.ethernet.EthernetView.{the_row}

-- the view over the same borrow, with these bytes in it
abbrev pub with_bytes : Writing → List ℕ → Writing
with_bytes frame bytes = record frame { buffer = record frame.buffer { now = bytes } }

-- at the end of the borrow the view has the bytes that were written to the payload; the header is unchanged
abbrev pub BorrowsPayload : MutBor Writing → MutBor (List ℕ) → Fml
BorrowsPayload frame payload = Lends (the_row (MutSlice (named 1) [] u8)) (Array u8 0) frame payload (λ w. with_bytes frame.now (take 14 (frame_bytes_mut frame.now) ++ w))
