-- What a call of a program in C makes of a run.
-- Pinned by: `judge`
use Rattle.std.specs.Prelude.{ℕ, ◌≡◌, ◌==◌, ◌≤◌, ◌⊎◌, List, [], length, true, false, if◌then◌else◌}
use Rattle.app_connection.specs.Runs.{IsFrom}
use Rattle.app_connection.specs.States.{has_peer, state_from}
use Rattle.app_connection.specs.Worlds.{said}
use Rattle.app_socket.specs.Fields.{socket_of}
use Rattle.app_socket.specs.Pair.{Past}
use Rattle.app_socket.specs.declared.fields.SocketFields.{SocketFields}
use Rattle.c_socket.specs.Openings.{Program, Programs}
use Rattle.c_socket.specs.Runs.{End, Ends, Runs}
use Rattle.c_socket.specs.Segments.{segment_of}
use Rattle.c_socket.specs.declared.laws.runs.Call.{Call}
use Rattle.c_socket.specs.declared.laws.runs.Call.TheVariants as call

-- the past of an end before its first call
abbrev pub no_past : Past
no_past = record { was_opened = false; wrote = []; read = []; sent = [] }

-- an end with these fields, these rings and this past
abbrev pub end_at : SocketFields → List ℕ → List ℕ → Past → End
end_at f outgoing incoming h = record { fields = f; outgoing = outgoing; incoming = incoming; was_opened = h.was_opened; wrote = h.wrote; read = h.read; sent = h.sent }

-- Each run of both ends goes on with a call of one of them, whichever it is.
pub record GoesOn (a b new : End) : Type 0 where
  pub here : Runs (record { here = a; there = b }) → Runs (record { here = new; there = b })
  pub there : Runs (record { here = b; there = a }) → Runs (record { here = b; there = new })

-- an end has a peer, or was never opened
abbrev pub MayOpen : SocketFields → Past → Type 0
MayOpen f h = (has_peer (state_from (socket_of f).connection) ≡ true) ⊎ (h.was_opened ≡ false)

-- a segment has the size of one of TCP
abbrev pub IsShort : Call → Type 0
IsShort (call.Connect iss) = Unit {0}
IsShort (call.Take segment fresh) = length segment.now.payload.now ≤ 65535
IsShort call.Tick = Unit {0}
IsShort call.Listen = Unit {0}
IsShort call.Close = Unit {0}
IsShort call.Abort = Unit {0}

-- a segment that comes is from the other end
abbrev pub MayTake : Call → End → Past → Type 0
MayTake (call.Connect iss) b h = Unit {0}
MayTake (call.Take segment fresh) b h = IsFrom b.sent (length b.wrote) (length h.wrote) (said (segment_of segment.now))
MayTake call.Tick b h = Unit {0}
MayTake call.Listen b h = Unit {0}
MayTake call.Close b h = Unit {0}
MayTake call.Abort b h = Unit {0}

-- a program whose first connection has this end, and each later one that end
abbrev pub program_with : End → End → Program
program_with first later = record { number = 0; ends = λ n. if n == 0 then first else later }

-- both programs
abbrev pub programs_with : Ends → Ends → Programs
programs_with p q = record { here = program_with p.here q.here; there = program_with p.there q.there }
