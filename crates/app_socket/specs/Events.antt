-- The events of a socket.
-- Pinned by: `socket/scenarios`
use Rattle.std.specs.Prelude.{◌<◌, length}
use Rattle.app_connection.specs.declared.step.Event.{Event as Move}
use Rattle.app_connection.specs.declared.step.Event.TheVariants as move
use Rattle.app_socket.specs.declared.step.Event.{Event}
use Rattle.app_socket.specs.declared.step.Event.TheVariants as event

-- a segment has the size of one of TCP
abbrev pub IsShort : Event → Type 0
IsShort event.Listen = Unit {0}
IsShort (event.Open iss) = Unit {0}
IsShort (event.Arrives segment options fresh) = length segment.now.payload.now < 65536
IsShort event.Close = Unit {0}
IsShort event.Abort = Unit {0}
IsShort event.Tick = Unit {0}

-- What a connection meets: with the time it sends, of which only the end of its stream and what it takes are fixed.
abbrev pub move_of : Event → Move
move_of event.Listen = move.Listen
move_of (event.Open iss) = move.Open iss
move_of (event.Arrives segment options fresh) = move.Arrives segment fresh
move_of event.Close = move.Close
move_of event.Abort = move.Abort
move_of event.Tick = move.Send 0 0

-- time passes
abbrev pub IsTick : Event → Type 0
IsTick event.Listen = ⊥
IsTick (event.Open iss) = ⊥
IsTick (event.Arrives segment options fresh) = ⊥
IsTick event.Close = ⊥
IsTick event.Abort = ⊥
IsTick event.Tick = Unit {0}

-- nothing comes from the peer, and no connection begins
abbrev pub IsQuiet : Event → Type 0
IsQuiet event.Listen = Unit {0}
IsQuiet (event.Open iss) = ⊥
IsQuiet (event.Arrives segment options fresh) = ⊥
IsQuiet event.Close = Unit {0}
IsQuiet event.Abort = Unit {0}
IsQuiet event.Tick = Unit {0}
