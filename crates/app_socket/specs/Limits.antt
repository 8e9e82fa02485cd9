-- Which answers are limited (RFC 5961, section 7).
-- Pinned by: `socket/scenarios`
use Rattle.std.specs.Prelude.{ℕ, ◌==◌, ◌||◌, ◌&&◌, length, Bool, false, not, nat_lt, if◌then◌else◌}
use Rattle.app_connection.specs.declared.segment.Segment.{Segment}
use Rattle.app_socket.specs.Times.{later}
use Rattle.app_socket.specs.declared.socket.Socket.{Socket}
use Rattle.app_socket.specs.declared.step.Event.{Event}
use Rattle.app_socket.specs.declared.step.Event.TheVariants as event

-- Whether the answer to a segment is limited in an open connection: it has neither text nor FIN, or it has SYN or RST.
abbrev pub is_limited : Segment → Bool
is_limited s = s.syn || (s.rst || (length s.payload.now == 0 && not s.fin))

-- whether the answer to a segment is held back now: one to such a segment went less than half a second before
abbrev pub is_held : Socket → ℕ → Segment → Bool
is_held s now segment = is_limited segment && nat_lt now s.quiet_until

-- until when the next one is held back, if this segment is answered or not
abbrev pub quiet_after : Socket → ℕ → Segment → Bool → ℕ
quiet_after s now segment answers = if is_limited segment && answers then later now 500 else s.quiet_until

-- the answer to an event is held back
abbrev pub holds : Socket → ℕ → Event → Bool
holds s now event.Listen = false
holds s now (event.Open iss) = false
holds s now (event.Arrives segment options fresh) = is_held s now segment.now
holds s now event.Close = false
holds s now event.Abort = false
holds s now event.Tick = false

-- until when the next one is held back after an event
abbrev pub quiet_by : Event → Socket → ℕ → Bool → ℕ
quiet_by event.Listen s now answers = s.quiet_until
quiet_by (event.Open iss) s now answers = s.quiet_until
quiet_by (event.Arrives segment options fresh) s now answers = quiet_after s now segment.now answers
quiet_by event.Close s now answers = s.quiet_until
quiet_by event.Abort s now answers = s.quiet_until
quiet_by event.Tick s now answers = s.quiet_until
