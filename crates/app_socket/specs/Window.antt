-- The window that is advertised (RFC 9293, section 3.8.6).
-- Pinned by: `socket/scenarios`
use Rattle.std.specs.Prelude.{ℕ, ◌≡◌, ◌+◌, ◌-◌, ◌*◌, ◌/◌, ◌%◌, ◌^◌, ◌≤◌, ◌&&◌, ◌||◌, Bool, true, min, max, not, nat_lt, if◌then◌else◌}
use Rattle.tcp_stream.specs.Endpoint.{distance, is_ahead}
use Rattle.tcp_stream.specs.Stands.{room_of}
use Rattle.tcp_stream.specs.declared.receiving.Receiving.{Receiving}
use Rattle.app_connection.specs.Endpoints.{edge_of, len_of}
use Rattle.app_connection.specs.declared.segment.Segment.{Segment}

-- how far the window has to open before that is told (section 3.8.6.2.2, with half the buffer)
abbrev pub least_growth : ℕ → ℕ → ℕ
least_growth size mss = max 1 (min (size / 2) mss)

-- what is left of the window that was told
abbrev pub promised : ℕ → ℕ → ℕ
promised edge next = distance edge next

-- Whether what was told is kept to: it is not more than the room, and less than `least` would be won.
abbrev pub is_kept : ℕ → ℕ → ℕ → ℕ → Bool
is_kept edge next room least = not (nat_lt room (promised edge next)) && nat_lt (room - promised edge next) least

-- the window to advertise
abbrev pub advertised : ℕ → ℕ → ℕ → ℕ → ℕ
advertised edge next room least = if is_kept edge next room least then promised edge next else room

-- the right edge after another one was told
abbrev pub moved : ℕ → ℕ → ℕ
moved edge target = if is_ahead edge target then target else edge

-- a window as the peer reads it: windows are scaled by 2^shift (RFC 7323, section 2.3)
abbrev pub read_as : ℕ → ℕ → ℕ
read_as window shift = window / 2 ^ shift * 2 ^ shift

-- Whether the window has to be told again: the peer would read much more of it, and little of it is left, or at most half of what
-- there is room for (RFC 9293, section 3.8.6.2.2).
abbrev pub is_update_due : ℕ → ℕ → ℕ → ℕ → ℕ → Bool
is_update_due edge next room least shift =
    not (nat_lt room (promised edge next)) &&
    (not (nat_lt (room - promised edge next) least) &&
    (not (nat_lt (read_as room shift - read_as (promised edge next) shift) least) &&
    (nat_lt (read_as (promised edge next) shift) least || not (nat_lt (room - promised edge next) (promised edge next)))))

-- The right edge that was told is not after that of the room.
abbrev pub HasRoom : ℕ → Receiving → ℕ → Type 0
HasRoom edge r size = is_ahead edge (edge_of r size) ≡ true

-- A segment acknowledges all that came (RCV.NXT), and tells the window. The right edge that is told last never goes back, and
-- it is that of the segment, unless the room ends before it, as it does after the peer's FIN. Never more is told than there is
-- room for.
pub record Tells (old new : ℕ) (r : Receiving) (size ack window : ℕ) : Type 0 where
  pub next : ack ≡ r.next
  pub forward : is_ahead old new ≡ true
  pub told : HasRoom old r size → new ≡ (ack + window) % 4294967296
  pub room : window ≤ room_of r size
  pub keeps : HasRoom old r size → HasRoom new r size

-- how far after SND.UNA a segment ends
abbrev pub end_after : ℕ → Segment → ℕ
end_after una s = distance ((s.number + len_of s) % 4294967296) una

-- how far after SND.UNA may be sent: as far as both windows allow, or one item to probe
abbrev pub limit_of : ℕ → ℕ → ℕ
limit_of window cwnd = max 1 (min window cwnd)
