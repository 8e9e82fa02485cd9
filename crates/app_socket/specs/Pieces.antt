-- What is sent, and when it is worth a segment.
-- Pinned by: `socket/scenarios`
use Rattle.std.specs.Prelude.{ℕ, ◌+◌, ◌*◌, ◌≤◌, ◌<◌, ◌==◌, ◌&&◌, ◌||◌, Bool, not, nat_lt}
use Rattle.tcp_stream.specs.Endpoint.{distance}
use Rattle.app_socket.specs.Window.{limit_of}
use Rattle.app_socket.specs.declared.flow.Queue.{Queue}
use Rattle.app_socket.specs.declared.flow.Piece.{Piece}

-- Whether so many new items of those that are available are worth a segment: a full one (RFC 9293, section 3.8.6.2.1); all of
-- them, if Nagle's algorithm (section 3.7.4) does not wait for an acknowledgement or a FIN ends them; or half the largest
-- window.
abbrev pub is_worth : Queue → ℕ → ℕ → ℕ → Bool
is_worth q count available max_window =
    count == q.mss ||
    ((count == available && (q.is_eager || (q.flight == 0 || q.has_fin))) || not (nat_lt (2 * count) max_window))

-- A piece has items, at most as many as fit a segment, and ends where it may with these windows.
pub record IsWithin (p : Piece) (window cwnd : ℕ) : Type 0 where
  pub some : 0 < p.count
  pub few : p.count < 65536
  pub end : p.offset + p.count ≤ limit_of window cwnd
  pub small : cwnd ≤ 1073741824

-- A SACK block from `left` to `right` (RFC 2018, section 3) tells that the peer has item n of those in flight after SND.UNA.
-- The right edge is at most SND.NXT.
pub record IsSacked (una flight left right n : ℕ) : Type 0 where
  pub after : distance left una ≤ n
  pub before : n < distance right una
  pub sent : distance right una ≤ flight
