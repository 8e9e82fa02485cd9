-- What the laws of losses say of a call.
-- Pinned by: `socket/scenarios`
use Rattle.std.specs.Prelude.{ℕ, ◌≡◌, ◌<◌, ◌||◌, true, false, Option, MatchOption}
use Rattle.app_congestion.specs.Scoreboard.{has, is_within}
use Rattle.app_congestion.specs.declared.scoreboard.Scoreboard.{Scoreboard}
use Rattle.app_connection.specs.declared.segment.Segment.{Segment}
use Rattle.app_connection.specs.Endpoints.{len_of}
use Rattle.app_connection.specs.States.{state_from}
use Rattle.app_socket.specs.declared.socket.Socket.{Socket}
use Rattle.app_socket.specs.Resends.{is_due}
use Rattle.app_socket.specs.Times.{is_open}
use Rattle.tcp_stream.specs.Waits.{count_of}

-- The program of a socket calls at this time, before the timer expires. The connection is open, something waits, and silence does
-- not end it.
pub record IsEarly (s : Socket) (now : ℕ) : Type 0 where
  pub opened : is_open (state_from s.connection) ≡ true
  pub waits : 0 < count_of s.connection.sending
  pub patient : now < s.timers.ends_at
  pub rests : is_due s.timers.resend_at now ≡ false
  pub clock : now < 9223372036854775808

-- a segment with items goes at this number
abbrev pub GoesAt : Option Segment → ℕ → Type 0
GoesAt given number = MatchOption given ⊥ (λ s. (s.number ≡ number) × (0 < len_of s))

-- The peer has the items of two blocks after gaps, counted from SND.UNA on, and no other ones.
pub record HasTwoBlocks (s : Scoreboard) (a b c d : ℕ) : Type 0 where
  pub first : a < b
  pub apart : b < c
  pub second : c < d
  pub known : (n : ℕ) → has s n ≡ (is_within a b n || is_within c d n)
