-- What comes and goes in a header: options, windows, and the items of a segment.
-- Pinned by: `socket/scenarios`, `socket/options`
use Rattle.std.specs.Prelude.{ℕ, ◌≡◌, ◌⊎◌, ◌==◌, ◌&&◌, List, [], ◌∷◌, length, replicate, Bool, false, not, nat_lt, is_some, if◌then◌else◌, min, max, Option, None, Some}
use Rattle.tcp_stream.specs.Network.{World}
use Rattle.tcp_stream.specs.Endpoint.{distance}
use Rattle.tcp_stream.specs.Items.{items_of}
use Rattle.tcp_stream.specs.Ranges.{block_of, blocks_of, is_none, order_of}
use Rattle.tcp_stream.specs.Waits.{IsSend}
use Rattle.tcp_stream.specs.declared.receiving.Receiving.{Receiving}
use Rattle.app_congestion.specs.Congestion.{sender_of}
use Rattle.app_congestion.specs.Scoreboard.{has}
use Rattle.wire_tcp_options.specs.declared.tcp.summary.TcpOptionSummary.{TcpOptionSummary}
use Rattle.wire_tcp_options.specs.TcpSummary.{summary_of}
use Rattle.app_connection.specs.declared.connection.Connection.{Connection}
use Rattle.app_connection.specs.declared.segment.Segment.{Segment}
use Rattle.app_connection.specs.States.{state_from}
use Rattle.app_connection.specs.declared.step.Event.{Event as Move}
use Rattle.app_connection.specs.declared.step.Event.TheVariants as move
use Rattle.app_options.specs.Options.{of_syn, of_segment, text_limit, window_out}
use Rattle.app_options.specs.Timestamps.{is_old, takes, updated}
use Rattle.app_options.specs.declared.timestamps.Recent.{Recent}
use Rattle.app_socket.specs.declared.flow.Flow.{Flow}
use Rattle.app_socket.specs.declared.socket.Socket.{Socket}
use Rattle.app_socket.specs.declared.socket.Header.{Header}
use Rattle.app_socket.specs.declared.step.Event.{Event}
use Rattle.app_socket.specs.declared.step.Event.TheVariants as event
use Rattle.app_socket.specs.Times.{is_open, mss_of}

-- Whether a segment is rejected by its timestamp (RFC 7323, sections 3.2 and 5.3), at this time: in a synchronized state, if
-- timestamps are agreed on, one without RST that has none, or one before TS.Recent.
abbrev pub rejects : Socket → ℕ → Segment → TcpOptionSummary → Bool
rejects s now segment options =
    is_open (state_from s.connection) && (not segment.rst && not (takes s.agreed.recent options.timestamp now))

-- whether an event is such a segment
abbrev pub is_stale : Socket → ℕ → Event → Bool
is_stale s now event.Listen = false
is_stale s now (event.Open iss) = false
is_stale s now (event.Arrives segment options fresh) = rejects s now segment.now options.now
is_stale s now event.Close = false
is_stale s now event.Abort = false
is_stale s now event.Tick = false

-- What the connection meets: for a segment that is rejected by its timestamp time passes.
abbrev pub taken_of : Socket → ℕ → Event → Move
taken_of s now event.Listen = move.Listen
taken_of s now (event.Open iss) = move.Open iss
taken_of s now (event.Arrives segment options fresh) =
    if rejects s now segment.now options.now then move.Send 0 0 else move.Arrives segment fresh
taken_of s now event.Close = move.Close
taken_of s now event.Abort = move.Abort
taken_of s now event.Tick = move.Send 0 0

-- whether an event is a segment with a timestamp
abbrev pub has_timestamp : Event → Bool
has_timestamp event.Listen = false
has_timestamp (event.Open iss) = false
has_timestamp (event.Arrives segment options fresh) = is_some options.now.timestamp
has_timestamp event.Close = false
has_timestamp event.Abort = false
has_timestamp event.Tick = false

-- TS.Recent stays, or becomes a timestamp that is not old (RFC 7323, section 5). Timestamps stay agreed on.
abbrev pub GoesForward : Option Recent → Option Recent → ℕ → Type 0
GoesForward None new now = new ≡ None
GoesForward (Some old) None now = ⊥
GoesForward (Some old) (Some new) now = (new ≡ old) ⊎ (is_old old new.value now ≡ false)

-- TS.Recent stays, or becomes this timestamp (RFC 7323, section 4.3).
abbrev pub StaysOrUpdates : Option Recent → Option Recent → Option (ℕ × ℕ) → ℕ → Type 0
StaysOrUpdates old new timestamp now = (new ≡ old) ⊎ (new ≡ updated old timestamp now)

-- The items of a segment are what the event Send puts on the network, from an item after SND.UNA on.
pub record IsSent (w : World) (s : Segment) : Type 0 where
  pub offset : ℕ
  pub send : IsSend w offset s.number (items_of s.syn s.payload.now s.fin)

-- whether SND.UNA =< number < SND.NXT: a segment with this number is in flight (RFC 5927, section 4.1)
abbrev pub is_in_flight : Connection → ℕ → Bool
is_in_flight c number = nat_lt (distance number c.sending.una) c.sending.flight

-- whether a path that takes segments of `mss` bytes is narrower than known, by an error about a segment with this number
abbrev pub is_narrower : Socket → ℕ → ℕ → Bool
is_narrower s number mss = is_in_flight s.connection number && nat_lt mss s.limit

-- the most text in the next segment
abbrev pub text_of : Socket → ℕ
text_of s = text_limit s.agreed s.limit (not (is_none s.connection.receiving.ranges))

-- The largest segment is at most this one. The largest segment of congestion control (SMSS) is at most the text that fits in it
-- (RFC 9293, section 3.7.5).
pub record Lowers (old new : Socket) (mss : ℕ) : Type 0 where
  pub limit : new.limit ≡ min mss old.limit
  pub smss :
      sender_of new.flow.congestion
      ≡ record (sender_of old.flow.congestion) { mss = min (max 1 (text_of new)) old.flow.congestion.mss }

-- All that is in flight goes again from the first item on, and what the peer had after a gap is forgotten.
pub record GoesAgain (old new : Flow) : Type 0 where
  pub same :
      new
      ≡ record old { congestion = new.congestion; cursor = 0; resend = false; rescued = 0; scoreboard = new.scoreboard }
  pub known : (n : ℕ) → has new.scoreboard n ≡ false

-- The SACK blocks that a segment with this text tells: all, or the first one if it has text (RFC 2018, section 4).
abbrev pub kept_of : Receiving → List ℕ → List (Option (ℕ × ℕ))
kept_of r text =
    if is_none r.ranges
    then replicate 4 None
    else
    (if length text == 0
    then blocks_of r.ranges r.next r.newest
    else (block_of r.next (order_of r.ranges r.newest).0 ∷ replicate 3 None))

-- The options of a segment: those of a SYN, none of an RST, or the others (RFC 7323, section 3.2).
abbrev pub options_of : Socket → Segment → ℕ → ℕ → TcpOptionSummary
options_of s segment incoming now =
    if segment.syn
    then of_syn s.agreed (mss_of s.options) incoming now (is_some segment.ack)
    else
    (if segment.rst
    then summary_of []
    else of_segment s.agreed (kept_of s.connection.receiving segment.payload.now) now)

-- The header of a segment: the window of a SYN is not scaled (RFC 7323, section 2.2).
abbrev pub header_of : Socket → Segment → ℕ → ℕ → Header
header_of s segment incoming now = record {
  window = if segment.syn then min 65535 segment.window else window_out s.agreed segment.window incoming;
  options = options_of s segment incoming now;
}
