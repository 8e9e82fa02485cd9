-- Many rounds of two sockets, one after the other.
-- Pinned by: `socket/scenarios`
use Rattle.std.specs.Prelude.{ℕ, ◌≡◌, ◌+◌, ◌≤◌, ◌<◌, List, [], ◌∷◌, length, true, false, min, Option, is_some}
use Rattle.app_connection.specs.Arrived.{HasCome}
use Rattle.app_connection.specs.States.{state_from}
use Rattle.app_options.specs.declared.timestamps.Recent.{Recent}
use Rattle.app_options.specs.Timestamps.{takes, updated}
use Rattle.app_socket.specs.declared.laws.pair.Exchange.{Exchange}
use Rattle.app_socket.specs.declared.socket.Socket.{Socket}
use Rattle.app_socket.specs.Pair.{Past, end_at}
use Rattle.app_socket.specs.Runs.{Runs, end_of}
use Rattle.app_socket.specs.Times.{is_open, later, resend_or_probe}
use Rattle.tcp_stream.specs.Waits.{count_of}

-- A round whose calls come in time. The timer of the end that sends expires by `by`, and silence ends its connection at `end`. The
-- other end calls 40 ms after the segment came, or later, and before silence ends its connection: at `until`, or 5 minutes after
-- the segment.
pub record IsInTime (by end until : ℕ) (r : Exchange) : Type 0 where
  pub first : by ≤ r.first
  pub minute : r.first + 60000 ≤ r.second
  pub patient : r.second < end
  pub soon : r.arrives + 40 ≤ r.calls
  pub called : r.calls < min until (later r.arrives 300000)

-- Such rounds, one after the other. Each acknowledgement starts the timer anew for a minute at most (RFC 6298, section 2.5), and it
-- and each segment put the end by silence off to 5 minutes later (RFC 9293, section 3.8.3).
abbrev pub AreInTime : ℕ → ℕ → ℕ → List Exchange → Type 0
AreInTime by end until [] = Unit {0}
AreInTime by end until (r ∷ rs) = IsInTime by end until r × AreInTime (r.answered + 60000) (later r.answered 300000) (later r.arrives 300000) rs

-- the first segment comes 5 minutes before this time, or earlier
abbrev pub ComesBefore : ℕ → List Exchange → Type 0
ComesBefore end [] = Unit {0}
ComesBefore end (r ∷ rs) = later r.arrives 300000 ≤ end

-- PAWS takes the segments of these rounds at the other end, whichever of them become TS.Recent.
abbrev pub TakesTexts : Option Recent → List Exchange → Type 0
TakesTexts recent [] = Unit {0}
TakesTexts recent (r ∷ rs) =
    (takes recent r.text.options.timestamp r.arrives ≡ true)
    × (TakesTexts recent rs × TakesTexts (updated recent r.text.options.timestamp r.arrives) rs)

-- the same of the acknowledgements
abbrev pub TakesAnswers : Option Recent → List Exchange → Type 0
TakesAnswers recent [] = Unit {0}
TakesAnswers recent (r ∷ rs) =
    (takes recent r.answer.options.timestamp r.answered ≡ true)
    × (TakesAnswers recent rs × TakesAnswers (updated recent r.answer.options.timestamp r.answered) rs)

-- Both sockets are open. The SYN of the first one is acknowledged, and its timer runs. The other program has not closed, all that
-- it wrote is acknowledged, and its ring, of this size, is longer than what was written and it did not read.
pub record MayExchange (here there : Socket) (size : ℕ) (h t : Past) (rounds : List Exchange) : Type 0 where
  pub opened : is_open (state_from here.connection) ≡ true
  pub synced : here.connection.receiving.is_open ≡ true
  pub runs : is_some here.timers.resend_at ≡ true
  pub syn : here.connection.sending.has_syn ≡ false
  pub opened_there : is_open (state_from there.connection) ≡ true
  pub synced_there : there.connection.receiving.is_open ≡ true
  pub idle : count_of there.connection.sending ≡ 0
  pub writes : there.connection.sending.is_closed ≡ false
  pub room : length h.wrote < length t.read + size
  pub in_time : AreInTime (resend_or_probe here.timers.resend_at here.timers.probe_at) here.timers.ends_at there.timers.ends_at rounds
  pub patient : ComesBefore there.timers.ends_at rounds
  pub texts : TakesTexts there.agreed.recent rounds
  pub answers : TakesAnswers here.agreed.recent rounds

-- There is a run of both ends, in which the programs wrote and read nothing more. Nothing waits, and all that the first one wrote
-- has come to the other one, and its end too.
pub record AllCame (here there : Socket) (outgoing incoming answers text : List ℕ) (h t : Past) : Type 0 where
  pub past : Past
  pub past_there : Past
  pub runs : Runs (record { here = end_at here outgoing incoming past; there = end_at there answers text past_there })
  pub wrote : past.wrote ≡ h.wrote
  pub read : past.read ≡ h.read
  pub wrote_there : past_there.wrote ≡ t.wrote
  pub read_there : past_there.read ≡ t.read
  pub none : count_of here.connection.sending ≡ 0
  pub come : HasCome (end_of (end_at here outgoing incoming past)) (end_of (end_at there answers text past_there))
