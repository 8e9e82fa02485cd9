-- A round of two sockets: the segment at SND.UNA of one comes to the other one, and the acknowledgement of it comes back. Before
-- and after it there is a run of both.
-- Pinned by: `socket/scenarios`
use Rattle.std.specs.Prelude.{ℕ, ◌≡◌, ◌+◌, ◌≤◌, ◌<◌, ◌||◌, List, length, Bool, true, false, min, Option}
use Rattle.app_connection.specs.Runs.{Sent, with_returned}
use Rattle.app_connection.specs.States.{has_peer, state_from}
use Rattle.app_connection.specs.Worlds.{Said}
use Rattle.app_options.specs.Timestamps.{takes}
use Rattle.app_socket.specs.declared.laws.pair.Exchange.{Exchange}
use Rattle.app_socket.specs.declared.socket.Socket.{Socket}
use Rattle.app_socket.specs.Rounds.{IsWaiting}
use Rattle.app_socket.specs.Runs.{End, Runs}
use Rattle.app_socket.specs.Segments.{StaysOrUpdates}
use Rattle.app_socket.specs.Times.{is_open, later}
use Rattle.tcp_stream.specs.Waits.{count_of}

-- the past of an end: whether it was ever opened, what its application wrote and read, and all segments that its calls returned
pub record Past : Type 0 where
  pub was_opened : Bool
  pub wrote : List ℕ
  pub read : List ℕ
  pub sent : List Sent

-- an end with this socket, these rings and this past
abbrev pub end_at : Socket → List ℕ → List ℕ → Past → End
end_at s outgoing incoming h = record { socket = s; outgoing = outgoing; incoming = incoming; was_opened = h.was_opened; wrote = h.wrote; read = h.read; sent = h.sent }

-- the past after a call of an end beside another one
abbrev pub past_after : Past → End → Socket → Option Said → Past
past_after h b new result = record h { was_opened = h.was_opened || has_peer (state_from new.connection); sent = with_returned result (length h.wrote) (length b.wrote) h.sent }

-- The socket is open and its SYN is acknowledged. Something waits, the timer expires by the first call, the second one comes a
-- minute later, and silence has not ended the connection. PAWS takes the acknowledgement.
pub record MaySend (s : Socket) (r : Exchange) : Type 0 where
  pub waiting : IsWaiting s r.first (r.second + 1)
  pub minute : r.first + 60000 ≤ r.second
  pub some : 0 < count_of s.connection.sending
  pub syn : s.connection.sending.has_syn ≡ false
  pub taken : takes s.agreed.recent r.answer.options.timestamp r.answered ≡ true

-- The socket is open and has room in its ring, of this size. Its program has not closed, and all that it wrote is acknowledged. It
-- calls 40 ms after the segment came, or later, and before silence ends the connection. PAWS takes the segment.
pub record MayAnswer (s : Socket) (size : ℕ) (r : Exchange) : Type 0 where
  pub opened : is_open (state_from s.connection) ≡ true
  pub synced : s.connection.receiving.is_open ≡ true
  pub room : s.connection.receiving.len < size
  pub idle : count_of s.connection.sending ≡ 0
  pub writes : s.connection.sending.is_closed ≡ false
  pub soon : r.arrives + 40 ≤ r.calls
  pub patient : r.calls < min s.timers.ends_at (later r.arrives 300000)
  pub taken : takes s.agreed.recent r.text.options.timestamp r.arrives ≡ true

-- After a round there is a run of both ends, in which the programs wrote and read nothing more. Fewer items of the first one wait.
-- If some do, its timer runs again, and the end by silence is put off. SND.UNA is then RCV.NXT of the other one, which is as before.
-- If that was so before, the round puts off the end of the other one too. `old` and `was` are both before the round.
pub record Exchanged (old here was there : Socket) (outgoing incoming answers text : List ℕ) (h t : Past) (r : Exchange) : Type 0 where
  pub past : Past
  pub past_there : Past
  pub runs : Runs (record { here = end_at here outgoing incoming past; there = end_at there answers text past_there })
  pub wrote : past.wrote ≡ h.wrote
  pub read : past.read ≡ h.read
  pub wrote_there : past_there.wrote ≡ t.wrote
  pub read_there : past_there.read ≡ t.read
  pub less : count_of here.connection.sending < count_of old.connection.sending
  pub was_opened : past.was_opened ≡ true
  pub waiting : 0 < count_of here.connection.sending → IsWaiting here (r.answered + 60000) (later r.answered 300000)
  pub syn : 0 < count_of here.connection.sending → here.connection.sending.has_syn ≡ false
  pub level : 0 < count_of here.connection.sending → here.connection.sending.una ≡ there.connection.receiving.next
  pub recent : StaysOrUpdates old.agreed.recent here.agreed.recent r.answer.options.timestamp r.answered
  pub opened : is_open (state_from there.connection) ≡ true
  pub synced : there.connection.receiving.is_open ≡ true
  pub idle : count_of there.connection.sending ≡ 0
  pub writes : there.connection.sending.is_closed ≡ false
  pub recent_there : StaysOrUpdates was.agreed.recent there.agreed.recent r.text.options.timestamp r.arrives
  pub lasts : min was.timers.ends_at (later r.arrives 300000) ≤ there.timers.ends_at
  pub lives : old.connection.sending.una ≡ was.connection.receiving.next → later r.arrives 300000 ≤ there.timers.ends_at
