-- A retransmission that was not needed (RFC 3522, RFC 4015).
-- Pinned by: `socket/scenarios`
use Rattle.std.specs.Prelude.{ℕ, ◌≡◌, ◌==◌, ◌-◌, Bool, false, nat_lt, if◌then◌else◌, Option, Some, None}
use Rattle.app_options.specs.Timestamps.{round_trip}
use Rattle.app_congestion.specs.Congestion.{Sender, acknowledged, sender_of, undone, unchanged}
use Rattle.app_socket.specs.declared.flow.Flow.{Flow}
use Rattle.app_socket.specs.declared.socket.Socket.{Socket}
use Rattle.app_socket.specs.declared.undo.Undo.{Undo}

-- Whether an acknowledgement echoes a timestamp from before a time: its round trip began before that (RFC 3522, section 3.2).
abbrev pub is_echo_before : ℕ → Option ℕ → ℕ → Bool
is_echo_before time None now = false
is_echo_before time (Some rtt) now = nat_lt (now - rtt) time

-- the round trip of an echo, if it began after the timer expired
abbrev pub since_expired : ℕ → Option ℕ → ℕ → Option ℕ
since_expired expired_at round_trip now = if is_echo_before expired_at round_trip now then None else round_trip

-- Whether an acknowledgement shows that a retransmission was not needed: it is the first one after that, and echoes a timestamp
-- from before the first segment went again (RFC 3522, section 3.2).
abbrev pub is_spurious : Flow → Option ℕ → ℕ → Bool
is_spurious f round_trip now = is_echo_before f.undo.sent_at round_trip now

-- the same by the timestamp of a segment, which tells the round trip (RFC 7323, section 4.1)
abbrev pub is_needless : Socket → Option (ℕ × ℕ) → ℕ → Bool
is_needless s timestamp now = is_spurious s.flow (round_trip s.agreed.recent s.agreed.offset timestamp now) now

-- What is kept when a segment goes again, if none did since the last acknowledgement: the time, cwnd without what limited transmit
-- allows, and ssthresh (RFC 3522, section 3.2; RFC 4015, section 3.2).
abbrev pub saved : Flow → ℕ → Undo
saved f now =
    if f.undo.sent_at == 0
    then record { sent_at = now; cwnd = unchanged (sender_of f.congestion); ssthresh = f.congestion.ssthresh }
    else f.undo

-- Nothing was lost: cwnd and ssthresh are as before the retransmission, and all in flight counts as sent once.
pub record IsUndone (old new : Flow) (flight : ℕ) : Type 0 where
  pub sender : sender_of new.congestion ≡ undone (sender_of old.congestion) old.undo.cwnd old.undo.ssthresh
  pub cursor : new.cursor ≡ flight
  pub resend : new.resend ≡ false
  pub probe : new.has_probe ≡ false

-- An acknowledgement of `newly` items shows that nothing was lost: cwnd and ssthresh are those of a sender before the
-- retransmission (RFC 4015), and cwnd grows by it. All of what is in flight from `una` on counts as sent once, and the first
-- segment does not go again (section 3.3).
pub record UndoesTo (before : Sender) (new : Flow) (newly flight una : ℕ) : Type 0 where
  pub sender : sender_of new.congestion ≡ acknowledged (undone before (unchanged before) before.ssthresh) newly flight una
  pub cursor : new.cursor ≡ flight
  pub resend : new.resend ≡ false

-- the same by what was kept of that sender
pub record Undoes (old new : Flow) (newly flight una : ℕ) : Type 0 where
  pub sender :
      sender_of new.congestion
      ≡ acknowledged (undone (sender_of old.congestion) old.undo.cwnd old.undo.ssthresh) newly flight una
  pub cursor : new.cursor ≡ flight
  pub resend : new.resend ≡ false
