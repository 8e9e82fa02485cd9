-- The timers, in milliseconds.
-- Pinned by: `socket/scenarios`
use Rattle.std.specs.Prelude.{ℕ, ◌+◌, ◌*◌, ◌==◌, Bool, true, false, min, if◌then◌else◌, Option, Some, None}
use Rattle.app_connection.specs.declared.state.State.{State}
use Rattle.app_connection.specs.declared.state.State.TheVariants.{Closed, Listen, SynSent, SynReceived, Established, FinWait1, FinWait2, CloseWait, Closing, LastAck, TimeWait}
use Rattle.app_socket.specs.declared.options.Options.{Options}
use Rattle.app_socket.specs.declared.timers.Timers.{Timers}

-- a time later, at most the last one
abbrev pub later : ℕ → ℕ → ℕ
later now ms = min (now + ms) 18446744073709551615

-- the earlier one of a time that may be none, and another one
abbrev pub earlier : Option ℕ → ℕ → ℕ
earlier None other = other
earlier (Some time) other = min time other

-- whether the connection is set up (section 3.3.2: the synchronized states)
abbrev pub is_open : State → Bool
is_open Closed = false
is_open Listen = false
is_open SynSent = false
is_open SynReceived = false
is_open Established = true
is_open FinWait1 = true
is_open FinWait2 = true
is_open CloseWait = true
is_open Closing = true
is_open LastAck = true
is_open TimeWait = true

-- the retransmission timer, or if it is off the one of the keep-alive probes
abbrev pub resend_or_probe : Option ℕ → ℕ → ℕ
resend_or_probe None probe = probe
resend_or_probe (Some resend) probe = resend

-- when an open connection has something to do
abbrev pub first_of : Timers → ℕ
first_of t = earlier t.ack_at (min (resend_or_probe t.resend_at t.probe_at) t.ends_at)

-- when a connection that is set up has something to do
abbrev pub first_in_set_up : Timers → ℕ
first_in_set_up t = earlier t.resend_at t.ends_at

-- when it has in TIME-WAIT, where the peer is not probed
abbrev pub first_in_time_wait : Timers → ℕ
first_in_time_wait t = earlier t.ack_at (first_in_set_up t)

-- when a connection has something to do if nothing happens before
abbrev pub due_in : State → Timers → Option ℕ
due_in Closed t = None
due_in Listen t = None
due_in SynSent t = Some (first_in_set_up t)
due_in SynReceived t = Some (first_in_set_up t)
due_in Established t = Some (first_of t)
due_in FinWait1 t = Some (first_of t)
due_in FinWait2 t = Some (first_of t)
due_in CloseWait t = Some (first_of t)
due_in Closing t = Some (first_of t)
due_in LastAck t = Some (first_of t)
due_in TimeWait t = Some (first_in_time_wait t)

-- the idle time until a keep-alive probe (RFC 1122, section 4.2.3.6: by default two hours)
abbrev pub idle_of : Options → ℕ
idle_of o = (if o.keep_alive == 0 then 7200 else o.keep_alive) * 1000

-- how long the peer may be silent: after the idle time nine probes, 75 s apart
abbrev pub patience_of : Options → ℕ
patience_of o = idle_of o + 675000

-- the most bytes of text in a segment (RFC 9293, section 3.7.1: by default 536)
abbrev pub mss_of : Options → ℕ
mss_of o = if o.mss == 0 then 536 else o.mss
