-- The congestion window (RFC 5681) with NewReno (RFC 6582) and limited transmit (RFC 3042): what each event makes of it, in
-- bytes.
-- Pinned by: `congestion/windows`
use Rattle.std.specs.Prelude.{ℕ, ◌+◌, ◌-◌, ◌*◌, ◌/◌, ◌==◌, ◌&&◌, Bool, true, false, not, nat_le, nat_lt, if◌then◌else◌, min, max}
use Rattle.tcp_stream.specs.Endpoint.{is_earlier}
use Rattle.app_congestion.specs.declared.congestion.Congestion.{Congestion}
use Rattle.app_congestion.specs.declared.phase.Phase.{Phase}
use Rattle.app_congestion.specs.declared.phase.Phase.TheVariants.{Open, Recovery, Recovered}

-- A sender: SMSS, cwnd, ssthresh, the bytes acknowledged since cwnd grew, the duplicate acknowledgements, FlightSize at the
-- first of them, fast recovery and `recover`, and whether the timer has sent the first segment again. `recover` is one more
-- than in RFC 6582: a next number. cwnd includes the segments that limited transmit allows, until new data is acknowledged.
pub record Sender : Type 0 where
  pub mss : ℕ
  pub cwnd : ℕ
  pub ssthresh : ℕ
  pub acked : ℕ
  pub duplicates : ℕ
  pub first_flight : ℕ
  pub phase : Phase
  pub is_resent : Bool

-- the sender that the state stands for
abbrev pub sender_of : Congestion → Sender
sender_of c = record { mss = c.mss; cwnd = c.cwnd; ssthresh = c.ssthresh; acked = c.acked; duplicates = c.duplicates; first_flight = c.first_flight; phase = c.phase; is_resent = c.is_resent }

-- at most the largest window
abbrev pub capped : ℕ → ℕ
capped n = min 1073741824 n

-- the initial window (RFC 6928, section 2)
abbrev pub initial_window : ℕ → ℕ
initial_window mss = min (10 * mss) (max (2 * mss) 14600)

-- a sender that begins (RFC 5681, section 3.1)
abbrev pub begins : ℕ → Sender
begins mss = record { mss = mss; cwnd = initial_window mss; ssthresh = 1073741824; acked = 0; duplicates = 0; first_flight = 0; phase = Open; is_resent = false }

-- ssthresh after a loss (RFC 5681, section 3.1, equation 4)
abbrev pub halved : Sender → ℕ → ℕ
halved s flight = capped (max (flight / 2) (2 * s.mss))

-- The limit L of what slow start adds for an acknowledgement (RFC 3465, section 2.3): two segments before the first loss, and then
-- one, since in slow start after a time-out an acknowledgement may be of much that left the network long ago.
abbrev pub limit_of : Sender → ℕ
limit_of s = if s.ssthresh == 1073741824 then 2 * s.mss else s.mss

-- slow start (RFC 3465, section 2.2), by the bytes that are acknowledged
abbrev pub slow_start : Sender → ℕ → Sender
slow_start s newly = record s { acked = 0; cwnd = capped (s.cwnd + min newly (limit_of s)) }

-- congestion avoidance (RFC 5681, section 3.1): when as many bytes as cwnd are acknowledged, it grows
abbrev pub avoidance : Sender → ℕ → Sender
avoidance s newly =
    if nat_lt (s.acked + newly) s.cwnd
    then record s { acked = s.acked + newly }
    else record s { acked = 0; cwnd = capped (s.cwnd + s.mss) }

-- Whether cwnd is validated (RFC 7661, section 4.3): at least half of it was in flight before an acknowledgement of `newly` bytes,
-- after which `flight` bytes are.
abbrev pub is_validated : Sender → ℕ → ℕ → Bool
is_validated s newly flight = nat_le s.cwnd (2 * (flight + newly))

-- New data is acknowledged outside fast recovery. A cwnd that is not validated must not grow (RFC 7661, section 4.4), and the bytes
-- that were counted for it are forgotten.
abbrev pub grown : Sender → ℕ → ℕ → Sender
grown s newly flight =
    if not (is_validated s newly flight)
    then record s { acked = 0 }
    else if nat_lt s.cwnd s.ssthresh
    then slow_start s newly
    else avoidance s newly

-- whether more than `recover` is acknowledged; there is no `recover` before the first loss
abbrev pub is_past : Phase → ℕ → Bool
is_past Open una = true
is_past (Recovery recover) una = is_earlier recover una
is_past (Recovered recover) una = is_earlier recover una

-- the phase outside fast recovery
abbrev pub outside_of : ℕ → ℕ → Phase
outside_of recover una = if is_earlier recover una then Open else Recovered recover

-- a partial acknowledgement (RFC 6582, section 3.2, step 3): cwnd is deflated, and at least a segment
abbrev pub partial : Sender → ℕ → Sender
partial s newly = record s { acked = 0; cwnd = max s.mss (capped (s.cwnd - newly + (if nat_lt newly s.mss then 0 else s.mss))) }

-- a full acknowledgement (RFC 6582, section 3.2, step 3, option 1)
abbrev pub full : Sender → ℕ → ℕ → ℕ → Sender
full s flight recover una = record s { acked = 0; cwnd = min s.ssthresh (max flight s.mss + s.mss); phase = outside_of recover una }

-- new data is acknowledged, in a phase
abbrev pub acknowledged_in : Phase → Sender → ℕ → ℕ → ℕ → Sender
acknowledged_in Open s newly flight una = grown s newly flight
acknowledged_in (Recovered recover) s newly flight una = grown (record s { phase = outside_of recover una }) newly flight
acknowledged_in (Recovery recover) s newly flight una = if is_earlier una recover then partial s newly else full s flight recover una

-- whether the sender is in fast recovery
abbrev pub is_in_recovery : Phase → Bool
is_in_recovery Open = false
is_in_recovery (Recovered recover) = false
is_in_recovery (Recovery recover) = true

-- the segments that limited transmit allows: one for each of the first two duplicate acknowledgements (RFC 3042, section 2)
abbrev pub limited : Sender → ℕ
limited s = min 2 s.duplicates * s.mss

-- cwnd without them, and at least a segment: cwnd must not be changed when they are sent (RFC 3042, section 2)
abbrev pub unchanged : Sender → ℕ
unchanged s = max s.mss (s.cwnd - limited s)

-- New data is acknowledged: no duplicate acknowledgements any more. In fast recovery cwnd was set anew.
abbrev pub heard : Sender → Sender
heard s = record s { cwnd = if is_in_recovery s.phase then s.cwnd else unchanged s; duplicates = 0; is_resent = false }

-- an acknowledgement of `newly` bytes, after which `flight` bytes are in flight (FlightSize) from `una` on
abbrev pub acknowledged : Sender → ℕ → ℕ → ℕ → Sender
acknowledged s newly flight una =
    if newly == 0
    then s
    else acknowledged_in s.phase (heard s) newly flight una

-- whether it is a partial acknowledgement
abbrev pub is_partial : Phase → ℕ → Bool
is_partial Open una = false
is_partial (Recovered recover) una = false
is_partial (Recovery recover) una = is_earlier una recover

-- fast retransmit (RFC 5681, section 3.2, steps 2 and 3), and `recover` (RFC 6582, section 3.2, step 2)
abbrev pub fast_retransmit : Sender → ℕ → ℕ → Sender
fast_retransmit s flight next = record s { ssthresh = halved s flight; cwnd = capped (halved s flight + 3 * s.mss); acked = 0; phase = Recovery next }

-- whether this duplicate acknowledgement is the third one, of more than `recover` (RFC 6582, section 3.2, step 2)
abbrev pub is_third : Sender → ℕ → Bool
is_third s una = s.duplicates == 2 && is_past s.phase una

-- limited transmit (RFC 5681, section 3.2, step 1; RFC 3042, section 2): FlightSize may be a segment more
abbrev pub limited_transmit : Sender → ℕ → Sender
limited_transmit s flight =
    record s { cwnd = capped (s.cwnd + s.mss); duplicates = s.duplicates + 1; first_flight = if s.duplicates == 0 then flight else s.first_flight }

-- the third duplicate acknowledgement: what limited transmit sent does not count for ssthresh (RFC 5681, section 3.2, step 2)
abbrev pub third : Sender → ℕ → ℕ → Sender
third s flight next = fast_retransmit (record s { duplicates = 3 }) (min s.first_flight flight) next

-- a duplicate acknowledgement; in fast recovery (RFC 5681, section 3.2, step 4) it inflates cwnd
abbrev pub duplicated : Sender → ℕ → ℕ → ℕ → Sender
duplicated s flight una next =
    if is_in_recovery s.phase
    then record s { cwnd = capped (s.cwnd + s.mss) }
    else if nat_lt s.duplicates 2
    then limited_transmit s flight
    else if is_third s una
    then third s flight next
    else record s { duplicates = min 255 (s.duplicates + 1) }

-- what counts as in flight at most: in fast recovery cwnd is inflated
abbrev pub allowed : Sender → ℕ
allowed s = if is_in_recovery s.phase then s.ssthresh else unchanged s

-- A loss probe repaired a loss (RFC 8985, section 7.4): fast recovery begins. In fast recovery the segment that was sent again
-- was lost, so ssthresh is halved again (RFC 5681, section 4.3).
abbrev pub probed : Sender → ℕ → ℕ → Sender
probed s flight next =
    record s { ssthresh = halved s (min (allowed s) flight); cwnd = halved s (min (allowed s) flight); acked = 0; duplicates = 0; phase = Recovery next }

-- the retransmission timer expires (RFC 5681, section 3.1, equation 4; RFC 6582, section 3.2, step 4)
abbrev pub timed_out : Sender → ℕ → ℕ → Sender
timed_out s flight next =
    record s { ssthresh = if s.is_resent then s.ssthresh else halved s flight; cwnd = s.mss; acked = 0; duplicates = 0; phase = Recovered next; is_resent = true }

-- the connection was idle (RFC 5681, section 4.1)
abbrev pub restarted : Sender → Sender
restarted s = record s { cwnd = min (initial_window s.mss) s.cwnd; acked = 0 }

-- What was done for a loss was not needed: cwnd and ssthresh are these again, as before it. RFC 4015, section 3.4, allows a cwnd
-- of what is in flight and an initial window at most. The next loss begins fast recovery or slow start.
abbrev pub undone : Sender → ℕ → ℕ → Sender
undone s cwnd ssthresh = record s {
  cwnd = capped (max cwnd s.mss);
  ssthresh = capped (max ssthresh (2 * s.mss));
  acked = 0;
  duplicates = 0;
  phase = Open;
  is_resent = false;
}
