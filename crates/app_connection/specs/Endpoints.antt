-- What a connection of the code stands for in the set-up.
-- Pinned by: `connection/figures`
use Rattle.std.specs.Prelude.{ℕ, ◌≡◌, ◌==◌, ◌+◌, ◌-◌, ◌%◌, ◌&&◌, ◌<◌, ◌≤◌, not, Option, Some, None, is_some, length, Bool, true, false, if◌then◌else◌}
use Rattle.tcp_stream.specs.Endpoint.{distance, is_earlier}
use Rattle.tcp_stream.specs.Stands.{reach, room_of}
use Rattle.tcp_stream.specs.declared.receiving.Receiving.{Receiving}
use Rattle.tcp_stream.specs.declared.sending.Sending.{Sending}
use Rattle.app_connection.specs.Sequence.{is_taken_at, is_of_sent, is_newer}
use Rattle.app_connection.specs.SetUp.{Endpoint, In_closed, In_listen, In_syn_sent, In_syn_received, In_established, Control, may_send}
use Rattle.app_connection.specs.declared.connection.Connection.{Connection}
use Rattle.app_connection.specs.declared.segment.Segment.{Segment}
use Rattle.app_connection.specs.declared.segment.Reply.{Reply}
use Rattle.app_connection.specs.declared.state.Phase.{Phase}
use Rattle.app_connection.specs.declared.state.Phase.TheVariants.{Closed, Listen, SynSent, SynReceived, Open}

-- the endpoint in a phase with these numbers
abbrev pub endpoint_in : Phase → Bool → ℕ → ℕ → Endpoint
endpoint_in Closed passive iss irs = In_closed
endpoint_in Listen passive iss irs = In_listen
endpoint_in SynSent passive iss irs = In_syn_sent iss
endpoint_in SynReceived passive iss irs = In_syn_received passive iss irs
endpoint_in Open passive iss irs = In_established iss irs

-- the endpoint
abbrev pub endpoint_of : Connection → Endpoint
endpoint_of c = endpoint_in c.phase c.is_passive c.iss c.irs

-- one for a flag that is set
abbrev pub one : Bool → ℕ
one flag = if flag then 1 else 0

-- SEG.LEN
abbrev pub len_of : Segment → ℕ
len_of s = length s.payload.now + one s.syn + one s.fin

-- what the set-up sees of a segment
abbrev pub control_of : Segment → Control
control_of s = record { number = s.number; len = len_of s; ack = s.ack; syn = s.syn; rst = s.rst }

-- the same of a reply
abbrev pub reply_of : Reply → Control
reply_of r = record { number = r.number; len = one r.syn; ack = r.ack; syn = r.syn; rst = r.rst }

-- A reply may be sent in the set-up. After it a reply has no SYN.
abbrev pub IsLegal : Endpoint → Reply → Type 0
IsLegal In_closed r = may_send In_closed (reply_of r) ≡ true
IsLegal In_listen r = may_send In_listen (reply_of r) ≡ true
IsLegal (In_syn_sent iss) r = may_send (In_syn_sent iss) (reply_of r) ≡ true
IsLegal (In_syn_received passive iss irs) r = may_send (In_syn_received passive iss irs) (reply_of r) ≡ true
IsLegal (In_established iss irs) r = r.syn ≡ false

-- what a segment says beside its text and window
abbrev pub spoken : Option Segment → Option Reply
spoken None = None
spoken (Some s) = Some (record { number = s.number; ack = s.ack; syn = s.syn; rst = s.rst })

-- what an endpoint in CLOSED answers (section 3.10.7.1), by the acknowledgement
abbrev pub refused_by : Segment → Option ℕ → Reply
refused_by s (Some ack) = record { number = ack; ack = None; syn = false; rst = true }
refused_by s None = record { number = 0; ack = Some ((s.number + len_of s) % 4294967296); syn = false; rst = true }

-- what it answers
abbrev pub refused : Segment → Option Reply
refused s = if s.rst then None else Some (refused_by s s.ack)

-- the next number to send (SND.NXT)
abbrev pub next_of : Connection → ℕ
next_of c = (c.sending.una + c.sending.flight) % 4294967296

-- Whether a segment at this number with this acknowledgement sets SND.WND (section 3.10.7.4): SND.UNA =< SEG.ACK =< SND.NXT, and
-- it is as new as the one that set it.
abbrev pub takes_window : Connection → ℕ → ℕ → Bool
takes_window c number ack = is_of_sent c.sending.una (next_of c) ack && is_newer c.wl1 c.wl2 number ack

-- how many numbers an acknowledgement newly acknowledges
abbrev pub newly_of : Connection → ℕ → ℕ
newly_of c ack = if is_of_sent c.sending.una (next_of c) ack then distance ack c.sending.una else 0

-- SND.WND after an acknowledgement: the window that came with it, or else the right edge stays, which the peer has offered.
abbrev pub window_after : Connection → ℕ → ℕ → ℕ → ℕ
window_after c number window ack = if takes_window c number ack then window else c.wnd - newly_of c ack

-- A connection took this acknowledgement, and the window that came with it at this number: SND.UNA, and SND.WND.
pub record TakesAck (old new : Connection) (number window ack : ℕ) : Type 0 where
  pub una : new.sending.una ≡ (if is_of_sent old.sending.una (next_of old) ack then ack else old.sending.una)
  pub wnd : new.wnd ≡ window_after old number window ack

-- the acknowledgement of a connection: <SEQ=SND.NXT><ACK=RCV.NXT><CTL=ACK>
abbrev pub acknowledgement_of : Connection → Reply
acknowledgement_of c =
    record {
      number = next_of c;
      ack = if c.receiving.is_open then Some c.receiving.next else None;
      syn = false;
      rst = false;
    }

-- whether an acknowledgement is of something not yet sent
abbrev pub is_of_unsent : Connection → Option ℕ → Bool
is_of_unsent c None = false
is_of_unsent c (Some ack) = is_earlier (next_of c) ack

-- a segment without text, SYN, FIN and RST: an acknowledgement only
abbrev pub is_bare : Segment → Bool
is_bare s = not s.rst && len_of s == 0

-- a segment with text, SYN or FIN, with an acknowledgement and without RST
abbrev pub has_items : Segment → Bool
has_items s = not s.rst && (not (len_of s == 0) && is_some s.ack)

-- Whether a connection with this window answers a bare acknowledgement: one before RCV.NXT, as a keep-alive probe, or one of
-- something not yet sent. One after the window is not answered.
abbrev pub answers_bare : Connection → ℕ → ℕ → Option ℕ → Bool
answers_bare c window number ack =
    c.receiving.is_open &&
    (if is_taken_at c.receiving.next window number 0 then is_of_unsent c ack else is_earlier number c.receiving.next)

-- the right edge of the receive window (RCV.NXT+RCV.WND), in a ring of this size
abbrev pub edge_of : Receiving → ℕ → ℕ
edge_of r size = (r.next + room_of r size) % 4294967296

-- The ring of the sending half has this size.
pub record OutFits (s : Sending) (size : ℕ) : Type 0 where
  pub start : s.start < size
  pub len : s.len ≤ size
  pub small : size < 1073741824

-- The ring of the receiving half has this size.
pub record InFits (r : Receiving) (size : ℕ) : Type 0 where
  pub begin : r.start < size
  pub len : reach r ≤ size
  pub small : size < 1073741824
