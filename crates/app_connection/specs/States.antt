-- The states (RFC 9293, section 3.3.2).
-- Pinned by: `connection/figures`
use Rattle.std.specs.Prelude.{Bool, true, false, not}
use Rattle.app_connection.specs.declared.connection.Connection.{Connection}
use Rattle.app_connection.specs.declared.state.Phase.{Phase}
use Rattle.app_connection.specs.declared.state.Phase.TheVariants as phase
use Rattle.app_connection.specs.declared.state.State.{State}
use Rattle.app_connection.specs.declared.state.State.TheVariants.{Closed, Listen, SynSent, SynReceived, Established, FinWait1, FinWait2, CloseWait, Closing, LastAck, TimeWait}

-- The state after the set-up: whether the application has closed, whether its FIN was acknowledged, whether the peer's FIN came,
-- and whether that was before the application closed.
abbrev pub state_at : Bool → Bool → Bool → Bool → State
state_at false acked false first = Established
state_at false acked true first = CloseWait
state_at true false false first = FinWait1
state_at true true false first = FinWait2
state_at true false true false = Closing
state_at true false true true = LastAck
state_at true true true false = TimeWait
state_at true true true true = Closed

-- the state in a phase
abbrev pub state_in : Phase → State → State
state_in phase.Closed open_state = Closed
state_in phase.Listen open_state = Listen
state_in phase.SynSent open_state = SynSent
state_in phase.SynReceived open_state = SynReceived
state_in phase.Open open_state = open_state

-- the state of a connection
abbrev pub state_from : Connection → State
state_from c =
    state_in c.phase (state_at c.sending.is_closed (not c.sending.has_fin) c.receiving.has_fin c.is_peer_first)

-- what CLOSE makes of a state (section 3.10.4); in SYN-RECEIVED the FIN waits
abbrev pub state_closed : State → State
state_closed Closed = Closed
state_closed Listen = Closed
state_closed SynSent = Closed
state_closed SynReceived = SynReceived
state_closed Established = FinWait1
state_closed FinWait1 = FinWait1
state_closed FinWait2 = FinWait2
state_closed CloseWait = LastAck
state_closed Closing = Closing
state_closed LastAck = LastAck
state_closed TimeWait = TimeWait

-- whether CLOSE lets a FIN follow
abbrev pub may_close : State → Bool
may_close Closed = false
may_close Listen = false
may_close SynSent = false
may_close SynReceived = true
may_close Established = true
may_close FinWait1 = false
may_close FinWait2 = false
may_close CloseWait = true
may_close Closing = false
may_close LastAck = false
may_close TimeWait = false

-- whether there is a connection, or the beginning of one
abbrev pub has_peer : State → Bool
has_peer Closed = false
has_peer Listen = false
has_peer SynSent = true
has_peer SynReceived = true
has_peer Established = true
has_peer FinWait1 = true
has_peer FinWait2 = true
has_peer CloseWait = true
has_peer Closing = true
has_peer LastAck = true
has_peer TimeWait = true
