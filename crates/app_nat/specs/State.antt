-- The state of a TCP connection as a NAT sees it, and the time-outs (RFC 4787, section 4.3; RFC 5382, section 5;
-- RFC 5508, section 3.2).
-- Pinned by: `worked/mappings`
use Rattle.std.specs.Prelude.{ℕ, ◌==◌, min, Bool, true, false, if◌then◌else◌}
use Rattle.app_nat.specs.declared.nat.Nat.{Nat}
use Rattle.app_nat.specs.declared.state.Event.{Event}
use Rattle.app_nat.specs.declared.state.Event.TheVariants as event
use Rattle.app_nat.specs.declared.state.Protocol.{Protocol}
use Rattle.app_nat.specs.declared.state.Protocol.TheVariants as protocol
use Rattle.app_nat.specs.declared.state.TcpState.{TcpState}
use Rattle.app_nat.specs.declared.state.TcpState.TheVariants.{Opening, Established, Closing}
use Rattle.ip_wire.specs.declared.TcpControl.TheVariants.{None, Psh, Syn, Fin, Rst}

-- the protocol of a packet
abbrev pub protocol_of : Event → Protocol
protocol_of event.Udp = protocol.Udp
protocol_of (event.Tcp control) = protocol.Tcp
protocol_of event.Icmp = protocol.Icmp

-- whether the packet is a TCP segment with FIN or RST
abbrev pub ends_connection : Event → Bool
ends_connection (event.Tcp Fin) = true
ends_connection (event.Tcp Rst) = true
ends_connection (event.Tcp None) = false
ends_connection (event.Tcp Psh) = false
ends_connection (event.Tcp Syn) = false
ends_connection event.Udp = false
ends_connection event.Icmp = false

-- the TCP state that a byte encodes
abbrev pub state_of : ℕ → TcpState
state_of byte = if byte == 1 then Established else (if byte == 2 then Closing else Opening)

-- the byte that encodes a TCP state
abbrev pub byte_of : TcpState → ℕ
byte_of Opening = 0
byte_of Established = 1
byte_of Closing = 2

-- The state after a packet of the inside host, or the end of the connection by its only remote endpoint. If the mapping
-- serves more than one remote endpoint (`shared`), the end of one connection does not change it. After RST the next
-- segment of the inside host shows that it did not accept it (RFC 6146, section 3.5.2.2).
abbrev pub next_state : Bool → TcpState → Event → TcpState
next_state shared state event.Udp = state
next_state shared state event.Icmp = state
next_state false state (event.Tcp Syn) = Opening
next_state false Closing (event.Tcp None) = Closing
next_state false Closing (event.Tcp Psh) = Closing
next_state false state (event.Tcp None) = Established
next_state false state (event.Tcp Psh) = Established
next_state false state (event.Tcp Fin) = Closing
next_state false Closing (event.Tcp Rst) = Closing
next_state false state (event.Tcp Rst) = Opening
next_state true Established (event.Tcp Syn) = Established
next_state true state (event.Tcp Syn) = Opening
next_state true state (event.Tcp None) = Established
next_state true state (event.Tcp Psh) = Established
next_state true state (event.Tcp Fin) = state
next_state true state (event.Tcp Rst) = state

-- the time-out of a mapping in this state
abbrev pub timeout_of : Nat → Protocol → TcpState → ℕ
timeout_of nat protocol.Udp state = nat.udp_timeout
timeout_of nat protocol.Tcp Established = nat.tcp_timeout
timeout_of nat protocol.Tcp Opening = nat.tcp_transitory_timeout
timeout_of nat protocol.Tcp Closing = nat.tcp_transitory_timeout
timeout_of nat protocol.Icmp state = nat.icmp_timeout

-- the shortest time-out of a protocol
abbrev pub shortest_timeout : Nat → Protocol → ℕ
shortest_timeout nat protocol.Udp = nat.udp_timeout
shortest_timeout nat protocol.Tcp = min nat.tcp_timeout nat.tcp_transitory_timeout
shortest_timeout nat protocol.Icmp = nat.icmp_timeout
