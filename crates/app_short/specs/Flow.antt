-- Flows: the two endpoints of UDP and TCP packets, in either direction.
-- Pinned by: `apps/uses`
use Rattle.std.specs.Prelude.{ℕ, ◌≡◌, ◌⊎◌, Option, Some, None}
use Rattle.std.specs.declared.cmp.Ordering.{Ordering}
use Rattle.std.specs.declared.cmp.Ordering.TheVariants.{Greater}
use Rattle.app_short.specs.declared.flow_key.Flow.{Flow}
use Rattle.app_short.specs.declared.flow_key.FlowKey.{FlowKey}
use Rattle.ip_wire.specs.Endpoint.{endpoint_at, endpoint_cmp}
use Rattle.ip_wire.specs.Ip.{dst_addr_of, src_addr_of}
use Rattle.ip_wire.specs.declared.Carried.{Carried}
use Rattle.ip_wire.specs.declared.Carried.TheVariants as carried
use Rattle.ip_wire.specs.declared.Frame.{Frame}
use Rattle.ip_wire.specs.Types.{IpProtocol, IpRepr}
use Rattle.ip_wire.specs.declared.IpProtocol.TheVariants as protocol
use Rattle.ip_wire.specs.declared.Transport.TheVariants as transport

-- the flow of a packet with this header and these ports
abbrev pub flow_between : IpProtocol → IpRepr → ℕ → ℕ → Flow
flow_between p v src_port dst_port = record {
  protocol = p;
  src = endpoint_at (src_addr_of v) src_port;
  dst = endpoint_at (dst_addr_of v) dst_port;
}

-- the flow of what a frame carries, if that is a UDP packet or a TCP segment
abbrev pub flow_in : Carried → Option Flow
flow_in (carried.Packet v (transport.Udp u payload)) = Some (flow_between protocol.Udp v u.src_port u.dst_port)
flow_in (carried.Packet v (transport.Tcp u)) = Some (flow_between protocol.Tcp v u.src_port u.dst_port)
flow_in _ = None

-- the flow of a frame, if it carries a UDP packet or a TCP segment
abbrev pub flow_of : Frame → Option Flow
flow_of f = flow_in f.carried

-- the key of a flow whose endpoints compare in this order: the lower endpoint comes first
abbrev pub key_by : Ordering → Flow → FlowKey
key_by Greater flow = record { protocol = flow.protocol; low = flow.dst; high = flow.src }
key_by _ flow = record { protocol = flow.protocol; low = flow.src; high = flow.dst }

-- the key of a flow, equal for both directions: the protocol and the two endpoints, the lower one first
abbrev pub key_of : Flow → FlowKey
key_of flow = key_by (endpoint_cmp flow.src flow.dst) flow

-- the flow in the other direction
abbrev pub reversed : Flow → Flow
reversed flow = record flow { src = flow.dst; dst = flow.src }

-- the two flows are one: equal, or one is the reverse of the other
abbrev pub IsOneFlow : Flow → Flow → Type 0
IsOneFlow a b = (a ≡ b) ⊎ (a ≡ reversed b)
