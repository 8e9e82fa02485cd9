-- The ICMP errors of a router (RFC 1812, section 5.2.7; RFC 4443, section 3).
-- Pinned by: `worked/icmp`
use Rattle.std.specs.Prelude.{ℕ, ◌≡◌, ◌<◌, ◌≤◌, ⊤, List, drop, length, true}
use Rattle.ip_wire.specs.Field.{field}
use Rattle.ip_wire.specs.Frame.{Carried}
use Rattle.ip_wire.specs.Ip.{Reads, hop_limit_of}
use Rattle.ip_wire.specs.Ipv4 as ipv4
use Rattle.ip_wire.specs.Ipv6 as ipv6
use Rattle.ip_wire.specs.Types.{EthernetRepr, IpRepr, Ipv4, Ipv6}
use Rattle.wire_icmp.specs.declared.Exceeded.TheVariants as exceeded
use Rattle.wire_icmp.specs.declared.IcmpRepr.{IcmpRepr}
use Rattle.wire_icmp.specs.declared.IcmpRepr.TheVariants.{DstUnreachable, PktTooBig, TimeExceeded}
use Rattle.wire_icmp.specs.declared.Unreachable.TheVariants as unreachable
use Rattle.app_host.specs.IcmpError.{IsErrorAbout}
use Rattle.app_host.specs.declared.Interface.{Interface}
use Rattle.app_router.specs.declared.problem.Problem.{Problem}
use Rattle.app_router.specs.declared.problem.Problem.TheVariants.{Expired, TooLong, NoRoute, NoNeighbour, Prohibited}

-- The packet is longer than the MTU, and no router may fragment it: the flag DF is set (RFC 791, section 3.1), or it
-- is an IPv6 packet (RFC 8200, section 5).
abbrev pub IsTooLong : ℕ → IpRepr → List ℕ → Type 0
IsTooLong mtu (Ipv4 v) bytes = (mtu < ipv4.total_len bytes) × (field bytes 49 1 ≡ 1)
IsTooLong mtu (Ipv6 v) bytes = mtu < ipv6.total_len bytes

-- the packet with this header has the problem, as far as its bytes show that
abbrev pub HasProblem : Problem → IpRepr → List ℕ → Type 0
HasProblem Expired v bytes = hop_limit_of v ≤ 1
HasProblem (TooLong mtu) v bytes = IsTooLong mtu v bytes
HasProblem _ v bytes = ⊤

-- the frame carries a packet, and this has the problem
pub record IsIn (problem : Problem) (frame : List ℕ) : Type 0 where
  pub header : IpRepr
  pub long : 14 ≤ length frame
  pub reads : Reads (drop 14 frame) true header
  pub has : HasProblem problem header (drop 14 frame)

-- the ICMP message that reports a problem
abbrev pub message_of : Problem → IcmpRepr
message_of Expired = TimeExceeded exceeded.HopLimit
message_of (TooLong mtu) = PktTooBig mtu
message_of NoRoute = DstUnreachable unreachable.NoRoute
message_of NoNeighbour = DstUnreachable unreachable.Host
message_of Prohibited = DstUnreachable unreachable.Prohibited

-- the second frame carries the ICMP error about the packet in the first frame, which has the problem
abbrev pub Tells : Interface → List ℕ → Problem → EthernetRepr → Carried → Type 0
Tells ours frame problem header carried =
    (v : IpRepr) × HasProblem problem v (drop 14 frame) × IsErrorAbout ours frame v (message_of problem) header carried
