-- The "parameter problem" error of a host about an extension header or a fragment (RFC 8200, section 4; RFC 4443, section 3.4).
-- Pinned by: `worked/hosts`, `MessagesOnce`, `judge`
use Rattle.std.specs.Prelude.{ℕ, ◌≡◌, ◌≤◌, ◌⊎◌, List, Some, length}
use Rattle.ip_wire.specs.Frame.{Carried, other, packet}
use Rattle.ip_wire.specs.FrameValue.{carried_of}
use Rattle.ip_wire.specs.Protocol.{number_of}
use Rattle.ip_wire.specs.Types.{EthernetRepr, Ipv6, Ipv6Repr}
use Rattle.ip_wire.specs.declared.Frame.{Frame}
use Rattle.ip_wire.specs.declared.IpAddress.TheVariants as address
use Rattle.wire_icmp.specs.declared.IcmpRepr.TheVariants.{ParamProblem}
use Rattle.app_host.specs.IcmpError.{IsErrorTo, IsOurGroup}
use Rattle.app_host.specs.Ipv6Fault.{fault_of}
use Rattle.app_host.specs.Source.{IsOurs}
use Rattle.app_host.specs.declared.icmp_error.About.{About}
use Rattle.app_host.specs.declared.interface.Interface.{Interface}
use Rattle.app_host.specs.declared.ipv6_fault.Fault.TheVariants.{Reported}

-- A frame with these values and bytes is an IPv6 packet for our address or for a group of ours. The first fault of its
-- extension headers is reported by the other frame, if an error may be sent about it.
pub record IsParameterProblem (ours : Interface) (bytes : List ℕ) (asked : Carried) (header : EthernetRepr) (carried : Carried) : Type 0 where
  pub ip : Ipv6Repr
  pub payload : List ℕ
  pub code : ℕ
  pub pointer : ℕ
  pub about : About
  pub asks : asked ≡ packet (Ipv6 ip) (other payload)
  pub fits : length payload ≤ 65535
  pub for_us : IsOurs ours (address.Ipv6 ip.dst_addr) ⊎ IsOurGroup ours ip.dst_addr
  pub fault : fault_of (number_of ip.next_header) payload ≡ Some (Reported code pointer about)
  pub tells : IsErrorTo about ours bytes (ParamProblem code pointer) header carried

-- the values of our "parameter problem" error about a packet in a frame
abbrev pub ProblemFrame : Interface → List ℕ → Frame → EthernetRepr → Carried → Type 0
ProblemFrame ours bytes request header carried =
    (asked : Carried) × (carried_of request.carried ≡ Some asked) × IsParameterProblem ours bytes asked header carried
