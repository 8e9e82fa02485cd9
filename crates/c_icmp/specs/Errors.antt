-- ICMP errors about frames, with the structs and numbers of C.
-- Pinned by: `worked/icmp`, `judge`
use Rattle.std.specs.Prelude.{ℕ, ℤ, pos, ◌≡◌, if◌then◌else◌, false, List, Option, None, Some}
use Rattle.std.specs.Ordering.{int_eq}
use Rattle.app_router.specs.IcmpProblem.{Tells}
use Rattle.app_router.specs.declared.problem.Problem.TheVariants as router
use Rattle.app_host.specs.IcmpError.{IsError}
use Rattle.app_host.specs.declared.interface.Interface.{Interface}
use Rattle.ip_wire.specs.Frame.{Carried}
use Rattle.ip_wire.specs.Reply.{unmarked}
use Rattle.ip_wire.specs.Types.{EthernetRepr}
use Rattle.wire_icmp.specs.declared.icmp.reason.Exceeded.TheVariants as exceeded
use Rattle.wire_icmp.specs.declared.icmp.reason.Unreachable.TheVariants as unreachable
use Rattle.wire_icmp.specs.declared.icmp.repr.IcmpRepr.TheVariants.{DstUnreachable, TimeExceeded}
use Rattle.c_structs.specs.Written.{failure_code}
use Rattle.c_structs.specs.declared.failures.Failure.TheVariants as failure
use Rattle.c_icmp.specs.Interfaces.{WritesReplyTo, interface_of}
use Rattle.c_icmp.specs.declared.errors.Problem.{Problem}
use Rattle.c_icmp.specs.declared.errors.Problem.TheVariants as problem
use Rattle.c_icmp.specs.declared.types.InterfaceFields.{InterfaceFields}

-- the problem with this number
abbrev pub problem_by : ℤ → Problem
problem_by n =
    if int_eq n (pos 1) then problem.HopLimitExpired
    else if int_eq n (pos 2) then problem.PacketTooBig
    else if int_eq n (pos 3) then problem.RouteMissing
    else if int_eq n (pos 4) then problem.NeighbourMissing
    else if int_eq n (pos 5) then problem.PortClosed
    else if int_eq n (pos 6) then problem.Prohibited
    else if int_eq n (pos 7) then problem.FragmentMissing
    else problem.None

-- the frame carries an error that tells the sender of the other frame of this problem
abbrev pub TellsOf : Interface → List ℕ → Problem → ℕ → EthernetRepr → Carried → Type 0
TellsOf ours frame problem.None mtu header carried = ⊥
TellsOf ours frame problem.HopLimitExpired mtu header carried = Tells ours frame router.Expired header carried
TellsOf ours frame problem.PacketTooBig mtu header carried = Tells ours frame (router.TooLong mtu) header carried
TellsOf ours frame problem.RouteMissing mtu header carried = Tells ours frame router.NoRoute header carried
TellsOf ours frame problem.NeighbourMissing mtu header carried = Tells ours frame router.NoNeighbour header carried
TellsOf ours frame problem.PortClosed mtu header carried = IsError ours frame (DstUnreachable unreachable.Port) header carried
TellsOf ours frame problem.Prohibited mtu header carried = Tells ours frame router.Prohibited header carried
TellsOf ours frame problem.FragmentMissing mtu header carried = IsError ours frame (TimeExceeded exceeded.Reassembly) header carried

-- the interface of a struct, if it has an address of each version; errors do not depend on whether it is a router
abbrev pub own_interface : InterfaceFields → Option Interface
own_interface own = interface_of own.ipv4 own.ipv6 own.hardware false

-- the error of an interface about a frame is written, or nothing without one
abbrev pub WritesError : Option Interface → List ℕ → Problem → ℕ → List ℕ → List ℕ → ℤ → Type 0
WritesError None frame p mtu old new answer = (answer ≡ failure_code failure.NoVersion) × (new ≡ old)
WritesError (Some ours) frame p mtu old new answer = WritesReplyTo frame unmarked (TellsOf ours frame p mtu) old new answer
