-- The errors of a router.
use Rattle.std.proofs.Common.{◌≡◌, ℕ, List, Option, Some, None, drop, length, ◌<◌, arith, subst, true}
use Rattle.app_router.specs.IcmpProblem.{HasProblem, IsIn, Tells, message_of}
use Rattle.app_router.specs.declared.problem.Problem.{Problem}
use Rattle.app_host.proofs.MessagesOnce.{header-once}
use Rattle.app_host.proofs.Tried.{tries-to}
use Rattle.app_host.specs.IcmpError.{IsError}
use Rattle.app_host.specs.Kinds.{Tries}
use Rattle.app_host.specs.Message.{Gives}
use Rattle.app_host.specs.declared.Interface.{Interface}
use Rattle.app_host.specs.declared.MessageFrame.{MessageFrame}
use Rattle.ip_wire.specs.Frame.{Carried}
use Rattle.ip_wire.specs.Ip.{Reads}
use Rattle.ip_wire.specs.Reply.{unmarked}
use Rattle.ip_wire.specs.Types.{EthernetRepr, IpRepr}

-- a frame without an Ethernet header, without a packet, or with a packet that does not have the problem
pub short : (frame : List ℕ) (problem : Problem) → length frame < 14 → ¬ IsIn problem frame
short frame problem few is = let long = is.long in omega (arith, few, long)

pub no_packet : (frame : List ℕ) (problem : Problem) → ((v : IpRepr) → ¬ Reads (drop 14 frame) true v) → ¬ IsIn problem frame
no_packet frame problem none is = none is.header is.reads

pub same_packet : (frame : List ℕ) (problem : Problem) (v : IpRepr) → Reads (drop 14 frame) true v → IsIn problem frame → HasProblem problem v (drop 14 frame)
same_packet frame problem v reads is = subst (λ x. HasProblem problem x (drop 14 frame)) (header-once (drop 14 frame) is.header v is.reads reads) is.has

-- the error about a packet tells of a problem if the packet has it
told : (ours : Interface) (frame : List ℕ) (problem : Problem) (h : EthernetRepr) (c : Carried) → IsIn problem frame → IsError ours frame (message_of problem) h c → Tells ours frame problem h c
told ours frame problem h c is (w, e) = (w, same_packet frame problem w e.reads is, e)

error : (ours : Interface) (frame : List ℕ) (problem : Problem) (h : EthernetRepr) (c : Carried) → Tells ours frame problem h c → IsError ours frame (message_of problem) h c
error ours frame problem h c (v, has, e) = (v, e)

-- a frame without the problem gets none
pub no_problem : (ours : Interface) (frame : List ℕ) (problem : Problem) → ¬ IsIn problem frame → (h : EthernetRepr) (c : Carried) → ¬ Tells ours frame problem h c
no_problem ours frame problem none h c (v, has, e) = none (record { header = v; long = e.reads_link.whole; reads = e.reads; has = has })

-- any other gets the error about it, if there is one
pub tells : (ours : Interface) (frame : List ℕ) (problem : Problem) (result : Option MessageFrame) → IsIn problem frame → Gives (IsError ours frame (message_of problem)) result
    → Gives (Tells ours frame problem) result
tells ours frame problem None is none = λ h c e. none h c (error ours frame problem h c e)
tells ours frame problem (Some f) is (sendable, e) = (sendable, told ours frame problem f.header _ is e)

pub tries : (ours : Interface) (frame : List ℕ) (problem : Problem) (old new : List ℕ) (tried : Option (Option ℕ)) → IsIn problem frame
    → Tries unmarked (IsError ours frame (message_of problem)) old new tried → Tries unmarked (Tells ours frame problem) old new tried
tries ours frame problem old new tried is =
    tries-to unmarked (IsError ours frame (message_of problem)) (Tells ours frame problem) old new tried (λ h c e. told ours frame problem h c is e) (λ h c e. error ours frame problem h c e)
