-- Errors about extension headers in frames.
use Rattle.std.proofs.Common.{ℕ, ◌≡◌, ◌≤◌, ◌⊎◌, ◌∙◌, List, Option, Some, None, length, refl, sym, subst}
use Rattle.ip_wire.specs.Frame.{other, packet}
use Rattle.ip_wire.specs.Protocol.{number_of}
use Rattle.ip_wire.specs.Types.{Ipv6, Ipv6Repr}
use Rattle.ip_wire.specs.declared.IpAddress.TheVariants as address
use Rattle.wire_icmp.specs.declared.IcmpRepr.TheVariants.{ParamProblem}
use Rattle.app_host.specs.IcmpError.{IsErrorTo, IsOurGroup}
use Rattle.app_host.specs.Ipv6Fault.{fault_of}
use Rattle.app_host.specs.Message.{Gives}
use Rattle.app_host.specs.ParameterProblem.{IsParameterProblem}
use Rattle.app_host.specs.Source.{IsOurs}
use Rattle.app_host.specs.declared.icmp_error.About.{About}
use Rattle.app_host.specs.declared.interface.Interface.{Interface}
use Rattle.app_host.specs.declared.ipv6_fault.Fault.TheVariants.{Reported}
use Rattle.app_host.specs.declared.message.MessageFrame.{MessageFrame}

-- the packet is for our address or for a group of ours
abbrev pub IsForUs : Interface → List ℕ → Type 0
IsForUs ours dst = IsOurs ours (address.Ipv6 dst) ⊎ IsOurGroup ours dst

-- a packet has no error that is too long, is for others, or has no fault that is reported
pub no_problem : (ours : Interface) (bytes : List ℕ) (ip : Ipv6Repr) (payload : List ℕ)
    → ((code pointer : ℕ) (about : About) → length payload ≤ 65535 → IsForUs ours ip.dst_addr → ¬ (fault_of (number_of ip.next_header) payload ≡ Some (Reported code pointer about)))
    → Gives (IsParameterProblem ours bytes (packet (Ipv6 ip) (other payload))) None
no_problem ours bytes ip payload none header carried e =
    let asks = e.asks in
    let same : e.ip ≡ ip = cc in
    let inside : e.payload ≡ payload = cc in
    none e.code e.pointer e.about (subst (λ b. length b ≤ 65535) inside e.fits) (subst (λ (x : Ipv6Repr). IsForUs ours x.dst_addr) same e.for_us)
    (sym (λ i. fault_of (number_of (same i).next_header) (inside i)) ∙ e.fault)

-- a packet with a fault that is reported has the error about it, if there is one
pub problem : (ours : Interface) (bytes : List ℕ) (ip : Ipv6Repr) (payload : List ℕ) (code pointer : ℕ) (about : About) (result : Option MessageFrame)
    → length payload ≤ 65535 → IsForUs ours ip.dst_addr → fault_of (number_of ip.next_header) payload ≡ Some (Reported code pointer about)
    → Gives (IsErrorTo about ours bytes (ParamProblem code pointer)) result → Gives (IsParameterProblem ours bytes (packet (Ipv6 ip) (other payload))) result
problem ours bytes ip payload code pointer about (Some f) fits for_us fault (sendable, e) = (
  sendable,
  record { ip = ip; payload = payload; code = code; pointer = pointer; about = about; asks = refl; fits = fits; for_us = for_us; fault = fault; tells = e },
)
problem ours bytes ip payload code pointer about None fits for_us fault none = λ header carried e.
    let asks = e.asks in
    let same : e.ip ≡ ip = cc in
    let inside : e.payload ≡ payload = cc in
    let found : fault_of (number_of ip.next_header) payload ≡ Some (Reported e.code e.pointer e.about) = sym (λ i. fault_of (number_of (same i).next_header) (inside i)) ∙ e.fault in
    let one : Some (Reported code pointer about) ≡ Some (Reported e.code e.pointer e.about) = sym fault ∙ found in
    let first : code ≡ e.code = cc in
    let second : pointer ≡ e.pointer = cc in
    let third : about ≡ e.about = cc in
    none header carried
    (subst (λ t. IsErrorTo t ours bytes (ParamProblem code pointer) header carried) (sym third)
    (subst (λ p. IsErrorTo e.about ours bytes (ParamProblem code p) header carried) (sym second)
    (subst (λ n. IsErrorTo e.about ours bytes (ParamProblem n e.pointer) header carried) (sym first) e.tells)))
