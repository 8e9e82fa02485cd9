-- A frame gets one reply, to the byte.
use Rattle.std.proofs.Common.{ℕ, ℤ, ◌≡◌, ◌∙◌, List, Option, None, Some, inl, inr, length, sym}
use Rattle.std.proofs.lemmas.Bool.{cases_lt}
use Rattle.app_host.proofs.HostOnce.{bytes-once}
use Rattle.app_host.proofs.MessagesOnce.{error-once}
use Rattle.app_host.proofs.RepliesOnce.{IsOne}
use Rattle.app_host.specs.Host.{RepliesBytes}
use Rattle.app_host.specs.IcmpEcho.{reply_dscp}
use Rattle.app_host.specs.declared.Host.{Host}
use Rattle.app_host.specs.declared.Interface.{Interface}
use Rattle.app_router.specs.IcmpProblem.{Tells, message_of}
use Rattle.app_router.specs.declared.Problem.{Problem as RouterProblem}
use Rattle.app_router.specs.declared.Problem.TheVariants as router
use Rattle.ip_wire.specs.Frame.{Carried}
use Rattle.ip_wire.specs.Reply.{unmarked}
use Rattle.ip_wire.specs.Types.{EthernetRepr}
use Rattle.c_icmp.proofs.AnsweredOnce.{reply-once}
use Rattle.c_icmp.specs.Errors.{TellsOf, WritesError}
use Rattle.c_icmp.specs.HostFields.{WritesAnswer}
use Rattle.c_icmp.specs.Interfaces.{WritesReplyTo}
use Rattle.c_icmp.specs.declared.Problem.{Problem}
use Rattle.c_icmp.specs.declared.Problem.TheVariants as problem
use Rattle.c_structs.specs.Written.{max_len}

-- what is returned and written for a frame that may be too long
reply-to-once : (frame : List ℕ) (dscp : Carried → ℕ) (P : EthernetRepr → Carried → Type 0) (old new other : List ℕ) (a b : ℤ) → IsOne P → WritesReplyTo frame dscp P old new a
    → WritesReplyTo frame dscp P old other b → (a ≡ b) × (new ≡ other)
reply-to-once frame dscp P old new other a b one v w = elim (cases_lt max_len (length frame)) [
  | inl long ↦
      let (fail, stays) = v.too_long long in
      let (also, same) = w.too_long long in
      (fail ∙ sym also, stays ∙ sym same)
  | inr short ↦ reply-once dscp P old new other a b one (v.usable short) (w.usable short)
]

-- ---- a host

pub answers_once : (host : Option Host) (frame old new other : List ℕ) (a b : ℤ) → WritesAnswer host frame old new a → WritesAnswer host frame old other b
    → (a ≡ b) × (new ≡ other)
answers_once None frame old new other a b (fail, stays) (also, same) = (fail ∙ sym also, stays ∙ sym same)
answers_once (Some host) frame old new other a b v w =
    reply-to-once frame (reply_dscp frame) (RepliesBytes host frame) old new other a b (bytes-once host frame) v w

-- ---- errors

told : (ours : Interface) (frame : List ℕ) (p : RouterProblem) → IsOne (Tells ours frame p)
told ours frame p h k c d (v, _, e) (w, _, g) = error-once ours frame (message_of p) h k c d (v, e) (w, g)

told-once : (ours : Interface) (frame : List ℕ) (p : Problem) (mtu : ℕ) → IsOne (TellsOf ours frame p mtu)
told-once ours frame problem.None mtu h k c d e g = absurd e
told-once ours frame problem.HopLimitExpired mtu h k c d e g = told ours frame router.Expired h k c d e g
told-once ours frame problem.PacketTooBig mtu h k c d e g = told ours frame (router.TooLong mtu) h k c d e g
told-once ours frame problem.RouteMissing mtu h k c d e g = told ours frame router.NoRoute h k c d e g
told-once ours frame problem.NeighbourMissing mtu h k c d e g = told ours frame router.NoNeighbour h k c d e g
told-once ours frame problem.PortClosed mtu h k c d e g = error-once ours frame _ h k c d e g
told-once ours frame problem.Prohibited mtu h k c d e g = told ours frame router.Prohibited h k c d e g
told-once ours frame problem.FragmentMissing mtu h k c d e g = error-once ours frame _ h k c d e g

pub errors_once : (own : Option Interface) (frame : List ℕ) (p : Problem) (mtu : ℕ) (old new other : List ℕ) (a b : ℤ) → WritesError own frame p mtu old new a
    → WritesError own frame p mtu old other b → (a ≡ b) × (new ≡ other)
errors_once None frame p mtu old new other a b (fail, stays) (also, same) = (fail ∙ sym also, stays ∙ sym same)
errors_once (Some ours) frame p mtu old new other a b v w =
    reply-to-once frame unmarked (TellsOf ours frame p mtu) old new other a b (told-once ours frame p mtu) v w
