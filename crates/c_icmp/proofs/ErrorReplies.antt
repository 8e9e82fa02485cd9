-- What C gets for a frame with a message.
use Rattle.std.proofs.Common.{◌≡◌, ◌∙◌, ◌≤◌, ◌<◌, inl, inr, ℕ, ℤ, pos, SFits, to_z, of_z, w64, List, length, Option, Some, None, ap, refl, subst, sym}
use Rattle.std.proofs.lemmas.Bool.{cases_lt}
use Rattle.std.proofs.lemmas.Int.{to_z-of_z}
use Rattle.std.specs.Option.{option_map_or}
use Rattle.app_host.specs.Message.{IsSent, values_of}
use Rattle.app_host.proofs.Tried.{tries-to}
use Rattle.app_host.specs.Kinds.{Tries}
use Rattle.app_host.specs.declared.interface.Interface.{Interface}
use Rattle.app_host.specs.declared.message.MessageFrame.{MessageFrame}
use Rattle.app_router.specs.IcmpProblem.{Tells}
use Rattle.app_router.specs.declared.problem.Problem as router
use Rattle.ip_wire.specs.Frame.{Carried}
use Rattle.ip_wire.specs.Reply.{unmarked}
use Rattle.ip_wire.specs.declared.EthernetRepr.{EthernetRepr}
use Rattle.c_icmp.proofs.FrameReplies.{replied}
use Rattle.c_icmp.specs.Errors.{TellsOf, WritesError}
use Rattle.c_icmp.specs.Interfaces.{HasMessage, WritesReply}
use Rattle.c_icmp.specs.declared.errors.Problem.{Problem}
use Rattle.c_structs.specs.Written.{failure_code, max_len}
use Rattle.c_structs.specs.declared.failures.Failure.TheVariants.{NoRoom}

-- what is returned for a length
abbrev returned : Option ℕ → ℤ
returned sent = option_map_or pos sent (failure_code NoRoom)

sent-within : (f : MessageFrame) (old new : List ℕ) (sent : Option ℕ) (answer : ℤ) → length old ≤ max_len → IsSent f old new sent → answer ≡ returned sent
    → WritesReply (λ c. f.dscp) (HasMessage f) old new answer
sent-within f old new None answer room (short, stays) is = inr (inl (is, stays, (f.header, values_of f, (refl, refl), inl short)))
sent-within f old new (Some n) answer room (len, fits, rest, reads, bytes) is = inl (
  n,
  is,
  room,
  record {
    header = f.header;
    carried = values_of f;
    replies = (refl, refl);
    reads = reads;
    size = len;
    fits = fits;
    rest = rest;
    bytes = bytes;
  },
)

-- a frame that was sent is written, or does not fit
pub written : (f : MessageFrame) (old new : List ℕ) (sent : Option ℕ) (answer : ℤ) → (max_len < length old → (sent ≡ None) × (new ≡ old))
    → (length old ≤ max_len → IsSent f old new sent) → answer ≡ returned sent → SFits w64 answer → WritesReply (λ c. f.dscp) (HasMessage f) old new (to_z w64 (of_z w64 answer))
written f old new sent answer beyond within is fits = elim (cases_lt max_len (length old)) [
  | inl long ↦
      let (none, stays) = beyond long in
      inr (inl (to_z-of_z w64 answer fits ∙ is ∙ ap returned none, stays, (f.header, values_of f, (refl, refl), inr long)))
  | inr room ↦ sent-within f old new sent _ room (within room) (to_z-of_z w64 answer fits ∙ is)
]

-- the error of a router about a problem is that about the problem with its number
pub by-router : (ours : Interface) (frame : List ℕ) (p q : Problem) (told like : router.Problem) (mtu : ℕ) (old new : List ℕ) (tried : Option (Option ℕ)) → told ≡ like → p ≡ q
    → ((h : EthernetRepr) (c : Carried) → Tells ours frame like h c → TellsOf ours frame q mtu h c) → ((h : EthernetRepr) (c : Carried) → TellsOf ours frame q mtu h c → Tells ours frame like h c)
    → Tries unmarked (Tells ours frame told) old new tried → Tries unmarked (TellsOf ours frame p mtu) old new tried
by-router ours frame p q told like mtu old new tried is same to from tries =
    subst (λ x. Tries unmarked (TellsOf ours frame x mtu) old new tried) (sym same)
    (tries-to unmarked (Tells ours frame like) (TellsOf ours frame q mtu) old new tried to from (subst (λ x. Tries unmarked (Tells ours frame x) old new tried) is tries))

-- the error of the interface that a struct describes
pub of_interface : (described : Option Interface) (ours : Interface) (frame : List ℕ) (p : Problem) (mtu : ℕ) (old new : List ℕ) (answer : ℤ) → described ≡ Some ours
    → length frame ≤ max_len → WritesReply unmarked (TellsOf ours frame p mtu) old new answer → SFits w64 answer → WritesError described frame p mtu old new (to_z w64 (of_z w64 answer))
of_interface described ours frame p mtu old new answer is short wrote fits =
    subst (WritesError described frame p mtu old new) (sym (to_z-of_z w64 answer fits))
    (subst (λ d. WritesError d frame p mtu old new answer) (sym is) (replied frame unmarked (TellsOf ours frame p mtu) old new answer short wrote))
