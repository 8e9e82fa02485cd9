-- A frame is forwarded in one way, translated in one way and clamped in one way, or rejected for one reason.
use Rattle.std.proofs.Common.{ℕ, ℤ, pos, ◌≡◌, ◌≢◌, ◌∙◌, ◌≤◌, ◌++◌, List, Some, inl, inr, drop, length, take, ap, subst, sym}
use Rattle.std.proofs.lemmas.Bool.{cases_eq}
use Rattle.std.proofs.lemmas.Option.{none-some, same_Some}
use Rattle.app_edit.specs.declared.replace.Offload.{Offload}
use Rattle.app_nat.proofs.NatOnce.{translated-unrejected, untranslated-once}
use Rattle.app_nat.specs.Nat.{IsTranslated, IsUntranslated}
use Rattle.app_nat.specs.declared.Rejection.{Rejection as NatRejection}
use Rattle.app_edit.specs.declared.Side.{Side}
use Rattle.app_router.proofs.ForwardOnce.{forwarded-no_fault, forwarded-once}
use Rattle.app_router.specs.Forward.{IsForwarded, fault_of}
use Rattle.ip_wire.proofs.ReadsOnce.{frame-once}
use Rattle.ip_wire.specs.Frame as whole
use Rattle.ip_wire.specs.Frame.{packet}
use Rattle.ip_wire.specs.Types.{EthernetAddress, IpRepr}
use Rattle.ip_wire.specs.declared.HeaderFault.{HeaderFault}
use Rattle.c_routing.specs.Clamped.{Clamps, IsClamped, IsTooLarge, clamped}
use Rattle.c_routing.specs.Forwarded.{Forwards}
use Rattle.c_routing.specs.Rejections.{of_header, of_nat, rejection_code}
use Rattle.c_routing.specs.Translated.{Translates, TranslatesTo}
use Rattle.c_structs.proofs.Filled.{within-is}
use Rattle.c_structs.specs.Written.{max_len, within}
use Rattle.c_structs.specs.declared.types.Endpoint.{Endpoint}

-- ---- frames that are forwarded

unforwarded : (old new : List ℕ) (src dst : EthernetAddress) (h : IpRepr) (fault : HeaderFault) → length old ≤ max_len → IsForwarded old new src dst h
    → fault_of (within old) ≢ Some fault
unforwarded old new src dst h fault short a is =
    absurd (none-some fault (sym (forwarded-no_fault old new src dst h a) ∙ ap fault_of (sym (within-is old short)) ∙ is))

pub forwards_once : (old new other : List ℕ) (src dst : EthernetAddress) (a b : ℤ) → Forwards old new src dst a → Forwards old other src dst b
    → (a ≡ b) × (new ≡ other)
forwards_once old new other src dst a b (inl (zero, short, (h, f))) (inl (also, room, (k, g))) = (zero ∙ sym also, (forwarded-once old new other src dst h k f g).0)
forwards_once old new other src dst a b (inl (zero, short, (h, f))) (inr (fault, is, why, stays)) = absurd (unforwarded old new src dst h fault short f why)
forwards_once old new other src dst a b (inr (fault, is, why, stays)) (inl (zero, short, (h, f))) = absurd (unforwarded old other src dst h fault short f why)
forwards_once old new other src dst a b (inr (fault, is, why, stays)) (inr (reason, also, cause, same)) =
    let one : fault ≡ reason = same_Some fault reason (sym why ∙ cause) in
    (is ∙ ap (λ f. pos (rejection_code (of_header f))) one ∙ sym also, stays ∙ sym same)

-- ---- frames that are translated

untranslated : (old new : List ℕ) (side : Side) (addr : List ℕ) (port : ℕ) (r : NatRejection) → length old ≤ max_len → IsTranslated old new side addr port
    → ¬ IsUntranslated (within old) side port r
untranslated old new side addr port r short a why =
    translated-unrejected old new side addr port r a (subst (λ l. IsUntranslated l side port r) (within-is old short) why)

translates-to-once : (old new other : List ℕ) (side : Side) (addr : List ℕ) (port : ℕ) (a b : ℤ) → TranslatesTo old new side addr port a
    → TranslatesTo old other side addr port b → (a ≡ b) × (new ≡ other)
translates-to-once old new other side addr port a b (inl (zero, short, t)) (inl (also, room, u)) = (zero ∙ sym also, t.bytes ∙ sym u.bytes)
translates-to-once old new other side addr port a b (inl (zero, short, t)) (inr (r, is, why, stays)) = absurd (untranslated old new side addr port r short t why)
translates-to-once old new other side addr port a b (inr (r, is, why, stays)) (inl (zero, short, t)) = absurd (untranslated old other side addr port r short t why)
translates-to-once old new other side addr port a b (inr (r, is, why, stays)) (inr (s, also, cause, same)) =
    let one : r ≡ s = untranslated-once (within old) side port r s why cause in
    (is ∙ ap (λ f. pos (rejection_code (of_nat f))) one ∙ sym also, stays ∙ sym same)

pub translates_once : (old new other : List ℕ) (side : Side) (end : Endpoint) (a b : ℤ) → Translates old new side end a → Translates old other side end b
    → (a ≡ b) × (new ≡ other)
translates_once old new other side end a b v w = elim (cases_eq end.addr.version 4) [
  | inl ipv4 ↦ translates-to-once old new other side (take 4 end.addr.octets) end.port a b (v.ipv4 ipv4) (w.ipv4 ipv4)
  | inr apart ↦
      let (is, stays) = v.other apart in
      let (also, same) = w.other apart in
      (is ∙ sym also, stays ∙ sym same)
]

-- ---- frames that are clamped

header-of : (frame : List ℕ) (limit : ℕ) (a b : IsTooLarge frame limit) → a.header ≡ b.header
header-of frame limit a b =
    let same : packet a.header (whole.segment a.v a.payload) ≡ packet b.header (whole.segment b.v b.payload) =
    (frame-once _ frame _ _ _ _ a.carries b.carries).1
    in cc

clamped-once : (o : Offload) (old new other : List ℕ) (limit : ℕ) → IsClamped o old new limit → IsClamped o old other limit → new ≡ other
clamped-once o old new other limit a b =
    a.bytes ∙ ap (λ h. take 14 old ++ clamped o h (drop 14 old) limit) (header-of old limit a.before b.before) ∙ sym b.bytes

unclamped : (o : Offload) (old new : List ℕ) (limit : ℕ) → length old ≤ max_len → IsClamped o old new limit → IsTooLarge (within old) limit
unclamped o old new limit short a = subst (λ l. IsTooLarge l limit) (sym (within-is old short)) a.before

pub clamps_once : (o : Offload) (old new other : List ℕ) (limit : ℕ) (a b : ℤ) → Clamps o old new limit a → Clamps o old other limit b → (a ≡ b) × (new ≡ other)
clamps_once o old new other limit a b (inl (one, short, t)) (inl (also, fits, u)) = (one ∙ sym also, clamped-once o old new other limit t u)
clamps_once o old new other limit a b (inl (one, short, t)) (inr (zero, small, stays)) = absurd (small (unclamped o old new limit short t))
clamps_once o old new other limit a b (inr (zero, small, stays)) (inl (one, short, t)) = absurd (small (unclamped o old other limit short t))
clamps_once o old new other limit a b (inr (zero, small, stays)) (inr (also, none, same)) = (zero ∙ sym also, stays ∙ sym same)
