-- A frame has one result of a translation, or one reason of a rejection.
use Rattle.std.proofs.Common.{◌≡◌, ◌∙◌, true, inl, inr, List, ℕ, drop, sym, subst}
use Rattle.app_nat.proofs.Faults.{carries-unrejected}
use Rattle.app_nat.proofs.Translates.{carried}
use Rattle.app_nat.specs.Nat.{AllowsPort, Carries, IsTranslated, IsUntranslated, ReadsPorts, Transport, datagram, reply, request, segment, with_addr, with_port}
use Rattle.app_nat.specs.declared.translation.Rejection.{Rejection}
use Rattle.app_edit.specs.declared.side.Side.{Side}
use Rattle.app_edit.specs.declared.side.Side.TheVariants.{Source, Destination}
use Rattle.ip_wire.proofs.Ipv4Computed.{ipv4_of-Reads}
use Rattle.ip_wire.proofs.ReadsOnce.{computed-one}
use Rattle.app_nat.proofs.Echoes.{ports-once}
use Rattle.ip_wire.specs.Frame.{ipv4_payload}
use Rattle.ip_wire.specs.Ipv4 as ipv4
use Rattle.ip_wire.specs.Types.{EthernetRepr, Ipv4Repr}

-- ---- what a frame carries

header-once : (bytes : List ℕ) (v w : Ipv4Repr) → ipv4.Reads bytes true v → ipv4.Reads bytes true w → v ≡ w
header-once bytes v w a b = computed-one _ v w ((ipv4_of-Reads true bytes v).1 a) ((ipv4_of-Reads true bytes w).1 b)

moved : (bytes : List ℕ) (v w : Ipv4Repr) (t : Transport) → ipv4.Reads bytes true v → ipv4.Reads bytes true w → ReadsPorts v (ipv4_payload bytes) t
    → ReadsPorts w (ipv4_payload bytes) t
moved bytes v w t a b = subst (λ x. ReadsPorts x (ipv4_payload bytes) t) (header-once bytes v w a b)

-- a frame carries one header
pub header-of-one : (frame : List ℕ) (k l : EthernetRepr) (v w : Ipv4Repr) (t u : Transport) → Carries frame k v t → Carries frame l w u → v ≡ w
header-of-one frame k l v w t u a b = header-once (drop 14 frame) v w (carried frame k v t a).reads.0 (carried frame l w u b).reads.0

-- a frame carries one transport
pub transport-of-one : (frame : List ℕ) (k l : EthernetRepr) (v w : Ipv4Repr) (t u : Transport) → Carries frame k v t → Carries frame l w u → t ≡ u
transport-of-one frame k l v w t u a b =
    let bytes = drop 14 frame in
    let p = carried frame k v t a in
    let q = carried frame l w u b in
    ports-once v (ipv4_payload bytes) t u p.carries (moved bytes w v u q.reads.0 p.reads.0 q.carries)

-- a port that was parsed is accepted
allowed : (v : Ipv4Repr) (bytes : List ℕ) (side : Side) (port : ℕ) (t : Transport) → ReadsPorts v bytes (with_port side port t) → AllowsPort side t port
allowed v bytes Source port (datagram u payload) r = tt
allowed v bytes Destination port (datagram u payload) r = λ zero. r.1.receiver (sym r.1.dst_port ∙ zero)
allowed v bytes Source port (segment u payload) r = λ zero. r.1.sender (sym r.1.src_port ∙ zero)
allowed v bytes Destination port (segment u payload) r = λ zero. r.1.receiver (sym r.1.dst_port ∙ zero)
allowed v bytes Source port (request ident seq_no payload) r = tt
allowed v bytes Destination port (request ident seq_no payload) r = tt
allowed v bytes Source port (reply ident seq_no payload) r = tt
allowed v bytes Destination port (reply ident seq_no payload) r = tt

-- the port of a translated frame is accepted
pub translated-allowed : (old new : List ℕ) (side : Side) (addr : List ℕ) (port : ℕ) (a : IsTranslated old new side addr port) → AllowsPort side a.transport port
translated-allowed old new side addr port a =
    let after = carried new a.link (with_addr side addr a.header) (with_port side port a.transport) a.after in
    allowed (with_addr side addr a.header) (ipv4_payload (drop 14 new)) side port a.transport after.carries

pub translated-unrejected : (old new : List ℕ) (side : Side) (addr : List ℕ) (port : ℕ) (r : Rejection) → IsTranslated old new side addr port → ¬ IsUntranslated old side port r
translated-unrejected old new side addr port r a (inl why) = carries-unrejected old a.link a.header a.transport r a.before why
translated-unrejected old new side addr port r a (inr (is, why)) =
    why.disallowed (subst (λ t. AllowsPort side t port) (transport-of-one old a.link why.link a.header why.header a.transport why.transport a.before why.carries) (translated-allowed old new side addr port a))

pub untranslated-once : (frame : List ℕ) (side : Side) (port : ℕ) (r s : Rejection) → IsUntranslated frame side port r → IsUntranslated frame side port s → r ≡ s
untranslated-once frame side port r s (inl a) (inl b) = computed-one _ r s a b
untranslated-once frame side port r s (inl a) (inr (is, b)) = absurd (carries-unrejected frame b.link b.header b.transport r b.carries a)
untranslated-once frame side port r s (inr (is, a)) (inl b) = absurd (carries-unrejected frame a.link a.header a.transport s a.carries b)
untranslated-once frame side port r s (inr (is, a)) (inr (also, b)) = is ∙ sym also
