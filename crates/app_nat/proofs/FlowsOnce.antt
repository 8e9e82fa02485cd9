-- A NAT with a table lets a frame through in one way, or rejects it for one reason.
use Rattle.std.proofs.Common.{ℕ, ◌≡◌, ◌≢◌, ◌∙◌, ◌⊎◌, ◌≤◌, true, List, None, inl, inr, arith, drop, length, length-drop, ap, refl, subst, subst₂, sym}
use Rattle.std.proofs.lemmas.Bool.Decides.{nat_tests}
use Rattle.std.proofs.lemmas.Option.{none-some, same_Some}
use Rattle.app_nat.proofs.Answered.{answered-port}
pub use Rattle.app_nat.proofs.Answered.{packet-once}
use Rattle.app_nat.proofs.Faults.{by-icmp, carries-unrejected, payload-fault}
use Rattle.app_nat.proofs.Meaning.{port_once, room, table_once}
use Rattle.app_nat.proofs.NatOnce.{translated-allowed, transport-of-one}
use Rattle.app_nat.proofs.Tables.{same-end}
use Rattle.app_nat.specs.Errors.{CarriesError, ErrorComesIn, ErrorGoesOut, IsErrorKeptInside, IsErrorKeptOutside, IsRejectedError, Quotes, Reports, after_header, end_bit, icmp_fault, message_fault, quoted_fault, quotes_enough, quotes_port, translated_error}
use Rattle.app_nat.specs.Flows.{AnswerReaches, ComesIn, GoesOut, IsAnswerable, IsKeptInside, IsKeptOutside, IsPacketKeptInside, IsPacketKeptOutside, IsUnanswerable, IsUnmappedFrame, LeadsToZero, PacketComesIn, PacketGoesOut, destination_of, event_by, event_of, flow_protocol, source_of}
use Rattle.app_nat.specs.Nat.{AllowsPort, IsPacket, IsRejected, Transport, datagram, is_message, kind_of, reply, request, segment, translated}
use Rattle.app_nat.specs.State.{protocol_of}
use Rattle.app_nat.specs.Table.{Finds, IsFull, IsTable, IsUnmapped, MapsTo, Opens, mapping_at}
use Rattle.app_nat.specs.declared.mapping.Ipv4Endpoint.{Ipv4Endpoint}
use Rattle.app_nat.specs.declared.mapping.Mapping.{Mapping}
use Rattle.app_nat.specs.declared.nat.Nat.{Nat}
use Rattle.app_nat.specs.declared.packet.Kind.TheVariants as kind
use Rattle.app_nat.specs.declared.packet.Packet.{Packet}
use Rattle.app_nat.specs.declared.state.Protocol.{Protocol}
use Rattle.app_nat.specs.declared.state.Protocol.TheVariants.{Icmp}
use Rattle.app_nat.specs.declared.translation.Rejection.{Rejection}
use Rattle.app_nat.specs.declared.translation.Rejection.TheVariants.{NoMapping, OtherProtocol, ZeroPort}
use Rattle.app_edit.specs.declared.side.Side.{Side}
use Rattle.app_edit.specs.declared.side.Side.TheVariants.{Source, Destination}
use Rattle.ip_wire.proofs.Ipv4Computed.{ipv4_of-Reads}
use Rattle.ip_wire.proofs.ReadsOnce.{computed-one}
use Rattle.ip_wire.specs.Field.{field}
use Rattle.ip_wire.specs.Frame.{ipv4_payload}
use Rattle.ip_wire.specs.Types.{Ipv4Repr}

-- ---- what a frame carries

pub packet-unrejected : (frame : List ℕ) (p : Packet) (r : Rejection) → IsPacket frame p → ¬ IsRejected frame r
packet-unrejected frame p r a why = carries-unrejected frame a.link p.header a.transport r a.carries why

pub rejected-once : (frame : List ℕ) (r s : Rejection) → IsRejected frame r → IsRejected frame s → r ≡ s
rejected-once frame r s a b = computed-one _ r s a b

-- ---- what an error quotes

quotes-once : (side : Side) (bytes : List ℕ) (q r : _) → Quotes side bytes q → Quotes side bytes r → q ≡ r
quotes-once side bytes q r a b =
    let protocol : q.protocol ≡ r.protocol = same_Some q.protocol r.protocol (sym a.flow ∙ b.flow) in
    let addr : q.end.addr ≡ r.end.addr = a.addr ∙ sym b.addr in
    let port : q.end.port ≡ r.end.port = a.port ∙ ap (λ p. field (after_header bytes) (end_bit p side) 16) protocol ∙ sym b.port in
    λ i. record { protocol = protocol i; end = record { addr = addr i; port = port i } }

quoted-once : (side : Side) (frame : List ℕ) (v w : Ipv4Repr) (q r : _) → CarriesError side frame v q → CarriesError side frame w r → q ≡ r
quoted-once side frame v w q r a b = quotes-once side (drop 8 (ipv4_payload (drop 14 frame))) q r a.reports.quotes b.reports.quotes

header-once : (side : Side) (frame : List ℕ) (v w : Ipv4Repr) (q r : _) → CarriesError side frame v q → CarriesError side frame w r → v ≡ w
header-once side frame v w q r a b =
    let bytes = drop 14 frame in computed-one _ v w ((ipv4_of-Reads true bytes v).1 a.reads.0) ((ipv4_of-Reads true bytes w).1 b.reads.0)

quoted-fault : (side : Side) (bytes : List ℕ) (q : _) → Quotes side bytes q → quoted_fault side bytes ≡ None
quoted-fault side bytes q a =
    let version = a.version in
    let header = a.header in
    let room = a.room in
    let first = a.first in
    let flow = a.flow in
    let enough : quotes_enough bytes ≡ true = grind (arith, nat_tests) in
    let port : quotes_port side bytes ≡ true = grind (arith, nat_tests) in
    rw (enough, port) refl

no-fault : (side : Side) (bytes : List ℕ) (q : _) → Reports side bytes q → icmp_fault side bytes ≡ None
no-fault side bytes q a =
    let header = a.quotes.header in
    let room = a.quotes.room in
    let long : 8 ≤ length bytes = omega (arith, length-drop 8 bytes, header, room) in
    let checksum = a.checksum in
    let message : is_message bytes ≡ true = grind (arith, nat_tests) in
    (rw (a.error, message) refl) ∙ quoted-fault side (drop 8 bytes) q a.quotes

error-unrejected : (side : Side) (frame : List ℕ) (v : Ipv4Repr) (q : _) (r : Rejection) → CarriesError side frame v q → ¬ IsRejectedError side frame r
error-unrejected side frame v q r a why =
    let bytes = ipv4_payload (drop 14 frame) in
    let fault = payload-fault (message_fault side) frame bytes v (record { link = a.link; is = a.is; reads = a.reads; inner = refl }) in
    none-some r (sym (no-fault side bytes q a.reports) ∙ sym (by-icmp side v bytes a.names) ∙ sym fault ∙ why)

-- ---- frames that go out

out-packet : (nat : Nat) (old new other : List Mapping) (now : ℕ) (before after next : List ℕ) → PacketGoesOut nat old new now before after
    → PacketGoesOut nat old other now before next → (new ≡ other) × (after ≡ next)
out-packet nat old new other now before after next a b =
    let same = packet-once before a.packet b.packet a.carries b.carries in
    let opens = subst (λ p. Opens nat old new now (event_of p) (source_of p) (destination_of p) a.port) same a.opens in
    let port = port_once nat old new other now (event_of b.packet) (source_of b.packet) (destination_of b.packet) a.port b.port opens b.opens in (
      table_once nat old new other now (event_of b.packet) (source_of b.packet) (destination_of b.packet) a.port b.port opens b.opens,
      a.translated.bytes ∙ ap (λ n. translated Source nat.outside n before) port ∙ sym b.translated.bytes,
    )

out-error : (nat : Nat) (old : List Mapping) (now : ℕ) (before after next : List ℕ) → IsTable nat old now → ErrorGoesOut nat old now before after
    → ErrorGoesOut nat old now before next → after ≡ next
out-error nat old now before after next table a b =
    let quoted = quoted-once Destination before a.header b.header a.quoted b.quoted a.translated.before b.translated.before in
    let maps = subst (λ q. MapsTo nat old now q.protocol a.port q.end) quoted a.maps in
    let port = table.apart b.quoted.protocol a.port b.port b.quoted.end maps b.maps in
    a.translated.bytes ∙ (λ i. translated_error (quoted i).protocol Destination nat.outside (port i) before) ∙ sym b.translated.bytes

pub out-once : (nat : Nat) (old new other : List Mapping) (now : ℕ) (before after next : List ℕ) → IsTable nat old now → GoesOut nat old new now before after
    → GoesOut nat old other now before next → (new ≡ other) × (after ≡ next)
out-once nat old new other now before after next table (inl a) (inl b) = out-packet nat old new other now before after next a b
out-once nat old new other now before after next table (inl a) (inr (why, e, same)) = absurd (packet-unrejected before a.packet OtherProtocol a.carries why)
out-once nat old new other now before after next table (inr (why, e, same)) (inl b) = absurd (packet-unrejected before b.packet OtherProtocol b.carries why)
out-once nat old new other now before after next table (inr (why, e, same)) (inr (too, g, also)) = (same ∙ sym also, out-error nat old now before after next table e g)

-- ---- frames that do not go out

unanswered : (p : Packet) (r : Rejection) → IsAnswerable p → ¬ IsUnanswerable p r
unanswered p ZeroPort reaches (no_icmp, zero) = answered-port p.kind p.src_port reaches no_icmp zero
unanswered p NoMapping reaches echo = subst (λ k. AnswerReaches k p.src_port) echo reaches
unanswered p _ reaches none = absurd none

unanswerable-once : (p : Packet) (r s : Rejection) → IsUnanswerable p r → IsUnanswerable p s → r ≡ s
unanswerable-once p ZeroPort ZeroPort a b = refl
unanswerable-once p ZeroPort NoMapping (no_icmp, zero) echo = absurd (no_icmp (ap (λ k. protocol_of (event_by k)) echo))
unanswerable-once p ZeroPort _ a b = absurd b
unanswerable-once p NoMapping ZeroPort echo (no_icmp, zero) = absurd (no_icmp (ap (λ k. protocol_of (event_by k)) echo))
unanswerable-once p NoMapping NoMapping a b = refl
unanswerable-once p NoMapping _ a b = absurd b
unanswerable-once p _ s a b = absurd a

-- a packet that is kept is no other message
kept-unrejected : (nat : Nat) (old : List Mapping) (now : ℕ) (frame : List ℕ) (r : Rejection) → r ≢ OtherProtocol → IsPacketKeptInside nat old now frame r
    → ¬ IsRejected frame OtherProtocol
kept-unrejected nat old now frame r other (inl rejected) why = other (rejected-once frame r OtherProtocol rejected why)
kept-unrejected nat old now frame r other (inr (inl g)) why = packet-unrejected frame g.packet OtherProtocol g.carries why
kept-unrejected nat old now frame r other (inr (inr (is, h))) why = packet-unrejected frame h.packet OtherProtocol h.carries why

packet-unkept : (nat : Nat) (old new : List Mapping) (now : ℕ) (before after : List ℕ) (r : Rejection) → PacketGoesOut nat old new now before after
    → ¬ IsPacketKeptInside nat old now before r
packet-unkept nat old new now before after r a (inl rejected) = packet-unrejected before a.packet r a.carries rejected
packet-unkept nat old new now before after r a (inr (inl g)) =
    unanswered a.packet r a.answerable (subst (λ p. IsUnanswerable p r) (packet-once before g.packet a.packet g.carries a.carries) g.unanswerable)
packet-unkept nat old new now before after r a (inr (inr (is, h))) =
    room nat old new now (event_of a.packet) (source_of a.packet) (destination_of a.packet) a.port a.opens
    (subst (λ p. IsFull nat old now (flow_protocol p) (source_of p)) (packet-once before h.packet a.packet h.carries a.carries) h.full)

error-unkept : (nat : Nat) (old : List Mapping) (now : ℕ) (before after : List ℕ) (r : Rejection) → IsTable nat old now → ErrorGoesOut nat old now before after
    → ¬ IsErrorKeptInside nat old now before r
error-unkept nat old now before after r table e (inl rejected) = error-unrejected Destination before e.header e.quoted r e.translated.before rejected
error-unkept nat old now before after r table e (inr (is, u)) =
    let quoted = quoted-once Destination before u.header e.header u.quoted e.quoted u.carries e.translated.before in
    let unmapped = subst (λ q. IsUnmapped nat old now q.protocol q.end) quoted u.unmapped in
    unmapped e.port (table.placed e.quoted.protocol e.port e.quoted.end e.maps) e.maps

pub out-unkept : (nat : Nat) (old new : List Mapping) (now : ℕ) (before after : List ℕ) (r : Rejection) → IsTable nat old now → GoesOut nat old new now before after
    → ¬ IsKeptInside nat old now before r
out-unkept nat old new now before after r table (inl a) (inl (other, k)) = packet-unkept nat old new now before after r a k
out-unkept nat old new now before after r table (inl a) (inr (why, k)) = packet-unrejected before a.packet OtherProtocol a.carries why
out-unkept nat old new now before after r table (inr (why, e, same)) (inl (other, k)) = kept-unrejected nat old now before r other k why
out-unkept nat old new now before after r table (inr (why, e, same)) (inr (too, k)) = error-unkept nat old now before after r table e k

packet-kept : (nat : Nat) (old : List Mapping) (now : ℕ) (frame : List ℕ) (r s : Rejection) → IsPacketKeptInside nat old now frame r → IsPacketKeptInside nat old now frame s
    → r ≡ s
packet-kept nat old now frame r s (inl a) (inl b) = rejected-once frame r s a b
packet-kept nat old now frame r s (inl a) (inr (inl g)) = absurd (packet-unrejected frame g.packet r g.carries a)
packet-kept nat old now frame r s (inl a) (inr (inr (is, h))) = absurd (packet-unrejected frame h.packet r h.carries a)
packet-kept nat old now frame r s (inr (inl g)) (inl b) = absurd (packet-unrejected frame g.packet s g.carries b)
packet-kept nat old now frame r s (inr (inl g)) (inr (inl k)) =
    unanswerable-once k.packet r s (subst (λ p. IsUnanswerable p r) (packet-once frame g.packet k.packet g.carries k.carries) g.unanswerable) k.unanswerable
packet-kept nat old now frame r s (inr (inl g)) (inr (inr (is, h))) =
    absurd (unanswered h.packet r h.answerable (subst (λ p. IsUnanswerable p r) (packet-once frame g.packet h.packet g.carries h.carries) g.unanswerable))
packet-kept nat old now frame r s (inr (inr (is, h))) (inl b) = absurd (packet-unrejected frame h.packet s h.carries b)
packet-kept nat old now frame r s (inr (inr (is, h))) (inr (inl g)) =
    absurd (unanswered h.packet s h.answerable (subst (λ p. IsUnanswerable p s) (packet-once frame g.packet h.packet g.carries h.carries) g.unanswerable))
packet-kept nat old now frame r s (inr (inr (is, h))) (inr (inr (also, k))) = is ∙ sym also

error-kept : (nat : Nat) (old : List Mapping) (now : ℕ) (frame : List ℕ) (r s : Rejection) → IsErrorKeptInside nat old now frame r → IsErrorKeptInside nat old now frame s → r ≡ s
error-kept nat old now frame r s (inl a) (inl b) = computed-one _ r s a b
error-kept nat old now frame r s (inl a) (inr (is, u)) = absurd (error-unrejected Destination frame u.header u.quoted r u.carries a)
error-kept nat old now frame r s (inr (is, u)) (inl b) = absurd (error-unrejected Destination frame u.header u.quoted s u.carries b)
error-kept nat old now frame r s (inr (is, u)) (inr (also, t)) = is ∙ sym also

pub inside-once : (nat : Nat) (old : List Mapping) (now : ℕ) (frame : List ℕ) (r s : Rejection) → IsKeptInside nat old now frame r → IsKeptInside nat old now frame s → r ≡ s
inside-once nat old now frame r s (inl (other, k)) (inl (another, l)) = packet-kept nat old now frame r s k l
inside-once nat old now frame r s (inl (other, k)) (inr (why, l)) = absurd (kept-unrejected nat old now frame r other k why)
inside-once nat old now frame r s (inr (why, k)) (inl (other, l)) = absurd (kept-unrejected nat old now frame s other l why)
inside-once nat old now frame r s (inr (why, k)) (inr (too, l)) = error-kept nat old now frame r s k l

-- ---- frames that come in

-- an outside port leads to one endpoint
pub end-once : (nat : Nat) (old : List Mapping) (now : ℕ) (p : Protocol) (port : ℕ) (e f : Ipv4Endpoint) → MapsTo nat old now p port e → MapsTo nat old now p port f → e ≡ f
end-once nat old now p port e f a b = same-end (mapping_at nat old p port) e f a.leads b.leads

found-once : (nat : Nat) (old new other : List Mapping) (now : ℕ) (p q : Packet) (e f : Ipv4Endpoint) → p ≡ q → Finds nat old new now (event_of p) p.dst_port (source_of p) e
    → Finds nat old other now (event_of q) q.dst_port (source_of q) f → (new ≡ other) × (e ≡ f)
found-once nat old new other now p q e f same a b =
    let found = subst (λ x. Finds nat old new now (event_of x) x.dst_port (source_of x) e) same a in
    (found.becomes ∙ sym b.becomes, end-once nat old now (flow_protocol q) q.dst_port e f found.mapped b.mapped)

in-packet : (nat : Nat) (old new other : List Mapping) (now : ℕ) (before after next : List ℕ) → PacketComesIn nat old new now before after
    → PacketComesIn nat old other now before next → (new ≡ other) × (after ≡ next)
in-packet nat old new other now before after next a b =
    let same = packet-once before a.packet b.packet a.carries b.carries in
    let found = found-once nat old new other now a.packet b.packet a.inside b.inside same a.finds b.finds in
    (found.0, a.translated.bytes ∙ ap (λ (e : Ipv4Endpoint). translated Destination e.addr e.port before) found.1 ∙ sym b.translated.bytes)

in-error : (nat : Nat) (old : List Mapping) (now : ℕ) (before after next : List ℕ) → ErrorComesIn nat old now before after → ErrorComesIn nat old now before next → after ≡ next
in-error nat old now before after next a b =
    let quoted = quoted-once Source before a.header b.header a.quoted b.quoted a.translated.before b.translated.before in
    let maps = subst (λ q. MapsTo nat old now q.protocol q.end.port a.inside) quoted a.maps in
    let inside = end-once nat old now b.quoted.protocol b.quoted.end.port a.inside b.inside maps b.maps in
    a.translated.bytes ∙ (λ i. translated_error (quoted i).protocol Source (inside i).addr (inside i).port before) ∙ sym b.translated.bytes

pub in-once : (nat : Nat) (old new other : List Mapping) (now : ℕ) (before after next : List ℕ) → ComesIn nat old new now before after → ComesIn nat old other now before next
    → (new ≡ other) × (after ≡ next)
in-once nat old new other now before after next (inl a) (inl b) = in-packet nat old new other now before after next a b
in-once nat old new other now before after next (inl a) (inr (why, e, same)) = absurd (packet-unrejected before a.packet OtherProtocol a.carries why)
in-once nat old new other now before after next (inr (why, e, same)) (inl b) = absurd (packet-unrejected before b.packet OtherProtocol b.carries why)
in-once nat old new other now before after next (inr (why, e, same)) (inr (too, g, also)) = (same ∙ sym also, in-error nat old now before after next e g)

-- ---- frames that do not come in

nonzero : (t : Transport) (port : ℕ) → AllowsPort Destination t port → protocol_of (event_by (kind_of t)) ≢ Icmp → port ≢ 0
nonzero (datagram v payload) port allows no_icmp = allows
nonzero (segment v payload) port allows no_icmp = allows
nonzero (request ident seq_no payload) port allows no_icmp = absurd (no_icmp refl)
nonzero (reply ident seq_no payload) port allows no_icmp = absurd (no_icmp refl)

zero-unkept : (nat : Nat) (old new other : List Mapping) (now : ℕ) (before after : List ℕ) → PacketComesIn nat old new now before after
    → ¬ LeadsToZero nat old other now before
zero-unkept nat old new other now before after a z =
    let same = packet-once before z.packet a.packet z.carries a.carries in
    let found = found-once nat old other new now z.packet a.packet z.inside a.inside same z.finds a.finds in
    let zero : a.inside.port ≡ 0 = ap (λ (e : Ipv4Endpoint). e.port) (sym found.1) ∙ z.zero in
    let t = transport-of-one before a.translated.link a.carries.link a.translated.header a.packet.header a.translated.transport a.carries.transport a.translated.before a.carries.carries in
    let sort : kind_of a.translated.transport ≡ z.packet.kind = ap kind_of t ∙ sym a.carries.described.kind ∙ ap (λ (p : Packet). p.kind) (sym same) in
    let no_icmp = subst (λ k. protocol_of (event_by k) ≢ Icmp) (sym sort) z.no_echo in
    nonzero a.translated.transport a.inside.port (translated-allowed before after Destination a.inside.addr a.inside.port a.translated) no_icmp zero

came-unkept : (nat : Nat) (old new other : List Mapping) (now : ℕ) (before after : List ℕ) (r : Rejection) → PacketComesIn nat old new now before after
    → ¬ IsPacketKeptOutside nat old other now before r
came-unkept nat old new other now before after r a (inl (inl rejected, stays)) = packet-unrejected before a.packet r a.carries rejected
came-unkept nat old new other now before after r a (inl (inr (is, u), stays)) =
    let same = packet-once before u.packet a.packet u.carries a.carries in
    let unmapped = subst (λ p. p.header.dst_addr ≡ nat.outside → p.kind ≢ kind.EchoRequest → (inside : Ipv4Endpoint) → ¬ MapsTo nat old now (flow_protocol p) p.dst_port inside) same u.unmapped in
    unmapped a.outside a.no_request a.inside a.finds.mapped
came-unkept nat old new other now before after r a (inr (is, z)) = zero-unkept nat old new other now before after a z

error-came : (nat : Nat) (old : List Mapping) (now : ℕ) (before after : List ℕ) (r : Rejection) → ErrorComesIn nat old now before after
    → ¬ IsErrorKeptOutside nat old now before r
error-came nat old now before after r e (inl rejected) = error-unrejected Source before e.header e.quoted r e.translated.before rejected
error-came nat old now before after r e (inr (is, u)) =
    let quoted = quoted-once Source before u.header e.header u.quoted e.quoted u.carries e.translated.before in
    let header = header-once Source before u.header e.header u.quoted e.quoted u.carries e.translated.before in
    let unmapped = subst₂ (λ h q. h.dst_addr ≡ nat.outside → q.end.addr ≡ nat.outside → (inside : Ipv4Endpoint) → ¬ MapsTo nat old now q.protocol q.end.port inside) header quoted u.unmapped in
    unmapped e.outside e.sent e.inside e.maps

-- a packet that is kept is no other message
outside-unrejected : (nat : Nat) (old new : List Mapping) (now : ℕ) (frame : List ℕ) (r : Rejection) → r ≢ OtherProtocol → IsPacketKeptOutside nat old new now frame r
    → ¬ IsRejected frame OtherProtocol
outside-unrejected nat old new now frame r other (inl (inl rejected, stays)) why = other (rejected-once frame r OtherProtocol rejected why)
outside-unrejected nat old new now frame r other (inl (inr (is, u), stays)) why = packet-unrejected frame u.packet OtherProtocol u.carries why
outside-unrejected nat old new now frame r other (inr (is, z)) why = packet-unrejected frame z.packet OtherProtocol z.carries why

pub in-unkept : (nat : Nat) (old new other : List Mapping) (now : ℕ) (before after : List ℕ) (r : Rejection) → ComesIn nat old new now before after
    → ¬ IsKeptOutside nat old other now before r
in-unkept nat old new other now before after r (inl a) (inl (not_other, k)) = came-unkept nat old new other now before after r a k
in-unkept nat old new other now before after r (inl a) (inr (why, k, stays)) = packet-unrejected before a.packet OtherProtocol a.carries why
in-unkept nat old new other now before after r (inr (why, e, same)) (inl (not_other, k)) = outside-unrejected nat old other now before r not_other k why
in-unkept nat old new other now before after r (inr (why, e, same)) (inr (too, k, stays)) = error-came nat old now before after r e k

zero-unmapped : (nat : Nat) (old new : List Mapping) (now : ℕ) (frame : List ℕ) (r : Rejection) → LeadsToZero nat old new now frame
    → IsRejected frame r ⊎ ((r ≡ NoMapping) × IsUnmappedFrame nat old now frame) → ⊥
zero-unmapped nat old new now frame r z (inl rejected) = packet-unrejected frame z.packet r z.carries rejected
zero-unmapped nat old new now frame r z (inr (is, u)) =
    let same = packet-once frame u.packet z.packet u.carries z.carries in
    let unmapped = subst (λ p. p.header.dst_addr ≡ nat.outside → p.kind ≢ kind.EchoRequest → (inside : Ipv4Endpoint) → ¬ MapsTo nat old now (flow_protocol p) p.dst_port inside) same u.unmapped in
    unmapped z.outside (λ echo. z.no_echo (ap (λ k. protocol_of (event_by k)) echo)) z.inside z.finds.mapped

unmapped-once : (nat : Nat) (old : List Mapping) (now : ℕ) (frame : List ℕ) (r s : Rejection)
    → IsRejected frame r ⊎ ((r ≡ NoMapping) × IsUnmappedFrame nat old now frame)
    → IsRejected frame s ⊎ ((s ≡ NoMapping) × IsUnmappedFrame nat old now frame) → r ≡ s
unmapped-once nat old now frame r s (inl a) (inl b) = rejected-once frame r s a b
unmapped-once nat old now frame r s (inl a) (inr (is, u)) = absurd (packet-unrejected frame u.packet r u.carries a)
unmapped-once nat old now frame r s (inr (is, u)) (inl b) = absurd (packet-unrejected frame u.packet s u.carries b)
unmapped-once nat old now frame r s (inr (is, u)) (inr (also, t)) = is ∙ sym also

packet-outside : (nat : Nat) (old new other : List Mapping) (now : ℕ) (frame : List ℕ) (r s : Rejection) → IsPacketKeptOutside nat old new now frame r
    → IsPacketKeptOutside nat old other now frame s → (r ≡ s) × (new ≡ other)
packet-outside nat old new other now frame r s (inl (a, stays)) (inl (b, same)) = (unmapped-once nat old now frame r s a b, stays ∙ sym same)
packet-outside nat old new other now frame r s (inl (a, stays)) (inr (is, z)) = absurd (zero-unmapped nat old other now frame r z a)
packet-outside nat old new other now frame r s (inr (is, z)) (inl (b, same)) = absurd (zero-unmapped nat old new now frame s z b)
packet-outside nat old new other now frame r s (inr (is, z)) (inr (also, y)) =
    let same = packet-once frame z.packet y.packet z.carries y.carries in
    (is ∙ sym also, (found-once nat old new other now z.packet y.packet z.inside y.inside same z.finds y.finds).0)

error-outside : (nat : Nat) (old : List Mapping) (now : ℕ) (frame : List ℕ) (r s : Rejection) → IsErrorKeptOutside nat old now frame r → IsErrorKeptOutside nat old now frame s
    → r ≡ s
error-outside nat old now frame r s (inl a) (inl b) = computed-one _ r s a b
error-outside nat old now frame r s (inl a) (inr (is, u)) = absurd (error-unrejected Source frame u.header u.quoted r u.carries a)
error-outside nat old now frame r s (inr (is, u)) (inl b) = absurd (error-unrejected Source frame u.header u.quoted s u.carries b)
error-outside nat old now frame r s (inr (is, u)) (inr (also, t)) = is ∙ sym also

pub outside-once : (nat : Nat) (old new other : List Mapping) (now : ℕ) (frame : List ℕ) (r s : Rejection) → IsKeptOutside nat old new now frame r
    → IsKeptOutside nat old other now frame s → (r ≡ s) × (new ≡ other)
outside-once nat old new other now frame r s (inl (first, k)) (inl (second, l)) = packet-outside nat old new other now frame r s k l
outside-once nat old new other now frame r s (inl (first, k)) (inr (why, l, same)) = absurd (outside-unrejected nat old new now frame r first k why)
outside-once nat old new other now frame r s (inr (why, k, same)) (inl (second, l)) = absurd (outside-unrejected nat old other now frame s second l why)
outside-once nat old new other now frame r s (inr (why, k, same)) (inr (too, l, also)) = (error-outside nat old now frame r s k l, same ∙ sym also)
