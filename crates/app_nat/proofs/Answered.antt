-- An answer is given back to the endpoint that it is for.
use Rattle.std.proofs.Common.{ℕ, ◌≡◌, ◌∙◌, ◌≢◌, inl, inr, List, Result, Ok, Err, IfErr, IfOk, MatchResult, length, refl, sym, ap, subst, arith}
use Rattle.std.proofs.Math.ListN.{set, length-set}
use Rattle.std.proofs.lemmas.Bool.{cases_eq}
use Rattle.app_nat.proofs.Calls.{after_inbound-inside}
use Rattle.app_nat.proofs.Meaning.{chosen-exists, chosen-leads, chosen-len, chosen-mappings, opened-as, opened-at, opened-exists}
use Rattle.app_nat.proofs.Places.{other-at, place-apart, same-at}
use Rattle.app_nat.proofs.Tables.{same-end}
use Rattle.app_nat.specs.Mapping.{IsOf, after_inbound}
use Rattle.app_nat.specs.State.{protocol_of}
use Rattle.app_nat.specs.Table.{Chooses, Finds, HasPort, MapsTo, Opens, kept, made, mapping_at, place_of}
use Rattle.app_nat.specs.declared.state.Event.{Event}
use Rattle.app_nat.specs.declared.mapping.Ipv4Endpoint.{Ipv4Endpoint}
use Rattle.app_nat.specs.declared.mapping.Mapping.{Mapping}
use Rattle.app_nat.specs.declared.nat.Nat.{Nat}
use Rattle.app_nat.specs.declared.state.Protocol.{Protocol}
use Rattle.app_nat.specs.declared.state.Protocol.TheVariants.{Icmp}
use Rattle.ip_wire.specs.Types.{Ipv4Repr}
use Rattle.app_nat.proofs.Faults.{carries-unrejected}
use Rattle.app_nat.proofs.NatOnce.{header-of-one, transport-of-one}
use Rattle.app_nat.specs.Flows.{AnswerReaches, ComesIn, GoesOut, PacketGoesOut, IsAnswer, IsKeptOutside, IsLive, Passes, bounces, destination_of, event_by, event_of, flow_protocol, passes_in, passes_none, passes_out, source_of}
use Rattle.app_nat.specs.Nat.{IsPacket, IsTranslated, Transport, datagram, kind_of, port_of, reply, request, segment, with_addr, with_port}
use Rattle.app_nat.specs.declared.translation.Rejection.{Rejection}
use Rattle.app_nat.specs.declared.translation.Rejection.TheVariants.{OtherProtocol}
use Rattle.app_edit.specs.declared.side.Side.TheVariants.{Source, Destination}
use Rattle.app_nat.specs.declared.packet.Kind.{Kind}
use Rattle.app_nat.specs.declared.packet.Kind.TheVariants as kind
use Rattle.app_nat.specs.declared.packet.Packet.{Packet}

-- ---- one mapping

-- the outside port exists, and its mapping is of this inside endpoint, live or not
record IsMapped (nat : Nat) (mappings : List Mapping) (protocol : Protocol) (port : ℕ) (inside : Ipv4Endpoint) : Type 0 where
  exists : HasPort nat (length mappings) port
  leads : IsOf inside (mapping_at nat mappings protocol port)

-- a write that keeps the inside endpoint of a mapping at its own place
written : (nat : Nat) (old new : List Mapping) (a b : Protocol) (p q : ℕ) (m : Mapping) (inside : Ipv4Endpoint) → HasPort nat (length old) p
    → new ≡ set old (place_of nat (length old) a p) m → IsMapped nat old b q inside → (b ≡ a → q ≡ p → IsOf inside m) → IsMapped nat new b q inside
written nat old new a b p q m inside here is was own =
    let long : length new ≡ length old = ap length is ∙ length-set old (place_of nat (length old) a p) m in
    let exists : HasPort nat (length new) q = subst (λ n. HasPort nat n q) (sym long) was.exists in
    let at : mapping_at nat new b q ≡ mapping_at nat (set old (place_of nat (length old) a p) m) b q = ap (λ l. mapping_at nat l b q) is in
    elim (cases_eq (place_of nat (length old) b q) (place_of nat (length old) a p)) [
      | inl same ↦
          let both = place-apart nat (length old) b a q p was.exists here same in
          let there : mapping_at nat new b q ≡ m = at ∙ (λ i. mapping_at nat (set old (place_of nat (length old) a p) m) (both.0 i) (both.1 i)) ∙ same-at nat old a p m here in
          record { exists = exists; leads = subst (IsOf inside) (sym there) (own both.0 both.1) }
      | inr apart ↦ record { exists = exists; leads = subst (IsOf inside) (sym (at ∙ other-at nat old a b p q m apart)) was.leads }
    ]

-- a live mapping that is chosen keeps its inside endpoint
chosen-keeps : (nat : Nat) (old : List Mapping) (now : ℕ) (event : Event) (inside remote own : Ipv4Endpoint) (port : ℕ) (l : List Mapping) (m : Mapping)
    → Chooses nat old now event inside remote port l m → IsLive nat old now (protocol_of event) port → IsOf own (mapping_at nat old (protocol_of event) port) → IsOf own m
chosen-keeps nat old now event inside remote own port l m (kept first) live leads = leads
chosen-keeps nat old now event inside remote own port l m (made free first) live leads = absurd (omega (arith, live, first.holds.expired))

opens-keeps : (nat : Nat) (old new : List Mapping) (now : ℕ) (event : Event) (inside remote own : Ipv4Endpoint) (port q : ℕ) (b : Protocol)
    → Opens nat old new now event inside remote port → IsLive nat old now b q → IsMapped nat old b q own → IsMapped nat new b q own
opens-keeps nat old new now event inside remote own port q b o live was =
    let there : IsMapped nat o.table b q own = record {
      exists = subst (λ n. HasPort nat n q) (sym (chosen-len nat old now event inside remote port o.table o.mapping o.chosen)) was.exists;
      leads = subst (IsOf own) (sym (chosen-mappings nat old now event inside remote port o.table o.mapping o.chosen b q)) was.leads;
    } in
    written nat o.table new (protocol_of event) b port q o.mapping own (opened-exists nat old new now event inside remote port o)
    (opened-as nat old new now event inside remote port o) there
    (λ is at. chosen-keeps nat old now event inside remote own port o.table o.mapping o.chosen
    (subst (λ x. IsLive nat old now x port) is (subst (IsLive nat old now b) at live))
    (subst (λ x. IsOf own (mapping_at nat old x port)) is (subst (λ x. IsOf own (mapping_at nat old b x)) at was.leads)))

finds-keeps : (nat : Nat) (old new : List Mapping) (now : ℕ) (event : Event) (remote inside own : Ipv4Endpoint) (port q : ℕ) (b : Protocol)
    → Finds nat old new now event port remote inside → IsMapped nat old b q own → IsMapped nat new b q own
finds-keeps nat old new now event remote inside own port q b f was =
    let m = mapping_at nat old (protocol_of event) port in
    written nat old new (protocol_of event) b port q (after_inbound nat now event remote m) own f.mapped.exists f.becomes was
    (λ is at. after_inbound-inside nat now event remote m own
    (subst (λ x. IsOf own (mapping_at nat old x port)) is (subst (λ x. IsOf own (mapping_at nat old b x)) at was.leads)))

-- the mapping keeps its inside endpoint while frames pass
passed : (nat : Nat) (protocol : Protocol) (port : ℕ) (last first : List Mapping) (inside : Ipv4Endpoint) → Passes nat protocol port last first
    → IsMapped nat first protocol port inside → IsMapped nat last protocol port inside
passed nat protocol port last first inside passes_none was = was
passed nat protocol port last first inside (passes_out old new now before after live g rest) was =
    passed nat protocol port last new inside rest
    (opens-keeps nat old new now (event_of g.packet) (source_of g.packet) (destination_of g.packet) inside g.port port protocol g.opens live was)
passed nat protocol port last first inside (passes_in old new now before after live g rest) was =
    passed nat protocol port last new inside rest
    (finds-keeps nat old new now (event_of g.packet) (source_of g.packet) g.inside inside g.packet.dst_port port protocol g.finds was)
passed nat protocol port last first inside (bounces old new now frame live g rest) was =
    passed nat protocol port last new inside rest
    (finds-keeps nat old new now (event_of g.packet) (source_of g.packet) g.inside inside g.packet.dst_port port protocol g.finds was)

-- ---- the packet in a frame

pub packet-once : (frame : List ℕ) (p q : Packet) → IsPacket frame p → IsPacket frame q → p ≡ q
packet-once frame p q a b =
    let header = header-of-one frame a.link b.link p.header q.header a.transport b.transport a.carries b.carries in
    let transport = transport-of-one frame a.link b.link p.header q.header a.transport b.transport a.carries b.carries in
    let src : p.src_port ≡ q.src_port = a.described.src_port ∙ ap (port_of Source) transport ∙ sym b.described.src_port in
    let dst : p.dst_port ≡ q.dst_port = a.described.dst_port ∙ ap (port_of Destination) transport ∙ sym b.described.dst_port in
    let kind : p.kind ≡ q.kind = a.described.kind ∙ ap kind_of transport ∙ sym b.described.kind in
    λ i. record { header = header i; src_port = src i; dst_port = dst i; kind = kind i }

written-port : (port : ℕ) (t : Transport) → port_of Source (with_port Source port t) ≡ port
written-port port (datagram v payload) = refl
written-port port (segment v payload) = refl
written-port port (request ident seq_no payload) = refl
written-port port (reply ident seq_no payload) = refl

written-kind : (port : ℕ) (t : Transport) → kind_of (with_port Source port t) ≡ kind_of t
written-kind port (datagram v payload) = refl
written-kind port (segment v payload) = refl
written-kind port (request ident seq_no payload) = refl
written-kind port (reply ident seq_no payload) = refl

-- the packet of a frame after its source was translated
record IsSent (outside : List ℕ) (new_port : ℕ) (p sent : Packet) : Type 0 where
  addr : sent.header.src_addr ≡ outside
  port : sent.src_port ≡ new_port
  kind : sent.kind ≡ p.kind

sent-as : (before after : List ℕ) (p sent : Packet) (addr : List ℕ) (port : ℕ) → IsPacket before p → IsPacket after sent → IsTranslated before after Source addr port → IsSent addr port p sent
sent-as before after p sent addr port a b t =
    let header = header-of-one after b.link t.link sent.header (with_addr Source addr t.header) b.transport (with_port Source port t.transport) b.carries t.after in
    let new = transport-of-one after b.link t.link sent.header (with_addr Source addr t.header) b.transport (with_port Source port t.transport) b.carries t.after in
    let old = transport-of-one before t.link a.link t.header p.header t.transport a.transport t.before a.carries in
    record {
      addr = ap (λ (v : Ipv4Repr). v.src_addr) header;
      port = b.described.src_port ∙ ap (port_of Source) new ∙ written-port port t.transport;
      kind = b.described.kind ∙ ap kind_of new ∙ written-kind port t.transport ∙ ap kind_of old ∙ sym a.described.kind;
    }

-- ---- the answer

-- an answer can come to a UDP or TCP packet only if its port is not 0
pub answered-port : (k : Kind) (port : ℕ) → AnswerReaches k port → protocol_of (event_by k) ≢ Icmp → port ≢ 0
answered-port kind.Udp port some no_echo = some
answered-port (kind.Tcp control) port some no_echo = some
answered-port kind.EchoRequest port some no_echo = absurd (no_echo refl)
answered-port kind.EchoReply port none no_echo = absurd none

-- what the table says of the source of an answered packet
record IsHeld (nat : Nat) (mappings : List Mapping) (now : ℕ) (reply : Packet) (inside : Ipv4Endpoint) : Type 0 where
  outside : reply.header.dst_addr ≡ nat.outside
  mapped : MapsTo nat mappings now (flow_protocol reply) reply.dst_port inside
  no_request : reply.kind ≢ kind.EchoRequest
  some : flow_protocol reply ≢ Icmp → inside.port ≢ 0

held : (nat : Nat) (old new later : List Mapping) (out now : ℕ) (before after answer : List ℕ) (g : PacketGoesOut nat old new out before after) (a : IsAnswer nat new later now after answer)
    → IsHeld nat later now a.reply (source_of g.packet)
held nat old new later out now before after answer g a =
    let o = g.opens in
    let event = event_of g.packet in
    let inside = source_of g.packet in
    let s = sent-as before after g.packet a.packet nat.outside g.port g.carries a.carries g.translated in
    let exists = chosen-exists nat old out event inside (destination_of g.packet) g.port o.table o.mapping o.chosen in
    let long : length new ≡ length old =
    ap length o.becomes ∙ length-set o.table (place_of nat (length old) (protocol_of event) g.port) o.mapping
    ∙ chosen-len nat old out event inside (destination_of g.packet) g.port o.table o.mapping o.chosen in
    let at = opened-at nat old new out event inside (destination_of g.packet) g.port o in
    let first : IsMapped nat new (flow_protocol g.packet) g.port inside = record {
      exists = subst (λ n. HasPort nat n g.port) (sym long) exists;
      leads = subst (IsOf inside) (sym at) (chosen-leads nat old out event inside (destination_of g.packet) g.port o.table o.mapping o.chosen);
    } in
    let same : flow_protocol a.packet ≡ flow_protocol g.packet = ap (λ k. protocol_of (event_by k)) s.kind in
    let there : IsMapped nat new (flow_protocol a.packet) a.packet.src_port inside =
    subst (λ x. IsMapped nat new (flow_protocol a.packet) x inside) (sym s.port) (subst (λ x. IsMapped nat new x g.port inside) (sym same) first) in
    let last = passed nat (flow_protocol a.packet) a.packet.src_port later new inside a.passes there in
    let mapped : MapsTo nat later now (flow_protocol a.packet) a.packet.src_port inside = record { exists = last.exists; live = a.live; leads = last.leads } in
    let addr : a.reply.header.dst_addr ≡ a.packet.header.src_addr = ap (λ (e : Ipv4Endpoint). e.addr) a.to in
    let port : a.reply.dst_port ≡ a.packet.src_port = ap (λ (e : Ipv4Endpoint). e.port) a.to in
    record {
      outside = addr ∙ s.addr;
      mapped = subst (λ x. MapsTo nat later now (flow_protocol a.reply) x inside) (sym port) (subst (λ x. MapsTo nat later now x a.packet.src_port inside) (sym a.protocol) mapped);
      no_request = a.no_request;
      some = λ no_echo. answered-port g.packet.kind g.packet.src_port g.answerable (λ is. no_echo (a.protocol ∙ same ∙ is));
    }

-- no reason applies
unkept : (nat : Nat) (later newest : List Mapping) (now : ℕ) (answer : List ℕ) (p : Packet) (inside : Ipv4Endpoint) (reason : Rejection) → IsPacket answer p
    → IsHeld nat later now p inside → ¬ IsKeptOutside nat later newest now answer reason
unkept nat later newest now answer p inside reason is h (inl (other, inl (inl r, stays))) =
    carries-unrejected answer is.link p.header is.transport reason is.carries r
unkept nat later newest now answer p inside reason is h (inl (other, inl (inr (named, w), stays))) =
    let same = packet-once answer w.packet p w.carries is in
    subst (λ q. q.header.dst_addr ≡ nat.outside → q.kind ≢ kind.EchoRequest → (e : Ipv4Endpoint) → ¬ MapsTo nat later now (flow_protocol q) q.dst_port e) same w.unmapped h.outside
    h.no_request inside h.mapped
unkept nat later newest now answer p inside reason is h (inl (other, inr (named, why))) =
    let same = packet-once answer why.packet p why.carries is in
    let found : MapsTo nat later now (flow_protocol p) p.dst_port why.inside = subst (λ q. MapsTo nat later now (flow_protocol q) q.dst_port why.inside) same why.finds.mapped in
    h.some (subst (λ q. flow_protocol q ≢ Icmp) same why.no_echo) (ap (λ (e : Ipv4Endpoint). e.port) (same-end (mapping_at nat later (flow_protocol p) p.dst_port) inside why.inside h.mapped.leads found.leads) ∙ why.zero)
unkept nat later newest now answer p inside reason is h (inr why) = carries-unrejected answer is.link p.header is.transport OtherProtocol is.carries why.0

answered : {T : Type 0} (result : Result T Rejection) (nat : Nat) (later newest : List Mapping) (now : ℕ) (answer given : List ℕ) (p : Packet) (inside : Ipv4Endpoint)
    → IsPacket answer p → IsHeld nat later now p inside
    → IfOk result (λ _. ComesIn nat later newest now answer given) → IfErr result (IsKeptOutside nat later newest now answer)
    → MatchResult result (λ _. IsTranslated answer given Destination inside.addr inside.port) (λ _. ⊥)
answered (Ok v) nat later newest now answer given p inside is h (inr e) why =
    absurd (carries-unrejected answer is.link p.header is.transport OtherProtocol is.carries e.0)
answered (Ok v) nat later newest now answer given p inside is h (inl came) why =
    let same = packet-once answer came.packet p came.carries is in
    let found : MapsTo nat later now (flow_protocol p) p.dst_port came.inside = subst (λ q. MapsTo nat later now (flow_protocol q) q.dst_port came.inside) same came.finds.mapped in
    let end = same-end (mapping_at nat later (flow_protocol p) p.dst_port) came.inside inside found.leads h.mapped.leads in
    subst (λ (e : Ipv4Endpoint). IsTranslated answer given Destination e.addr e.port) end came.translated
answered (Err reason) nat later newest now answer given p inside is h came why = unkept nat later newest now answer p inside reason is h why

-- the answer to a packet that went out
pub given-back : {S T : Type 0} (first : Result S Rejection) (result : Result T Rejection) (nat : Nat) (old new later newest : List Mapping) (out now : ℕ) (before after answer given : List ℕ)
    → IfOk first (λ _. GoesOut nat old new out before after)
    → IfOk result (λ _. ComesIn nat later newest now answer given) → IfErr result (IsKeptOutside nat later newest now answer)
    → IfOk first (λ _. (packet : Packet) → IsPacket before packet → IsAnswer nat new later now after answer
    → MatchResult result (λ _. IsTranslated answer given Destination packet.header.src_addr packet.src_port) (λ _. ⊥))
given-back (Err e) result nat old new later newest out now before after answer given went came why = tt
given-back (Ok v) result nat old new later newest out now before after answer given (inr e) came why = λ packet is a.
    absurd (carries-unrejected before is.link packet.header is.transport OtherProtocol is.carries e.0)
given-back (Ok v) result nat old new later newest out now before after answer given (inl g) came why = λ packet is a.
    let h = held nat old new later out now before after answer g a in
    let back_to = answered result nat later newest now answer given a.reply (source_of g.packet) a.replies h came why in
    subst (λ (p : Packet). MatchResult result (λ _. IsTranslated answer given Destination p.header.src_addr p.src_port) (λ _. ⊥)) (packet-once before g.packet packet g.carries is) back_to
