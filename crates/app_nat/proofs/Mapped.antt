-- Frames that go out and come in by a table of mappings.
use Rattle.std.proofs.Common.{IfErr, ℕ, ◌≡◌, ◌≢◌, Bool, Decides, bytes_eq, false, not, true, true≢false, List, Some, Result, Ok, Err, inl, inr, refl, sym, ap, subst, ◌∙◌, arith}
use Rattle.std.proofs.lemmas.Bool.{cases_lt}
use Rattle.std.proofs.lemmas.Slice.Eq.{bytes_eq-Decides}
use Rattle.app_nat.specs.declared.mapping.Mapping.{Mapping}
use Rattle.app_nat.specs.declared.nat.Nat.{Nat}
use Rattle.app_nat.specs.Table.{Finds}
use Rattle.app_nat.specs.declared.mapping.Ipv4Endpoint.{Ipv4Endpoint}
use Rattle.app_nat.specs.State.{protocol_of}
use Rattle.app_nat.specs.declared.state.Protocol.TheVariants.{Icmp}
use Rattle.app_nat.proofs.NatOnce.{transport-of-one}
use Rattle.app_nat.specs.Flows.{IsPacketKeptInside, IsPacketKeptOutside, IsUnanswerable, event_by, event_of, source_of}
use Rattle.app_nat.specs.Nat.{AllowsPort, IsPacket, IsRejected, RejectsPort, Transport, datagram, kind_of, reply, request, segment}
use Rattle.app_nat.specs.declared.packet.Packet.{Packet}
use Rattle.app_nat.specs.declared.translation.Rejection.{Rejection}
use Rattle.app_nat.specs.declared.translation.Rejection.TheVariants.{OtherProtocol, ZeroPort, NoMapping, NoFreePort}
use Rattle.app_edit.specs.declared.side.Side.{Side}
use Rattle.app_edit.specs.declared.side.Side.TheVariants.{Source, Destination}

-- ---- frames that do not parse

-- they do not go out
pub kept-inside : (nat : Nat) (mappings : List Mapping) (now : ℕ) (frame : List ℕ) (reason : Rejection) → IsRejected frame reason → IsPacketKeptInside nat mappings now frame reason
kept-inside nat mappings now frame reason why = inl why

-- and do not come in
pub kept-outside : (nat : Nat) (mappings : List Mapping) (now : ℕ) (frame : List ℕ) (reason : Rejection) → IsRejected frame reason → IsPacketKeptOutside nat mappings mappings now frame reason
kept-outside nat mappings now frame reason why = inl (inl why, refl)

-- ---- addresses

-- bytes that were compared and do not differ are equal
pub undiffering : (a b : List ℕ) (differ : Bool) → differ ≡ not (bytes_eq a b) → differ ≡ false → a ≡ b
undiffering a b differ is none = by_test (bytes_eq a b) (bytes_eq-Decides a b) (sym is ∙ none)
  where
    by_test : (test : Bool) → Decides test (a ≡ b) → not test ≡ false → a ≡ b
    by_test true is h = is.0 refl
    by_test false is h = absurd (true≢false h)

-- ---- ports

-- a receiver accepts every port but 0
some-port : (side : Side) (t : Transport) (port : ℕ) → port ≢ 0 → AllowsPort side t port
some-port Source (datagram v payload) port some = tt
some-port Source (segment v payload) port some = some
some-port Source (request ident seq_no payload) port some = tt
some-port Source (reply ident seq_no payload) port some = tt
some-port Destination (datagram v payload) port some = some
some-port Destination (segment v payload) port some = some
some-port Destination (request ident seq_no payload) port some = tt
some-port Destination (reply ident seq_no payload) port some = tt

-- a port that is rejected is 0
pub disallowed-zero : (frame : List ℕ) (side : Side) (port : ℕ) → RejectsPort frame side port → port ≡ 0
disallowed-zero frame side port why = elim (cases_lt 0 port) [
  | inl some ↦ absurd (why.disallowed (some-port side why.transport port (λ zero. omega (arith, zero, some))))
  | inr none ↦ omega (arith, none)
]

-- no identifier of an echo message is rejected
disallowed-kind : (side : Side) (t : Transport) (port : ℕ) → ¬ AllowsPort side t port → protocol_of (event_by (kind_of t)) ≢ Icmp
disallowed-kind side (datagram v payload) port disallows is = cc
disallowed-kind side (segment v payload) port disallows is = cc
disallowed-kind Source (request ident seq_no payload) port disallows is = disallows tt
disallowed-kind Destination (request ident seq_no payload) port disallows is = disallows tt
disallowed-kind Source (reply ident seq_no payload) port disallows is = disallows tt
disallowed-kind Destination (reply ident seq_no payload) port disallows is = disallows tt

-- a frame whose mapping leads to port 0 does not come in
pub in-zero : {T : Type 0} (answer : Result T Rejection) (nat : Nat) (old new : List Mapping) (now : ℕ) (frame : List ℕ) (p : Packet) (inside : Ipv4Endpoint)
    → IsPacket frame p → p.header.dst_addr ≡ nat.outside → Finds nat old new now (event_of p) p.dst_port (source_of p) inside
    → IfErr answer (λ reason. reason ≡ ZeroPort) → IfErr answer (λ _. RejectsPort frame Destination inside.port)
    → IfErr answer (IsPacketKeptOutside nat old new now frame)
in-zero (Ok v) nat old new now frame p inside carries outside finds is why = tt
in-zero (Err reason) nat old new now frame p inside carries outside finds is why =
    let same = transport-of-one frame carries.link why.link p.header why.header carries.transport why.transport carries.carries why.carries in
    let kind : p.kind ≡ kind_of why.transport = carries.described.kind ∙ ap kind_of same in
    inr (
      is,
      record {
        packet = p;
        carries = carries;
        outside = outside;
        no_echo = λ echo. disallowed-kind Destination why.transport inside.port why.disallowed (ap (λ k. protocol_of (event_by k)) (sym kind) ∙ echo);
        inside = inside;
        finds = finds;
        zero = disallowed-zero frame Destination inside.port why;
      },
    )

-- ---- packets that are none of these

pub other-inside : (nat : Nat) (mappings : List Mapping) (now : ℕ) (frame : List ℕ) (reason : Rejection) → reason ≡ OtherProtocol
    → IsPacketKeptInside nat mappings now frame reason → IsRejected frame OtherProtocol
other-inside nat mappings now frame reason other (inl why) = why ∙ ap Some other
other-inside nat mappings now frame reason other (inr (inl why)) = absurd (subst (IsUnanswerable why.packet) other why.unanswerable)
other-inside nat mappings now frame reason other (inr (inr (is, why))) = let differs : NoFreePort ≡ OtherProtocol = sym is ∙ other in absurd (cc)

pub other-outside : (nat : Nat) (old new : List Mapping) (now : ℕ) (frame : List ℕ) (reason : Rejection) → reason ≡ OtherProtocol
    → IsPacketKeptOutside nat old new now frame reason → IsRejected frame OtherProtocol × (new ≡ old)
other-outside nat old new now frame reason other (inl (inl why, same)) = (why ∙ ap Some other, same)
other-outside nat old new now frame reason other (inl (inr (is, why), same)) = let differs : NoMapping ≡ OtherProtocol = sym is ∙ other in absurd (cc)
other-outside nat old new now frame reason other (inr (is, why)) = let differs : ZeroPort ≡ OtherProtocol = sym is ∙ other in absurd (cc)
