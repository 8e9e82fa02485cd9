-- A translated frame gets its old address and port back.
use Rattle.std.proofs.Common.{◌≡◌, ◌∙◌, ◌<◌, inl, inr, List, ℕ, Result, Ok, Err, IfOk, IfErr, drop, length, sym, ap, subst}
use Rattle.app_nat.proofs.Faults.{carries-unrejected}
use Rattle.app_nat.proofs.NatOnce.{header-of-one, transport-of-one}
use Rattle.app_nat.proofs.Translates.{carried}
use Rattle.app_nat.proofs.Undone.{undone}
use Rattle.app_nat.specs.Nat.{AllowsPort, Describes, HasUsualChecksums, IsPacket, IsTranslated, IsUntranslated, ReadsPorts, Transport, addr_of, datagram, on_side, port_of, reply, request, segment, with_addr, with_port}
use Rattle.app_nat.specs.declared.translation.Rejection.{Rejection}
use Rattle.app_edit.specs.declared.side.Side.{Side}
use Rattle.app_edit.specs.declared.side.Side.TheVariants.{Source, Destination}
use Rattle.app_nat.specs.declared.packet.Packet.{Packet}
use Rattle.ip_wire.proofs.Spelled.{AreBytes}
use Rattle.ip_wire.specs.Frame.{ipv4_payload}
use Rattle.ip_wire.specs.Types.{Ipv4Repr}

-- the port of a packet on a side
described-port : (side : Side) (p : Packet) (t : Transport) → Describes p t → on_side p.src_port p.dst_port side ≡ port_of side t
described-port Source p t d = d.src_port
described-port Destination p t d = d.dst_port

-- the port that a transport had is accepted after another one was written
allowed-back : (v : Ipv4Repr) (bytes : List ℕ) (side : Side) (port : ℕ) (t : Transport) → ReadsPorts v bytes t → AllowsPort side (with_port side port t) (port_of side t)
allowed-back v bytes Source port (datagram u payload) r = tt
allowed-back v bytes Destination port (datagram u payload) r = λ zero. r.1.receiver (sym r.1.dst_port ∙ zero)
allowed-back v bytes Source port (segment u payload) r = λ zero. r.1.sender (sym r.1.src_port ∙ zero)
allowed-back v bytes Destination port (segment u payload) r = λ zero. r.1.receiver (sym r.1.dst_port ∙ zero)
allowed-back v bytes Source port (request ident seq_no payload) r = tt
allowed-back v bytes Destination port (request ident seq_no payload) r = tt
allowed-back v bytes Source port (reply ident seq_no payload) r = tt
allowed-back v bytes Destination port (reply ident seq_no payload) r = tt

-- a translated frame may get its port back
back-untranslated : (old new : List ℕ) (side : Side) (addr : List ℕ) (port : ℕ) (r : Rejection) (was : IsTranslated old new side addr port)
    → ¬ IsUntranslated new side (port_of side was.transport) r
back-untranslated old new side addr port r was (inr (is, why)) =
    let v = was.header in
    let t = was.transport in
    let read = carried old was.link v t was.before in
    let accepts = allowed-back v (ipv4_payload (drop 14 old)) side port t read.carries in
    let same = transport-of-one new was.link why.link (with_addr side addr v) why.header (with_port side port t) why.transport was.after why.carries in
    why.disallowed (subst (λ u. AllowsPort side u (port_of side t)) same accepts)
back-untranslated old new side addr port r was (inl why) = carries-unrejected new was.link (with_addr side addr was.header) (with_port side port was.transport) r was.after why

-- the result of the way back, for the address and the port of the packet that the frame carried
pub goes-back : {T : Type 0} (answer : Result T Rejection) (old new back : List ℕ) (p : Packet) (side : Side) (addr was_addr : List ℕ) (port was_port : ℕ) → IsPacket old p
    → IsTranslated old new side addr port → was_addr ≡ addr_of side p.header → was_port ≡ on_side p.src_port p.dst_port side
    → AreBytes old → length addr ≡ 4 → port < 65536 → HasUsualChecksums old
    → IfOk answer (λ _. IsTranslated new back side was_addr was_port) → IfErr answer (IsUntranslated new side was_port)
    → (back ≡ old) × IfErr answer (λ _. ⊥)
goes-back (Ok v) old new back p side addr was_addr port was_port is was at from are four fits usual done why =
    let same_header = header-of-one old is.link was.link p.header was.header is.transport was.transport is.carries was.before in
    let same_transport = transport-of-one old is.link was.link p.header was.header is.transport was.transport is.carries was.before in
    let to_addr : was_addr ≡ addr_of side was.header = at ∙ ap (addr_of side) same_header in
    let to_port : was_port ≡ port_of side was.transport = from ∙ described-port side p is.transport is.described ∙ ap (port_of side) same_transport in
    (undone old new back side addr port was are four fits usual (rw (sym to_addr, sym to_port) done), tt)
goes-back (Err r) old new back p side addr was_addr port was_port is was at from are four fits usual done why =
    let same_transport = transport-of-one old is.link was.link p.header was.header is.transport was.transport is.carries was.before in
    let to_port : was_port ≡ port_of side was.transport = from ∙ described-port side p is.transport is.described ∙ ap (port_of side) same_transport in
    absurd (back-untranslated old new side addr port r was (subst (λ (k : ℕ). IsUntranslated new side k r) to_port why))
