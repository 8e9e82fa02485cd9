use Rattle.std.proofs.Common.{◌≡◌, ◌≤◌, ◌<◌, ap, subst, ℕ, Bool, false, List, length, arith}
use Rattle.tcp_stream.specs.Endpoint.{Item}
use Rattle.tcp_stream.specs.Network.{World, Send, happens, run, start}
use Rattle.tcp_stream.specs.Items.{items_of}
use Rattle.tcp_stream.specs.Stands.{room_of}
use Rattle.tcp_stream.specs.Waits.{Waits, IsSend, from_of}
use Rattle.tcp_stream.proofs.GoesOn.{round_goes, pending_some, items_few, by_fin}
use Rattle.tcp_stream.proofs.laws.goes_on.Goals as goal

pub returns-in-Some : goal.returns-in-Some
returns-in-Some c = λ initial events consumed waits stands less.
    let w : World = run events (start initial) in
    let s = c.args.sending.now in
    let r = c.args.receiving.now in
    let o = c.args.outgoing.now in
    let it = c.segment-segment.result in
    let sent = c.segment-segment.new.self in
    let items : List Item = items_of false it.payload.now it.fin in
    let same : items_of it.syn it.payload.now it.fin ≡ items = ap (λ (b : Bool). items_of b it.payload.now it.fin) (c.segment-segment.ensures.syn c.requires.established) in
    let zero : from_of s 0 ≡ 0 = omega arith in
    let legal : IsSend w 0 it.number items = subst (λ (k : ℕ). IsSend w k it.number items) zero (subst (λ (l : List Item). IsSend w (from_of s 0) it.number l) same (c.segment-segment.ensures.legal w waits)) in
    let waits1 : Waits (happens w (Send 0 (length items))) sent o =
    subst (λ (k : ℕ). Waits (happens w (Send k (length items))) sent o) zero (subst (λ (l : List Item). Waits (happens w (Send (from_of s 0) (length l))) sent o) same (c.segment-segment.ensures.waits w waits)) in
    let some : 0 < length items = subst (λ (l : List Item). 0 < length l) same (c.segment-segment.ensures.some c.requires.count (pending_some w s o waits less)) in
    let few : length items ≤ 2147483648 = items_few it.payload.now it.fin (omega (arith, c.segment-segment.ensures.inner)) in
    round_goes initial events consumed o c.args.incoming.now c.on_segment.new.ring s sent c.on_ack.new.self r c.on_segment.new.self it.number c.in-Some.number (room_of r (length c.args.incoming.now)) items
    waits stands c.requires.start c.requires.len c.requires.small c.requires.is_open (by_fin r.has_fin _ c.requires.room) less some few legal waits1 (λ v comes held. c.on_segment.ensures.stands v consumed 0 comes held)
    (λ v held. c.in-Some.ensures.legal v consumed c.on_segment.new.ring held) (λ v ack held. c.on_ack.ensures.waits v 0 ack held)
