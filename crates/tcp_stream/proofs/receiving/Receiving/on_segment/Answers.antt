use Rattle.std.proofs.Common.{◌≡◌, ◌≤◌, ◌<◌, ◌⊎◌, inl, inr, ◌∙◌, ap, ℕ, length, take, drop, min, arith, ◌+◌, ◌-◌, ◌%◌, false}
use Rattle.tcp_stream.specs.Endpoint.{distance}
use Rattle.tcp_stream.specs.Network.{Segment_comes, happens}
use Rattle.tcp_stream.specs.Stands.{room_of}
use Rattle.tcp_stream.specs.declared.receiving.Receiving.{Receiving}
use Rattle.tcp_stream.proofs.Received.{length_rest, room_fits}
use Rattle.tcp_stream.proofs.Standing.{comes_early, comes_in_vain, nothing_used}
use Rattle.tcp_stream.proofs.Keeping.{comes_ahead}
use Rattle.tcp_stream.proofs.Taking.{ended, fin_stays, stays, taken}
use Rattle.tcp_stream.proofs.receiving.Receiving.on_segment.Goals as goal
use Rattle.tcp_stream.proofs.receiving.Receiving.on_segment.Goals.{else-fin-via-then-fin+else-n-room, else-fin-via-else-fin}

pub returns-then-not-self-clause-stands : goal.returns-then-not-self-clause-stands
returns-then-not-self-clause-stands c = λ w consumed which it stands.
    nothing_used w _ consumed c.args.self.now c.args.ring.now (comes_early w which c.args.number _ c.args.payload.now c.args.fin consumed c.args.self.now c.args.ring.now it stands c.if-not-self.true) stands

pub returns-then-skip-ge-HALF-clause-stands : goal.returns-then-skip-ge-HALF-clause-stands
returns-then-skip-ge-HALF-clause-stands c = λ w consumed which it stands.
    let self = c.args.self.now in
    let b = c.args.ring.now in
    let gap : 2147483648 ≤ distance self.next c.args.number = omega (arith, c.if-skip-ge-HALF.true) in
    let same : happens w (Segment_comes which (room_of self (length b))) ≡ w = comes_in_vain w which c.args.number _ c.args.payload.now c.args.fin consumed self b it stands c.if-not-self.false (omega arith) (inl gap) in
    let ahead : distance c.args.number self.next ≡ (c.args.number + (4294967296 - self.next)) % 4294967296 = omega arith in
    nothing_used w _ consumed c.keep.new.self c.keep.new.ring same
    (c.keep.ensures.stands w consumed which (comes_ahead w which c.args.number _ _ consumed self b it stands c.if-not-self.false (omega arith) gap ahead) stands)

pub returns-then-skip-payload-clause-stands : goal.returns-then-skip-payload-clause-stands
returns-then-skip-payload-clause-stands c = λ w consumed which it stands.
    let self = c.args.self.now in
    let old : length c.args.payload.now < distance self.next c.args.number = omega (arith, c.if-skip-payload.true) in
    nothing_used w _ consumed self c.args.ring.now (comes_in_vain w which c.args.number _ c.args.payload.now c.args.fin consumed self c.args.ring.now it stands c.if-not-self.false (omega arith) (inr old)) stands

pub returns-then-n-room-clause-stands : goal.returns-then-n-room-clause-stands
returns-then-n-room-clause-stands c = λ w consumed which it stands.
    let self = c.args.self.now in
    let b = c.args.ring.now in
    let payload = c.args.payload.now in
    let skip = (self.next + (4294967296 - c.args.number)) % 4294967296 in
    let n = c.min-n.result in
    let rest : length (take (length payload - skip) (drop skip payload)) ≡ length payload - skip = length_rest payload skip in
    let room : c.room-room.result ≡ room_of self (length b) = c.room-room.ensures in
    let size : n ≡ min (length payload - skip) (room_of self (length b)) = c.min-n.ensures ∙ ap (λ (k : ℕ). min k c.room-room.result) rest ∙ ap (λ (k : ℕ). min (length payload - skip) k) room in
    let d = c.end.new.self in
    let same = c.end.ensures.same in
    ended w which c.args.number (room_of self (length b)) payload c.args.fin consumed self b c.put.new.buffer it stands c.if-not-self.false skip n (omega arith) (omega arith) (omega arith) c.requires.begin c.requires.len c.requires.small size
    (omega (arith, size, c.requires.len, room_fits self (length b))) c.put.ensures c.if-fin.true (omega (arith, c.if-n-room.true, c.min-n.ensures, rest)) (omega (arith, c.if-n-room.true, room))
    d (ap (λ (r : Receiving). r.next) same) (ap (λ (r : Receiving). r.len) same) (ap (λ (r : Receiving). r.start) same) (ap (λ (r : Receiving). r.has_fin) same) (ap (λ (r : Receiving). r.is_open) same) (ap (λ (r : Receiving). r.fin_at) same) c.end.ensures.none

pub returns-else-fin-clause-stays : goal.returns-else-fin-clause-stays
returns-else-fin-clause-stays c = stays c.args.self.now c.advance.new.self c.min-n.result (omega arith) (omega (arith, c.min-n.ensures, c.room-room.ensures, room_fits c.args.self.now (length c.args.ring.now), c.requires.small)) (omega (arith, c.requires.len, c.requires.small)) c.advance.ensures.advances

pub returns-else-fin-clause-stays_fin : goal.returns-else-fin-clause-stays_fin
returns-else-fin-clause-stays_fin c = λ none.
    fin_stays c.args.self.now c.advance.new.self c.min-n.result (omega arith) (omega (arith, c.min-n.ensures, c.room-room.ensures, room_fits c.args.self.now (length c.args.ring.now), c.requires.small))
    (omega (arith, c.requires.len, c.requires.small)) c.advance.ensures.advances

pub returns-else-fin-clause-stands : goal.returns-else-fin-clause-stands
returns-else-fin-clause-stands c = λ w consumed which it stands.
    let self = c.args.self.now in
    let b = c.args.ring.now in
    let payload = c.args.payload.now in
    let skip = (self.next + (4294967296 - c.args.number)) % 4294967296 in
    let n = c.min-n.result in
    let rest : length (take (length payload - skip) (drop skip payload)) ≡ length payload - skip = length_rest payload skip in
    let room : c.room-room.result ≡ room_of self (length b) = c.room-room.ensures in
    let size : n ≡ min (length payload - skip) (room_of self (length b)) = c.min-n.ensures ∙ ap (λ (k : ℕ). min k c.room-room.result) rest ∙ ap (λ (k : ℕ). min (length payload - skip) k) room in
    let why : (c.args.fin ≡ false) ⊎ (room_of self (length b) ≤ length payload - skip) = elim c.else-fin.branch [
      | else-fin-via-then-fin+else-n-room v ↦ inr (omega (arith, size, room, v.if-n-room.false))
      | else-fin-via-else-fin v ↦ inl v.if-fin.false
    ] in
    taken w which c.args.number (room_of self (length b)) payload c.args.fin consumed self b c.put.new.buffer it stands c.if-not-self.false skip n (omega arith) (omega arith) (omega arith) c.requires.begin c.requires.len c.requires.small size
    (omega (arith, size, c.requires.len, room_fits self (length b))) c.put.ensures why c.put.auto.buffer c.advance.new.self c.advance.ensures.advances
