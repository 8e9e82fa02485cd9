use Rattle.std.proofs.Common.{◌≡◌, ◌<◌, ◌++◌, [], ◌∷◌, length, refl, arith}
use Rattle.std.proofs.lemmas.Grind.{common_steps}
use Rattle.wire_tcp_options.proofs.Items.{item_read}
use Rattle.wire_tcp_options.proofs.OptionLists.{one_more, stuck}
use Rattle.wire_tcp_options.proofs.Places.{ended, in_room, other_kind, other_passed, size_passed}
use Rattle.wire_tcp_options.proofs.tcp.place.max_segment_size_at.Goals as goal

pub returns-in_default-clause-listed : goal.returns-in_default-clause-listed
returns-in_default-clause-listed c items tail list =
    let seen = c.loop-rest.invariant in
    let some : 0 < length c.loop-rest.rest.now = grind (arith, common_steps) in
    absurd (stuck c.args.options.now seen.0 c.loop-rest.rest.now seen.1 some c.in_default.ensures.err items tail list)

pub loop-rest-preserved-in-MaxSegmentSize : goal.loop-rest-preserved-in-MaxSegmentSize
loop-rest-preserved-in-MaxSegmentSize c =
    let seen = c.loop-rest.invariant in
    let (i, is, reading, begins) = rw c.in-MaxSegmentSize.is at c.in-Ok.ensures.ok in
    (seen.0 ++ i ∷ [], one_more c.args.options.now seen.0 i c.loop-rest.rest.now c.in-Ok.next.now seen.1 is begins, size_passed c.args.options.now seen.0 i c.loop-rest.rest.now seen.1 reading.0)

pub loop-rest-preserved : goal.loop-rest-preserved
loop-rest-preserved c =
    let seen = c.loop-rest.invariant in
    let (i, is, reading, begins) = item_read c.in-Ok.option c.loop-rest.rest.now c.in-Ok.next.now c.in-Ok.ensures.ok c.in_default-option.not-EndOfList in
    (seen.0 ++ i ∷ [], one_more c.args.options.now seen.0 i c.loop-rest.rest.now c.in-Ok.next.now seen.1 is begins, other_passed seen.0 i c.loop-rest.at (other_kind c.in-Ok.option i reading c.in_default-option.not-MaxSegmentSize) seen.2)

pub returns-after-loop-rest-clause-listed : goal.returns-after-loop-rest-clause-listed
returns-after-loop-rest-clause-listed c items tail list =
    let seen = c.loop-rest.invariant in
    let none : c.loop-rest.rest.now ≡ [] = grind (arith, common_steps) in
    ended c.args.options.now seen.0 c.loop-rest.rest.now c.loop-rest.at seen.1 (rw none tt) seen.2 items tail list

pub returns-in-EndOfList-clause-listed : goal.returns-in-EndOfList-clause-listed
returns-in-EndOfList-clause-listed c items tail list =
    let seen = c.loop-rest.invariant in
    let mark = rw c.in-EndOfList.is at c.in-Ok.ensures.ok in
    ended c.args.options.now seen.0 c.loop-rest.rest.now c.loop-rest.at seen.1 (rw mark refl) seen.2 items tail list

pub returns-after-loop-rest-clause-room : goal.returns-after-loop-rest-clause-room
returns-after-loop-rest-clause-room c =
    let seen = c.loop-rest.invariant in
    let none : c.loop-rest.rest.now ≡ [] = grind (arith, common_steps) in
    in_room c.args.options.now seen.0 c.loop-rest.rest.now c.loop-rest.at seen.1 (rw none tt) seen.2

pub returns-in-EndOfList-clause-room : goal.returns-in-EndOfList-clause-room
returns-in-EndOfList-clause-room c =
    let seen = c.loop-rest.invariant in
    let mark = rw c.in-EndOfList.is at c.in-Ok.ensures.ok in
    in_room c.args.options.now seen.0 c.loop-rest.rest.now c.loop-rest.at seen.1 (rw mark refl) seen.2
