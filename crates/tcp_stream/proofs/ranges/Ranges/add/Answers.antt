use Rattle.std.proofs.Common.{◌≡◌, ◌∙◌, ◌≤◌, ◌+◌, arith}
use Rattle.tcp_stream.specs.Ranges.{has, covers, is_within, ranges_of, used}
use Rattle.tcp_stream.proofs.Spans.{joined-all, joined-sum, last-room, pushed, pushed-ranges, exchanged, ranges-sum, used-one, used-all, used_eighth, too-many, one-more}
use Rattle.tcp_stream.proofs.ranges.Ranges.add.Goals as goal

pub join-range-requires-8-clause-room : goal.join-range-requires-8-clause-room
join-range-requires-8-clause-room c = last-room c.new-kept.result.first.from c.join-range.new.self.second.from c.join-range-2.new.self.third.from c.join-range-3.new.self.fourth.from c.join-range-4.new.self.fifth.from c.join-range-5.new.self.sixth.from c.join-range-6.new.self.seventh.from c.join-range-7.new.self.eighth.from 4294967295 (omega (arith, c.new-kept.ensures.unused)) c.join-range.ensures.second c.join-range-2.ensures.third c.join-range-3.ensures.fourth c.join-range-4.ensures.fifth c.join-range-5.ensures.sixth c.join-range-6.ensures.seventh c.join-range-7.ensures.eighth

pub returns-then-kept-clause-room : goal.returns-then-kept-clause-room
returns-then-kept-clause-room c = λ few.
    let kept = c.join-range-8.new.self in
    let last = c.join-range-8.result in
    let sum : ranges_of kept + used last ≤ used c.args.self.now.first + used c.args.self.now.second + used c.args.self.now.third + used c.args.self.now.fourth + used c.args.self.now.fifth + used c.args.self.now.sixth + used c.args.self.now.seventh + used c.args.self.now.eighth + 1 = joined-sum (ranges_of c.new-kept.result) (ranges_of c.join-range.new.self) (ranges_of c.join-range-2.new.self) (ranges_of c.join-range-3.new.self) (ranges_of c.join-range-4.new.self) (ranges_of c.join-range-5.new.self) (ranges_of c.join-range-6.new.self) (ranges_of c.join-range-7.new.self) (ranges_of c.join-range-8.new.self) (used c.join-range.result) (used c.join-range-2.result) (used c.join-range-3.result) (used c.join-range-4.result) (used c.join-range-5.result) (used c.join-range-6.result) (used c.join-range-7.result) (used c.join-range-8.result) (used c.args.self.now.first) (used c.args.self.now.second) (used c.args.self.now.third) (used c.args.self.now.fourth) (used c.args.self.now.fifth) (used c.args.self.now.sixth) (used c.args.self.now.seventh) (used c.args.self.now.eighth) c.new-kept.ensures.ranges c.join-range.ensures.most c.join-range-2.ensures.ranges c.join-range-3.ensures.ranges c.join-range-4.ensures.ranges c.join-range-5.ensures.ranges c.join-range-6.ensures.ranges c.join-range-7.ensures.ranges c.join-range-8.ensures.ranges in
    let all : ranges_of kept ≡ 8 = used-all kept (used_eighth kept c.if-kept.true) in
    let one : used last ≡ 1 = used-one last (c.join-range-8.ensures.some (c.join-range-7.ensures.some (c.join-range-6.ensures.some (c.join-range-5.ensures.some (c.join-range-4.ensures.some (c.join-range-3.ensures.some (c.join-range-2.ensures.some (c.join-range.ensures.some c.requires)))))))) in
    absurd (too-many (ranges_of kept) (used last) (ranges_of c.args.self.now) _ sum all one (ranges-sum c.args.self.now) few)

pub returns-clause-kept : goal.returns-clause-kept
unfolding has
returns-clause-kept c = λ yes n.
    let kept = c.join-range-8.new.self in
    let last = c.join-range-8.result in
    pushed kept c.push.new.self last c.push.ensures.first c.push.ensures.second c.push.ensures.third c.push.ensures.fourth c.push.ensures.fifth c.push.ensures.sixth c.push.ensures.seventh c.push.ensures.eighth (omega (arith, c.if-kept.false)) n ∙ exchanged (covers last n) (has kept n)
    ∙ joined-all (has c.new-kept.result n) (has c.join-range.new.self n) (has c.join-range-2.new.self n) (has c.join-range-3.new.self n) (has c.join-range-4.new.self n) (has c.join-range-5.new.self n) (has c.join-range-6.new.self n) (has c.join-range-7.new.self n) (has c.join-range-8.new.self n) (is_within c.args.from c.args.to n) (covers c.join-range.result n) (covers c.join-range-2.result n) (covers c.join-range-3.result n) (covers c.join-range-4.result n) (covers c.join-range-5.result n) (covers c.join-range-6.result n) (covers c.join-range-7.result n) (covers c.join-range-8.result n) (covers c.args.self.now.first n) (covers c.args.self.now.second n) (covers c.args.self.now.third n) (covers c.args.self.now.fourth n) (covers c.args.self.now.fifth n) (covers c.args.self.now.sixth n) (covers c.args.self.now.seventh n) (covers c.args.self.now.eighth n)
    (c.new-kept.ensures.none n) (c.join-range.ensures.known n) (c.join-range-2.ensures.known n) (c.join-range-3.ensures.known n) (c.join-range-4.ensures.known n) (c.join-range-5.ensures.known n) (c.join-range-6.ensures.known n) (c.join-range-7.ensures.known n) (c.join-range-8.ensures.known n)

pub returns-clause-ranges : goal.returns-clause-ranges
returns-clause-ranges c =
    let kept = c.join-range-8.new.self in
    let last = c.join-range-8.result in
    let sum : ranges_of kept + used last ≤ used c.args.self.now.first + used c.args.self.now.second + used c.args.self.now.third + used c.args.self.now.fourth + used c.args.self.now.fifth + used c.args.self.now.sixth + used c.args.self.now.seventh + used c.args.self.now.eighth + 1 = joined-sum (ranges_of c.new-kept.result) (ranges_of c.join-range.new.self) (ranges_of c.join-range-2.new.self) (ranges_of c.join-range-3.new.self) (ranges_of c.join-range-4.new.self) (ranges_of c.join-range-5.new.self) (ranges_of c.join-range-6.new.self) (ranges_of c.join-range-7.new.self) (ranges_of c.join-range-8.new.self) (used c.join-range.result) (used c.join-range-2.result) (used c.join-range-3.result) (used c.join-range-4.result) (used c.join-range-5.result) (used c.join-range-6.result) (used c.join-range-7.result) (used c.join-range-8.result) (used c.args.self.now.first) (used c.args.self.now.second) (used c.args.self.now.third) (used c.args.self.now.fourth) (used c.args.self.now.fifth) (used c.args.self.now.sixth) (used c.args.self.now.seventh) (used c.args.self.now.eighth) c.new-kept.ensures.ranges c.join-range.ensures.most c.join-range-2.ensures.ranges c.join-range-3.ensures.ranges c.join-range-4.ensures.ranges c.join-range-5.ensures.ranges c.join-range-6.ensures.ranges c.join-range-7.ensures.ranges c.join-range-8.ensures.ranges in
    one-more (ranges_of c.push.new.self) (ranges_of kept) (used last) (ranges_of c.args.self.now) _ sum (ranges-sum c.args.self.now) (pushed-ranges kept c.push.new.self last c.push.ensures.first c.push.ensures.second c.push.ensures.third c.push.ensures.fourth c.push.ensures.fifth c.push.ensures.sixth c.push.ensures.seventh c.push.ensures.eighth)
