use Rattle.std.proofs.Common.{◌+◌, arith}
use Rattle.tcp_stream.specs.Order.{AreApart, IsRange}
use Rattle.tcp_stream.specs.Ranges.{has, covers, ranges_of, used}
use Rattle.tcp_stream.proofs.Spans.{pushed-eight, pushed-sum, last-room, order-after, ranges-sum, next-unused, first-bound, least}
use Rattle.tcp_stream.proofs.ranges.Ranges.advance.Goals as goal

pub push_after-requires-8-clause-room : goal.push_after-requires-8-clause-room
push_after-requires-8-clause-room c = last-room c.new-kept.result.first.from c.push_after.new.self.second.from c.push_after-2.new.self.third.from c.push_after-3.new.self.fourth.from c.push_after-4.new.self.fifth.from c.push_after-5.new.self.sixth.from c.push_after-6.new.self.seventh.from c.push_after-7.new.self.eighth.from 4294967295 (omega (arith, c.new-kept.ensures.unused)) c.push_after.ensures.second c.push_after-2.ensures.third c.push_after-3.ensures.fourth c.push_after-4.ensures.fifth c.push_after-5.ensures.sixth c.push_after-6.ensures.seventh c.push_after-7.ensures.eighth

pub push_after-requires-6-clause-order : goal.push_after-requires-6-clause-order
unfolding AreApart IsRange
push_after-requires-6-clause-order c =
    let s = c.args.self.now in
    order-after s.third.to s.fourth.from c.push_after-5.new.self.first.from c.args.taken s.third.is_range.1.1 (first-bound c.push_after-5.new.self) s.four c.push_after-5.ensures.first
    (λ unused. (c.push_after-5.ensures.unused unused (c.push_after-4.ensures.unused (next-unused c.args.self.now.fourth c.args.self.now.fifth unused c.args.self.now.five) (c.push_after-3.ensures.unused (next-unused c.args.self.now.fifth c.args.self.now.sixth (next-unused c.args.self.now.fourth c.args.self.now.fifth unused c.args.self.now.five) c.args.self.now.six) (c.push_after-2.ensures.unused (next-unused c.args.self.now.sixth c.args.self.now.seventh (next-unused c.args.self.now.fifth c.args.self.now.sixth (next-unused c.args.self.now.fourth c.args.self.now.fifth unused c.args.self.now.five) c.args.self.now.six) c.args.self.now.seven) (c.push_after.ensures.unused (next-unused c.args.self.now.seventh c.args.self.now.eighth (next-unused c.args.self.now.sixth c.args.self.now.seventh (next-unused c.args.self.now.fifth c.args.self.now.sixth (next-unused c.args.self.now.fourth c.args.self.now.fifth unused c.args.self.now.five) c.args.self.now.six) c.args.self.now.seven) c.args.self.now.eight) (omega (arith, c.new-kept.ensures.unused))))))))

pub push_after-requires-7-clause-order : goal.push_after-requires-7-clause-order
unfolding AreApart IsRange
push_after-requires-7-clause-order c =
    let s = c.args.self.now in
    order-after s.second.to s.third.from c.push_after-6.new.self.first.from c.args.taken s.second.is_range.1.1 (first-bound c.push_after-6.new.self) s.three c.push_after-6.ensures.first
    (λ unused. (c.push_after-6.ensures.unused unused (c.push_after-5.ensures.unused (next-unused c.args.self.now.third c.args.self.now.fourth unused c.args.self.now.four) (c.push_after-4.ensures.unused (next-unused c.args.self.now.fourth c.args.self.now.fifth (next-unused c.args.self.now.third c.args.self.now.fourth unused c.args.self.now.four) c.args.self.now.five) (c.push_after-3.ensures.unused (next-unused c.args.self.now.fifth c.args.self.now.sixth (next-unused c.args.self.now.fourth c.args.self.now.fifth (next-unused c.args.self.now.third c.args.self.now.fourth unused c.args.self.now.four) c.args.self.now.five) c.args.self.now.six) (c.push_after-2.ensures.unused (next-unused c.args.self.now.sixth c.args.self.now.seventh (next-unused c.args.self.now.fifth c.args.self.now.sixth (next-unused c.args.self.now.fourth c.args.self.now.fifth (next-unused c.args.self.now.third c.args.self.now.fourth unused c.args.self.now.four) c.args.self.now.five) c.args.self.now.six) c.args.self.now.seven) (c.push_after.ensures.unused (next-unused c.args.self.now.seventh c.args.self.now.eighth (next-unused c.args.self.now.sixth c.args.self.now.seventh (next-unused c.args.self.now.fifth c.args.self.now.sixth (next-unused c.args.self.now.fourth c.args.self.now.fifth (next-unused c.args.self.now.third c.args.self.now.fourth unused c.args.self.now.four) c.args.self.now.five) c.args.self.now.six) c.args.self.now.seven) c.args.self.now.eight) (omega (arith, c.new-kept.ensures.unused)))))))))

pub push_after-requires-8-clause-order : goal.push_after-requires-8-clause-order
unfolding AreApart IsRange
push_after-requires-8-clause-order c =
    let s = c.args.self.now in
    order-after s.first.to s.second.from c.push_after-7.new.self.first.from c.args.taken s.first.is_range.1.1 (first-bound c.push_after-7.new.self) s.two c.push_after-7.ensures.first
    (λ unused. (c.push_after-7.ensures.unused unused (c.push_after-6.ensures.unused (next-unused c.args.self.now.second c.args.self.now.third unused c.args.self.now.three) (c.push_after-5.ensures.unused (next-unused c.args.self.now.third c.args.self.now.fourth (next-unused c.args.self.now.second c.args.self.now.third unused c.args.self.now.three) c.args.self.now.four) (c.push_after-4.ensures.unused (next-unused c.args.self.now.fourth c.args.self.now.fifth (next-unused c.args.self.now.third c.args.self.now.fourth (next-unused c.args.self.now.second c.args.self.now.third unused c.args.self.now.three) c.args.self.now.four) c.args.self.now.five) (c.push_after-3.ensures.unused (next-unused c.args.self.now.fifth c.args.self.now.sixth (next-unused c.args.self.now.fourth c.args.self.now.fifth (next-unused c.args.self.now.third c.args.self.now.fourth (next-unused c.args.self.now.second c.args.self.now.third unused c.args.self.now.three) c.args.self.now.four) c.args.self.now.five) c.args.self.now.six) (c.push_after-2.ensures.unused (next-unused c.args.self.now.sixth c.args.self.now.seventh (next-unused c.args.self.now.fifth c.args.self.now.sixth (next-unused c.args.self.now.fourth c.args.self.now.fifth (next-unused c.args.self.now.third c.args.self.now.fourth (next-unused c.args.self.now.second c.args.self.now.third unused c.args.self.now.three) c.args.self.now.four) c.args.self.now.five) c.args.self.now.six) c.args.self.now.seven) (c.push_after.ensures.unused (next-unused c.args.self.now.seventh c.args.self.now.eighth (next-unused c.args.self.now.sixth c.args.self.now.seventh (next-unused c.args.self.now.fifth c.args.self.now.sixth (next-unused c.args.self.now.fourth c.args.self.now.fifth (next-unused c.args.self.now.third c.args.self.now.fourth (next-unused c.args.self.now.second c.args.self.now.third unused c.args.self.now.three) c.args.self.now.four) c.args.self.now.five) c.args.self.now.six) c.args.self.now.seven) c.args.self.now.eight) (omega (arith, c.new-kept.ensures.unused))))))))))

pub returns-clause-known : goal.returns-clause-known
unfolding has
returns-clause-known c = λ n.
    pushed-eight (has c.new-kept.result n) (has c.push_after.new.self n) (has c.push_after-2.new.self n) (has c.push_after-3.new.self n) (has c.push_after-4.new.self n) (has c.push_after-5.new.self n) (has c.push_after-6.new.self n) (has c.push_after-7.new.self n) (has c.push_after-8.new.self n) (covers c.args.self.now.first (n + c.args.taken)) (covers c.args.self.now.second (n + c.args.taken)) (covers c.args.self.now.third (n + c.args.taken)) (covers c.args.self.now.fourth (n + c.args.taken)) (covers c.args.self.now.fifth (n + c.args.taken)) (covers c.args.self.now.sixth (n + c.args.taken)) (covers c.args.self.now.seventh (n + c.args.taken)) (covers c.args.self.now.eighth (n + c.args.taken)) (c.new-kept.ensures.none n) (c.push_after.ensures.known n) (c.push_after-2.ensures.known n) (c.push_after-3.ensures.known n) (c.push_after-4.ensures.known n) (c.push_after-5.ensures.known n) (c.push_after-6.ensures.known n) (c.push_after-7.ensures.known n) (c.push_after-8.ensures.known n)

pub returns-clause-ranges : goal.returns-clause-ranges
returns-clause-ranges c =
    least _ _ _ (pushed-sum (ranges_of c.new-kept.result) (ranges_of c.push_after.new.self) (ranges_of c.push_after-2.new.self) (ranges_of c.push_after-3.new.self) (ranges_of c.push_after-4.new.self) (ranges_of c.push_after-5.new.self) (ranges_of c.push_after-6.new.self) (ranges_of c.push_after-7.new.self) (ranges_of c.push_after-8.new.self) (used c.args.self.now.first) (used c.args.self.now.second) (used c.args.self.now.third) (used c.args.self.now.fourth) (used c.args.self.now.fifth) (used c.args.self.now.sixth) (used c.args.self.now.seventh) (used c.args.self.now.eighth) c.new-kept.ensures.ranges c.push_after.ensures.ranges c.push_after-2.ensures.ranges c.push_after-3.ensures.ranges c.push_after-4.ensures.ranges c.push_after-5.ensures.ranges c.push_after-6.ensures.ranges c.push_after-7.ensures.ranges c.push_after-8.ensures.ranges) (ranges-sum c.args.self.now)
