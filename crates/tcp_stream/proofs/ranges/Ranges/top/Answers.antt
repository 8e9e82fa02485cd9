use Rattle.std.proofs.Common.{◌≡◌, sym, arith}
use Rattle.std.proofs.lemmas.Bool.Decides.{nat_tests}
use Rattle.tcp_stream.proofs.Spans.{top-unused}
use Rattle.tcp_stream.proofs.ranges.Ranges.top.Goals as goal

pub returns-then-is_empty : goal.returns-then-is_empty
returns-then-is_empty c =
    let unused : c.args.self.now.first.from ≡ 4294967295 = grind (arith, nat_tests, c.is_empty.ensures.value, c.if-is_empty.true) in
    sym (top-unused c.args.self.now unused)
