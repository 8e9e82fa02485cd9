use Rattle.std.proofs.Common.{Ok, Option, sym, subst}
use Rattle.wire_tcp_options.proofs.Walks.{AnswersRanges, some_ranges}
use Rattle.wire_tcp_options.specs.TcpWalk.{FindsFirst}
use Rattle.wire_tcp_options.specs.declared.tcp.option.TcpOption.{TcpOption}
use Rattle.wire_tcp_options.proofs.tcp.walk.sack_ranges.Goals as goal

pub returns-in-Some : goal.returns-in-Some
returns-in-Some c =
    let P : Option TcpOption → Type 0 = λ option. FindsFirst c.args.options.now 5 (Ok option) in
    subst (AnswersRanges c.args.options.now) (sym c.ranges-in-Some.ensures) (some_ranges c.args.options.now c.in-Some.option (subst P c.in-Some.is c.in_ok-option.ensures))
