use Rattle.std.proofs.Common.{is_some, arith}
use Rattle.std.proofs.lemmas.List.Sums.{count_by-le-length}
use Rattle.wire_tcp_options.proofs.tcp.option.write_sack.Goals as goal

pub write_head-requires-clause-fits : goal.write_head-requires-clause-fits
write_head-requires-clause-fits c = let few = count_by-le-length is_some c.args.ranges.now in
    omega (arith, few)
