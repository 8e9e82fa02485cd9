use Rattle.std.proofs.Common.{◌-◌, arith}
use Rattle.std.proofs.lemmas.List.Sums.{count_by_more_yes, count_by_more_no}
use Rattle.wire_tcp_options.proofs.Ranges.{range_bytes_same, range_written}
use Rattle.wire_tcp_options.proofs.tcp.option.write_ranges.Goals as goal
use Rattle.std.proofs.lemmas.Grind.{common_steps}
use Rattle.std.proofs.lemmas.Bool.Decides.{nat_tests}

pub loop-range-preserved : goal.loop-range-preserved
loop-range-preserved c = grind (arith, common_steps, nat_tests, count_by_more_yes, range_written, count_by_more_no, range_bytes_same)
