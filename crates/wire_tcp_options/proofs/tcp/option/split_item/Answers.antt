use Rattle.std.proofs.Common.{◌-◌, arith, length-drop}
use Rattle.std.proofs.lemmas.List.{length-take-le}
use Rattle.wire_tcp_options.proofs.FirstItems.{is_item}
use Rattle.wire_tcp_options.proofs.Items.{take_left, text_at}
use Rattle.wire_tcp_options.proofs.tcp.option.split_item.Goals as goal
use Rattle.std.proofs.lemmas.Grind.{common_steps}
use Rattle.std.proofs.lemmas.Bool.Decides.{nat_tests}

pub returns-clause-ok : goal.returns-clause-ok
returns-clause-ok c = grind (arith, common_steps, nat_tests, length-take-le, length-drop, is_item, take_left, text_at)
