use Rattle.wire_tcp_options.proofs.OptionLists.{one_list}
use Rattle.wire_tcp_options.proofs.laws.one_option_list.Goals as goal

pub returns : goal.returns
returns c = one_list c.args.bytes.now
