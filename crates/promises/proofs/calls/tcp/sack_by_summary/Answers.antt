use Rattle.ip_wire.specs.Tcp.{options_of, packet_bytes}
use Rattle.promises.proofs.SackSearch.{permitted, ranges}
use Rattle.promises.proofs.calls.tcp.sack_by_summary.Goals as goal

pub returns-clause-permitted : goal.returns-clause-permitted
returns-clause-permitted c = permitted (options_of (packet_bytes c.args.packet.now)) _ _ c.options_summary.ensures.ok c.selective_ack_permitted.ensures

pub returns-clause-ranges : goal.returns-clause-ranges
returns-clause-ranges c = ranges (options_of (packet_bytes c.args.packet.now)) _ _ c.options_summary.ensures.ok c.selective_ack_ranges.ensures
