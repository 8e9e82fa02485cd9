use Rattle.ip_wire.specs.Checksum.{verifies}
use Rattle.ip_wire.specs.Tcp.{packet_bytes}
use Rattle.promises.proofs.Options.{parsed_options}
use Rattle.promises.proofs.calls.tcp.options_of_parse.Goals as goal

pub returns : goal.returns
returns c = parsed_options (packet_bytes c.args.packet.now) c.options.result.now c.args.src_addr.now c.args.dst_addr.now (verifies c.args.caps.now.tcp)
    c.parse-parsed.result c.options_summary.result c.parse-parsed.ensures.ok c.options_summary.ensures.ok c.options_summary.ensures.err c.options.ensures c.one_option_list.ensures
