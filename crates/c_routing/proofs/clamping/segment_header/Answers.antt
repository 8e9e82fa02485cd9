use Rattle.std.proofs.Common.{rules}
use Rattle.c_routing.proofs.Clampings.{has-segment, other-transport, unparsed}
use Rattle.c_routing.proofs.clamping.segment_header.Goals as goal

pub returns-in-Tcp-clause-some : goal.returns-in-Tcp-clause-some
returns-in-Tcp-clause-some c =
    has-segment _ c.args.frame.now c.parse_packet.result c.in-Ok.field-0-0 c.in-Ok.header c.in-Tcp.field-0 (search rules)
    c.parse_packet.ensures.value c.parse_packet.ensures.reads (search rules)

pub returns-in_default : goal.returns-in_default
returns-in_default c = record {
  some = tt;
  none = other-transport _ c.args.frame.now c.parse_packet.result c.in-Ok.field-0-0 c.in-Ok.header c.in-Ok.transport (search rules)
      c.parse_packet.ensures.value c.parse_packet.ensures.reads (search rules) c.in_default.not-Tcp;
}

pub returns-in-Err-clause-none : goal.returns-in-Err-clause-none
returns-in-Err-clause-none c =
    unparsed _ c.args.frame.now c.parse_packet.result c.in-Err.field-0 (search rules)
    c.parse_packet.ensures.value c.parse_packet.ensures.reads (search rules)
