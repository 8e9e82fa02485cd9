use Rattle.std.proofs.Common.{◌∙◌, ap}
use Rattle.std.specs.Option.{option_and_then}
use Rattle.ip_wire.proofs.Packets.{packet_of-Reads, parsed-other, parsed-packet}
use Rattle.ip_wire.specs.Packet.{packet_in}
use Rattle.ip_wire.proofs.frame.Frame.parse_packet.Goals as goal

pub returns-in-Packet-clause-value : goal.returns-in-Packet-clause-value
returns-in-Packet-clause-value c =
    let (carried, is, values) = c.in-Ok.ensures.value in
    parsed-packet _ c.in-Ok.frame.header c.in-Ok.frame.carried carried c.in-Packet.header c.in-Packet.inner is values c.in-Packet.is

pub returns-in-Packet-clause-reads : goal.returns-in-Packet-clause-reads
returns-in-Packet-clause-reads c = packet_of-Reads c.args.caps.now c.args.bytes.now

pub returns-in_default : goal.returns-in_default
returns-in_default c = record {
  value = let (carried, is, values) = c.in-Ok.ensures.value in
      ap (option_and_then packet_in) values ∙ parsed-other c.in-Ok.frame.header c.in-Ok.frame.carried carried is c.in_default.not-Packet;
  reads = packet_of-Reads c.args.caps.now c.args.bytes.now;
}

pub returns-in-Err-clause-value : goal.returns-in-Err-clause-value
returns-in-Err-clause-value c = ap (option_and_then packet_in) c.in-Err.ensures.value

pub returns-in-Err-clause-reads : goal.returns-in-Err-clause-reads
returns-in-Err-clause-reads c = packet_of-Reads c.args.caps.now c.args.bytes.now
