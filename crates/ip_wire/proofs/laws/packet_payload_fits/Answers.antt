use Rattle.ip_wire.proofs.PacketPayloads.{packet_payload-fits, packet_payload-len}
use Rattle.ip_wire.proofs.laws.packet_payload_fits.Goals as goal

pub returns-clause-len : goal.returns-clause-len
returns-clause-len c = packet_payload-len c.args.received c.args.bytes.now c.args.header c.requires

pub returns-clause-fits : goal.returns-clause-fits
returns-clause-fits c = packet_payload-fits c.args.received c.args.bytes.now c.args.header c.requires
