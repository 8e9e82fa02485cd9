use Rattle.std.proofs.Common.{rules}
use Rattle.app_nat.proofs.Headers.{checksum-address, reads-address}
use Rattle.ip_wire.specs.Ipv4.{packet_bytes_mut}
use Rattle.app_nat.proofs.translation.set_addr.Goals as goal

pub returns-in-Source-clause-reads : goal.returns-in-Source-clause-reads
returns-in-Source-clause-reads c v r =
    reads-address c.args.side c.args.packet.now _ c.args.addr v c.bytes_fit.ensures (search rules) (search rules) (search rules) r

pub returns-in-Destination-clause-reads : goal.returns-in-Destination-clause-reads
returns-in-Destination-clause-reads c v r =
    reads-address c.args.side c.args.packet.now _ c.args.addr v c.bytes_fit.ensures (search rules) (search rules) (search rules) r

pub returns-in-Source-clause-summed : goal.returns-in-Source-clause-summed
returns-in-Source-clause-summed c least room =
    let new = packet_bytes_mut c.update_checksum.new.self in
    search (rules, checksum-address c.args.side c.args.packet.now new c.args.addr c.bytes_fit.ensures (search rules) (search rules) (search rules) least room)

pub returns-in-Destination-clause-summed : goal.returns-in-Destination-clause-summed
returns-in-Destination-clause-summed c least room =
    let new = packet_bytes_mut c.update_checksum-in-Destination.new.self in
    search (rules, checksum-address c.args.side c.args.packet.now new c.args.addr c.bytes_fit.ensures (search rules) (search rules) (search rules) least room)
