use Rattle.ip_frames.proofs.ReadLines.{lines-tcp, lines-udp}
use Rattle.ip_wire.specs.TcpRepr.{header_of}
use Rattle.ip_frames.proofs.transport.push_transport.Goals as goal

pub returns-in-Udp : goal.returns-in-Udp
returns-in-Udp c =
    let found = rw c.in-Udp.is at c.requires in
    rw (lines-udp c.args.header.now c.args.bytes.now c.in-Udp.ports c.in-Udp.payload.now found) c.push_datagram.ensures

pub returns-in-Tcp : goal.returns-in-Tcp
returns-in-Tcp c =
    let found = rw c.in-Tcp.is at c.requires in
    rw (lines-tcp c.args.header.now c.args.bytes.now (header_of c.in-Tcp.field-0) c.in-Tcp.field-0.payload.now found) (rw c.new_unchecked.ensures at c.push_tcp.ensures)
