use Rattle.ip_wire.proofs.frame.transport.Transport.try_emit.Goals as goal

pub returns-in-Udp : goal.returns-in-Udp
returns-in-Udp c = rw c.in-Udp.is (rw (c.src_addr.ensures, c.dst_addr.ensures) at c.try_emit.ensures)
