use Rattle.std.proofs.Common.{Ok, refl}
use Rattle.ip_wire.proofs.Packets.{gives-error, gives-packet, names-version, parses-packet, reads-by-version, reads-no-version}
use Rattle.ip_wire.specs.Frame.{packet}
use Rattle.ip_wire.proofs.frame.packet.Packet.parse.Goals as goal

pub returns-in_err-of_packet-clause-reads : goal.returns-in_err-of_packet-clause-reads
returns-in_err-of_packet-clause-reads c = λ v t. (
  (λ gives. absurd (gives-error c.from_residual.result v t c.from_residual.ensures.0 gives)),
  (λ r. absurd (reads-no-version c.args.caps.now c.args.bytes.now v t (λ i. (c.type_inv.bytes i).fits) (λ w is. let apart = (c.in_err-of_packet.ensures.version w).1 is in cc) r)),
)

pub returns-in-Packet-clause-ok : goal.returns-in-Packet-clause-ok
returns-in-Packet-clause-ok c =
    parses-packet c.args.caps.now c.ethertype_of-ethertype.result c.args.bytes.now c.in-Ok.carried c.in-Packet.header c.in-Packet.inner c.in-Packet.is c.in-Ok.ensures.ok

pub returns-in-Packet-clause-reads : goal.returns-in-Packet-clause-reads
returns-in-Packet-clause-reads c = λ v t.
    let given = gives-packet c.in-Ok.carried c.in-Packet.header c.in-Packet.inner c.in-Packet.is v t in
    let read = c.in-Ok.ensures.reads (packet v t) in
    let type = c.ethertype_of-ethertype.result in
    let named = names-version type c.args.bytes.now (Ok c.in_ok-of_packet.field-0) c.in_ok-of_packet.field-0 refl c.in_ok-of_packet.ensures.version c.ethertype_of-ethertype.ensures in
    let same = reads-by-version c.args.caps.now type c.args.bytes.now v t (λ i. (c.type_inv.bytes i).fits) named in
    ((λ gives. same.0 (read.0 (given.0 gives))), (λ r. given.1 (read.1 (same.1 r))))

pub returns-in-Err-clause-reads : goal.returns-in-Err-clause-reads
returns-in-Err-clause-reads c = λ v t.
    let type = c.ethertype_of-ethertype.result in
    let named = names-version type c.args.bytes.now (Ok c.in_ok-of_packet.field-0) c.in_ok-of_packet.field-0 refl c.in_ok-of_packet.ensures.version c.ethertype_of-ethertype.ensures in
    let same = reads-by-version c.args.caps.now type c.args.bytes.now v t (λ i. (c.type_inv.bytes i).fits) named in
    ((λ gives. absurd gives), (λ r. (c.in-Err.ensures.reads (packet v t)).1 (same.1 r)))
