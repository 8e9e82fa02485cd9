use Rattle.std.proofs.Common.{rules}
use Rattle.app_router.proofs.Forwards.{hop-ipv4}
use Rattle.app_router.proofs.router.take_hop.Goals as goal

pub returns-in-Ipv4-clause-reads : goal.returns-in-Ipv4-clause-reads
returns-in-Ipv4-clause-reads c =
    (hop-ipv4 c.args.packet.now _ c.args.header.now c.in-Ipv4.field-0 c.bytes_fit.ensures (search rules) c.requires.reads c.requires.alive
    (search rules) (search rules)).reads

pub returns-in-Ipv4-clause-bytes : goal.returns-in-Ipv4-clause-bytes
returns-in-Ipv4-clause-bytes c =
    (hop-ipv4 c.args.packet.now _ c.args.header.now c.in-Ipv4.field-0 c.bytes_fit.ensures (search rules) c.requires.reads c.requires.alive
    (search rules) (search rules)).bytes
