use Rattle.std.proofs.Common.{rules, sym}
use Rattle.app_edit.specs.Sides.{opposite}
use Rattle.app_nat.proofs.Translates.{four-octets, rewrites-tcp, rewrites-udp}
use Rattle.app_nat.proofs.translation.rewrite_transport.Goals as goal

pub returns-in-Udp-clause-reads : goal.returns-in-Udp-clause-reads
returns-in-Udp-clause-reads c =
    let far = four-octets (opposite c.args.side) c.args.header (search rules) (search rules) in
    rewrites-udp c.args.header c.args.payload.now _ c.args.side c.args.addr c.args.port (search rules)
    (λ u payload. c.rewrite_udp.ensures.reads c.args.header u payload far (sym c.addr_of-old.ensures))

pub returns-in-Tcp-clause-reads : goal.returns-in-Tcp-clause-reads
returns-in-Tcp-clause-reads c =
    let far = four-octets (opposite c.args.side) c.args.header (search rules) (search rules) in
    rewrites-tcp c.args.header c.args.payload.now _ c.args.side c.args.addr c.args.port (search rules)
    (λ u payload. c.rewrite_tcp.ensures.reads c.args.header u payload far (sym c.addr_of-old.ensures))
