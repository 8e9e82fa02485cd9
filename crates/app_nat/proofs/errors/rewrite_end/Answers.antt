use Rattle.std.proofs.Common.{◌∙◌, rules}
use Rattle.app_nat.proofs.Quotes.{tcp-port, udp-port}
use Rattle.app_nat.specs.Errors.{end_bit}
use Rattle.ip_wire.specs.Field.{field}
use Rattle.app_nat.proofs.errors.rewrite_end.Goals as goal

pub returns-in-Udp-clause-port : goal.returns-in-Udp-clause-port
returns-in-Udp-clause-port c =
    (λ i. field (c.rewrite_udp.ensures.bytes i) (end_bit (c.in-Udp.is i) c.args.side) 16)
    ∙ udp-port c.args.side c.args.bytes.now c.args.old c.args.new c.args.port c.bytes_fit.ensures c.requires (search rules)

pub returns-in-Tcp-2-clause-port : goal.returns-in-Tcp-2-clause-port
returns-in-Tcp-2-clause-port c =
    (λ i. field (c.rewrite_tcp.ensures.bytes i) (end_bit (c.in-Tcp-2.is i) c.args.side) 16)
    ∙ tcp-port c.args.side c.args.bytes.now c.args.old c.args.new c.args.port c.bytes_fit.ensures (search rules) (search rules)
