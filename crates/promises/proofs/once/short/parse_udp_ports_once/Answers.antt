use Rattle.promises.proofs.ShortOnce.{one_udp}
use Rattle.promises.proofs.once.short.parse_udp_ports_once.Goals as goal

pub returns : goal.returns
returns c = one_udp _ c.parse_udp_ports.result c.parse_udp_ports-2.result c.parse_udp_ports.ensures.reads c.parse_udp_ports-2.ensures.reads
