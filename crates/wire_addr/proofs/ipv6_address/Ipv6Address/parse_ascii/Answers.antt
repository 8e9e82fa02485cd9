use Rattle.wire_addr.proofs.ipv6_address.Ipv6Address.parse_ascii.Goals as goal

pub returns-in-None : goal.returns-in-None
returns-in-None c = λ octets h. c.in-None.ensures h.0 h.1
