use Rattle.wire_ipv6.proofs.Ipv6Normal.{normal_normal, normal_read}
use Rattle.wire_ipv6.proofs.laws.normal_twice_ipv6.Goals as goal

pub returns : goal.returns
returns c = record { twice = normal_normal c.args.value; read = normal_read c.args.bytes.now c.args.value }
