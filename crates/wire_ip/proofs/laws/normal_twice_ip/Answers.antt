use Rattle.wire_ip.proofs.IpNormal.{normal_normal, normal_read}
use Rattle.wire_ip.proofs.laws.normal_twice_ip.Goals as goal

pub returns : goal.returns
returns c = record { twice = normal_normal c.args.value; read = normal_read c.args.bytes.now c.args.verified c.args.value }
