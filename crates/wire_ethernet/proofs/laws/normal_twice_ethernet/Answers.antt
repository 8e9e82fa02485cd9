use Rattle.wire_ethernet.proofs.EthernetNormal.{normal_normal, normal_read}
use Rattle.wire_ethernet.proofs.laws.normal_twice_ethernet.Goals as goal

pub returns : goal.returns
returns c = record { twice = normal_normal c.args.value; read = normal_read c.args.bytes.now c.args.value }
