use Rattle.wire_arp.proofs.ArpNormal.{normal-normal, normal-read}
use Rattle.wire_arp.proofs.laws.normal_twice_arp.Goals as goal

pub returns : goal.returns
returns c = record { twice = normal-normal c.args.value; read = normal-read c.args.bytes.now c.args.value }
