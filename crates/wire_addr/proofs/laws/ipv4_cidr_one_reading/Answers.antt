use Rattle.wire_addr.specs.Read.{ReadsIpv4}
use Rattle.wire_addr.proofs.BlockTexts.{one_block}
use Rattle.wire_addr.proofs.Readings.{ipv4_once}
use Rattle.wire_addr.proofs.laws.ipv4_cidr_one_reading.Goals as goal

pub returns : goal.returns
returns c = one_block ReadsIpv4 2 32 c.args.text.now _ _ (λ front h k. ipv4_once front _ _ h k)
