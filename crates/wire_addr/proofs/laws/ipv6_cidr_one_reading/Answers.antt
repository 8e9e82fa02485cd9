use Rattle.wire_addr.specs.Read.{ReadsIpv6}
use Rattle.wire_addr.proofs.BlockTexts.{one_block}
use Rattle.wire_addr.proofs.Readings.{ipv6_once}
use Rattle.wire_addr.proofs.laws.ipv6_cidr_one_reading.Goals as goal

pub returns : goal.returns
returns c = one_block ReadsIpv6 3 128 c.args.text.now _ _ (λ front h k. ipv6_once front _ _ h k)
