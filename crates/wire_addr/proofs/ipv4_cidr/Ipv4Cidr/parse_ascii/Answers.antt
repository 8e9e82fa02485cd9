use Rattle.wire_addr.specs.Read.{ReadsIpv4}
use Rattle.wire_addr.proofs.BlockTexts.{no_number, no_address}
use Rattle.wire_addr.proofs.ipv4_cidr.Ipv4Cidr.parse_ascii.Goals as goal

pub returns-in_err-address : goal.returns-in_err-address
returns-in_err-address c =
    no_number ReadsIpv4 2 32 c.args.text.now _ _ _ _ c.in_err-address.ensures.value c.number_after.ensures.value c.from_residual.ensures.0

pub returns-in_err-parse_ascii : goal.returns-in_err-parse_ascii
returns-in_err-parse_ascii c =
    no_address ReadsIpv4 2 32 c.args.text.now _ _ _ _ c.in_ok-address.ensures.ok_part c.number_after.ensures.value c.in_err-parse_ascii.ensures c.from_residual-in_err-parse_ascii.ensures.0
