use Rattle.std.proofs.Common.{◌≡◌, rules, subst, sym}
use Rattle.ip_wire.specs.BlockText.{ReadsIpv6Block}
use Rattle.ip_wire.specs.Printed.{block_text, ipv6_text}
use Rattle.promises.proofs.texts.print_then_parse_ipv6_cidr.Goals as goal

pub returns : goal.returns
returns c =
    let same : c.as_bytes.result.now ≡ block_text ipv6_text c.args.block.now = search rules in
    absurd (c.in-Err.ensures c.args.block.now (subst (λ t. ReadsIpv6Block t c.args.block.now) (sym same) c.print_reads_back_ipv6_cidr.ensures))
