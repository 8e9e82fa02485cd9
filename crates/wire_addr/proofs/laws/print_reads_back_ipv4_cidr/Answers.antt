use Rattle.std.proofs.Common.{lit≤, arith, subst}
use Rattle.wire_addr.specs.Bytes.{IsByteArray}
use Rattle.wire_addr.specs.Printed.{dotted}
use Rattle.wire_addr.specs.Read.{ReadsIpv4}
use Rattle.wire_addr.proofs.BlockTexts.{printed_block}
use Rattle.wire_addr.proofs.ReadBack.{IsDotted_dotted}
use Rattle.wire_addr.proofs.laws.print_reads_back_ipv4_cidr.Goals as goal

pub returns : goal.returns
returns c =
    let octets = subst (IsByteArray 4) c.address-address.ensures.value c.address-address.ensures.octets in
    printed_block ReadsIpv4 2 32 dotted c.args.block (lit≤ tt) (lit≤ tt) (lit≤ tt) (omega (arith, c.prefix_len-prefix_len.ensures.value, c.prefix_len-prefix_len.ensures.within)) (IsDotted_dotted c.args.block.address octets)
