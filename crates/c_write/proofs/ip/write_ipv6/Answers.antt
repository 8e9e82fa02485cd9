use Rattle.std.proofs.Common.{rules}
use Rattle.ip_wire.specs.Ipv6.{bytes_of}
use Rattle.c_write.proofs.Filled.{filled-header}
use Rattle.c_write.specs.Headers.{with_ipv6_fields}
use Rattle.c_write.proofs.ip.write_ipv6.Goals as goal

pub returns : goal.returns
returns c =
    filled-header (with_ipv6_fields c.args.header.now (bytes_of c.args.value.now)) c.args.out.now c.write_u64_into.new.dst _ c.split_at_mut-front.result.1.now 40
    c.write_u64_into.ensures c.ipv6_words-words.ensures (search rules)
