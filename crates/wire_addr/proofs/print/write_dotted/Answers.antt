use Rattle.std.proofs.Common.{rules}
use Rattle.wire_addr.proofs.Written.{dotted_written}
use Rattle.wire_addr.proofs.print.write_dotted.Goals as goal

pub returns-clause-bytes : goal.returns-clause-bytes
returns-clause-bytes c =
    let w =
    dotted_written c.args.octets c.args.out.now _ _ _ _ _ _ _ _ _ _ _ _ _ _ (search rules) c.write_decimal-first.ensures.written c.write_bytes-dot.ensures c.write_decimal-second.ensures.written
    c.write_bytes-dot-2.ensures c.write_decimal-third.ensures.written c.write_bytes-dot-3.ensures c.write_decimal.ensures.written in
    w.bytes
