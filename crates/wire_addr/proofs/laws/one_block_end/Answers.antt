use Rattle.std.proofs.Common.{rules}
use Rattle.wire_addr.specs.Bytes.{IsByteArray}
use Rattle.wire_addr.proofs.One.{one_greatest, one_least}
use Rattle.wire_addr.proofs.laws.one_block_end.Goals as goal

pub returns : goal.returns
returns c =
    let are_a : IsByteArray 4 c.args.a = (search rules, λ k. search rules) in
    let are_b : IsByteArray 4 c.args.b = (search rules, λ k. search rules) in
    record {
      first = one_least 4 c.args.block c.args.a c.args.b are_a are_b;
      last = one_greatest 4 c.args.block c.args.a c.args.b are_a are_b;
    }
