use Rattle.std.proofs.Common.{rules}
use Rattle.wire_addr.specs.Bytes.{IsByteArray}
use Rattle.wire_addr.proofs.One.{one_masked}
use Rattle.wire_addr.proofs.laws.one_masked_address.Goals as goal

pub returns : goal.returns
returns c =
    let are_a : IsByteArray 16 c.args.a = (search rules, λ k. search rules) in
    let are_b : IsByteArray 16 c.args.b = (search rules, λ k. search rules) in
    λ n. one_masked 16 n c.args.address c.args.a c.args.b are_a are_b
