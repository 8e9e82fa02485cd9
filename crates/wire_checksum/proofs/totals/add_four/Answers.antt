use Rattle.std.proofs.Common.{◌≡◌, ◌+◌, ◌/◌, length, rules, arith}
use Rattle.wire_checksum.proofs.Chains.{halves_added}
use Rattle.wire_checksum.proofs.totals.add_four.Goals as goal

pub returns-clause-value : goal.returns-clause-value
returns-clause-value c =
    let v = c.args.bytes.now in
    let long : length v ≡ 32 = search rules in
    halves_added 16 (length v / 16) v c.as_chunks.result.0.now (c.args.chain.0 + c.args.chain.1) (c.add_two.result.0 + c.add_two.result.1) (c.add_two-2.result.0 + c.add_two-2.result.1)
    (omega arith) (omega (arith, long)) (omega (arith, long)) c.as_chunks.ensures.front c.add_two.ensures.value c.add_two-2.ensures.value
