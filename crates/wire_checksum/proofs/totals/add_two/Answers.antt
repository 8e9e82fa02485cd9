use Rattle.std.proofs.Common.{◌≡◌, ◌+◌, ◌/◌, length, rules, arith}
use Rattle.wire_checksum.proofs.Chains.{halves_added}
use Rattle.wire_checksum.proofs.totals.add_two.Goals as goal

pub returns-clause-value : goal.returns-clause-value
returns-clause-value c =
    let v = c.args.bytes.now in
    let long : length v ≡ 16 = search rules in
    halves_added 8 (length v / 8) v c.as_chunks.result.0.now (c.args.chain.0 + c.args.chain.1) (c.add.result.0 + c.add.result.1) (c.add-2.result.0 + c.add-2.result.1)
    (omega arith) (omega (arith, long)) (omega (arith, long)) c.as_chunks.ensures.front c.add.ensures.value c.add-2.ensures.value
