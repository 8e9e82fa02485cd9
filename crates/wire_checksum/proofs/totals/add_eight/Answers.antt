use Rattle.std.proofs.Common.{◌≡◌, ◌+◌, ◌/◌, length, ◌∙◌, ap, rules, arith}
use Rattle.wire_checksum.specs.WordSum.{residue}
use Rattle.wire_checksum.proofs.Chains.{halves_added}
use Rattle.wire_checksum.proofs.totals.add_eight.Goals as goal

pub returns : goal.returns
returns c =
    let v = c.args.bytes.now in
    let long : length v ≡ 64 = search rules in
    halves_added 32 (length v / 32) v c.as_chunks.result.0.now (c.args.start + 0) (c.add_four.result.0 + c.add_four.result.1) (c.add_four-sum.result.0 + c.add_four-sum.result.1)
    (omega arith) (omega (arith, long)) (omega (arith, long)) c.as_chunks.ensures.front c.add_four.ensures.value c.add_four-sum.ensures.value
    ∙ ap residue (omega arith)
