use Rattle.std.proofs.Common.{◌≡◌, ◌+◌, ◌*◌, ◌/◌, length, sum, sym, ap, ◌∙◌, refl, add-zero, arith, w16}
use Rattle.std.specs.Int.{from_le_bytes}
use Rattle.wire_checksum.specs.WordSum.{residue, words}
use Rattle.wire_checksum.proofs.WordLists.{words-of_2, chunk-step, chunks-end, words-of_0, words-of_1}
use Rattle.wire_checksum.proofs.totals.plain.Goals as goal

pub loop-pair-init : goal.loop-pair-init
unfolding words
loop-pair-init c = record { small = omega arith; so_far = refl }

pub loop-pair-preserved : goal.loop-pair-preserved
loop-pair-preserved c =
    let bytes = c.args.bytes.now in
    let i = c.loop-pair.pair-index in
    record {
      small = omega arith;
      so_far = chunk-step 2 (length bytes / 2) bytes c.as_chunks.result.0.now (from_le_bytes w16) i ((i + 1) * 2) c.loop-pair.sum c.from-sum.result c.as_chunks.ensures.front (omega arith) (omega arith) (omega arith) (omega arith) words-of_2
          (c.from-sum.ensures ∙ c.from_le_bytes.ensures) c.loop-pair.invariant.so_far;
    }

pub returns-in-len1 : goal.returns-in-len1
returns-in-len1 c =
    let bytes = c.args.bytes.now in
    let rest = c.as_chunks.result.1.now in
    let last : sum (words rest) ≡ 256 * c.from.result = words-of_1 rest (omega arith) ∙ ap (λ n. 256 * n) (sym c.from.ensures) in
    chunks-end 2 (length bytes / 2 * 2) c.loop-pair.pair-index bytes rest c.loop-pair.sum c.from.result (omega arith) (omega arith) (omega arith) c.as_chunks.ensures.back c.loop-pair.invariant.so_far (ap residue (sym last))

pub returns-in_default : goal.returns-in_default
returns-in_default c =
    let bytes = c.args.bytes.now in
    let rest = c.as_chunks.result.1.now in
    ap (λ n. residue (256 * n)) (sym (add-zero c.loop-pair.sum)) ∙ chunks-end 2 (length bytes / 2 * 2) c.loop-pair.pair-index bytes rest c.loop-pair.sum 0 (omega arith) (omega arith) (omega arith) c.as_chunks.ensures.back c.loop-pair.invariant.so_far (ap residue (sym (words-of_0 rest (omega arith))))
