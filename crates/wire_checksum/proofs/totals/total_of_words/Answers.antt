use Rattle.std.proofs.Common.{◌+◌, ◌*◌, ◌/◌, length, sum, ap, ◌∙◌, refl, arith, w32}
use Rattle.std.proofs.lemmas.List.{take_all}
use Rattle.std.specs.Int.{from_le_bytes}
use Rattle.wire_checksum.specs.WordSum.{residue, words}
use Rattle.wire_checksum.proofs.WordLists.{words-of_4, chunk-step}
use Rattle.wire_checksum.proofs.totals.total_of_words.Goals as goal

pub loop-word-init : goal.loop-word-init
unfolding words
loop-word-init c = record { small = omega arith; so_far = refl }

pub loop-word-preserved : goal.loop-word-preserved
loop-word-preserved c =
    let bytes = c.args.bytes.now in
    let i = c.loop-word.word-index in
    record {
      small = omega arith;
      so_far = chunk-step 4 (length bytes / 4) bytes c.as_chunks.result.0.now (from_le_bytes w32) i ((i + 1) * 4) c.loop-word.sum c.from-sum.result c.as_chunks.ensures.front (omega arith) (omega arith) (omega arith) (omega arith) words-of_4
          (c.from-sum.ensures ∙ c.from_le_bytes.ensures) c.loop-word.invariant.so_far;
    }

pub returns : goal.returns
returns c = c.loop-word.invariant.so_far ∙ ap (λ l. residue (sum (words l))) (take_all (c.loop-word.word-index * 4) c.args.bytes.now (omega arith))
