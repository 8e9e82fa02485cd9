use Rattle.std.proofs.Common.{ℕ, List, ◌≡◌, ◌-◌, ◌+◌, ◌*◌, ◌/◌, drop, take, length, sum, ◌∙◌, ap, refl, arith}
use Rattle.std.proofs.lemmas.List.{length-drop}
use Rattle.wire_checksum.specs.WordSum.{words, residue}
use Rattle.wire_checksum.proofs.WordLists.{chunk-added, sum-words-chunk}
use Rattle.wire_checksum.proofs.Residues.{residue-add}
use Rattle.wire_checksum.proofs.totals.one_chain.Goals as goal

pub loop-chunk-init : goal.loop-chunk-init
unfolding words
loop-chunk-init c = record { so_far = ap residue (omega arith) }

pub loop-chunk-preserved : goal.loop-chunk-preserved
loop-chunk-preserved c =
    let bytes = c.args.bytes.now in
    let i = c.loop-chunk.chunk-index in
    record { so_far = chunk-added 32 (length bytes / 32) bytes c.as_chunks.result.0.now (256 * c.last_words-sum.result) i ((i + 1) * 32) c.loop-chunk.sum c.add_chunk-sum.result c.as_chunks.ensures.front (omega arith) (omega arith) (omega arith) (omega arith) c.add_chunk-sum.ensures c.loop-chunk.invariant.so_far }

-- the words after the chunks and the chunks
ended : (bytes rest : List ℕ) (k z p r : ℕ) → k ≡ length bytes / 32 → rest ≡ drop (length bytes / 32 * 32) bytes → residue (256 * p) ≡ residue (z + sum (words (take (length rest / 8 * 8) rest)))
    → residue (256 * r) ≡ residue (256 * p + sum (words (take (k * 32) bytes))) → residue (256 * r) ≡ residue (z + sum (words (take (length bytes / 8 * 8) bytes)))
ended bytes rest k z p r all is a b =
    let m = length rest / 8 * 8 in
    let n = length bytes / 32 * 32 in
    let long : length rest ≡ length bytes - n = ap length is ∙ length-drop n bytes in
    let front : sum (words (take (k * 32) bytes)) ≡ sum (words (take n bytes)) = ap (λ j. sum (words (take (j * 32) bytes))) all in
    let following : sum (words (take m rest)) ≡ sum (words (take m (drop n bytes))) = ap (λ l. sum (words (take m l))) is in
    let whole = sum-words-chunk m n (length bytes / 8 * 8) bytes (omega arith) (omega (arith, long)) (omega arith) in
    let chunks = sum (words (take (k * 32) bytes)) in
    b ∙ residue-add (256 * p) (z + sum (words (take m rest))) chunks chunks a refl ∙ ap residue (omega (arith, front, following, whole))

pub returns : goal.returns
returns c =
    ended c.args.bytes.now c.as_chunks.result.1.now c.loop-chunk.chunk-index (256 * c.args.start) c.last_words-sum.result c.loop-chunk.sum (omega arith) c.as_chunks.ensures.back c.last_words-sum.ensures c.loop-chunk.invariant.so_far
