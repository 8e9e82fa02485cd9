use Rattle.std.proofs.Common.{◌≡◌, ℕ, ◌+◌, ◌*◌, ◌/◌, ◌%◌, ◌<◌, List, [], take, drop, get_or, length, sum, sym, ap, ◌∙◌, refl, arith}
use Rattle.std.specs.Simd.{first_chunks}
use Rattle.wire_checksum.specs.WordSum.{words, residue}
use Rattle.wire_checksum.proofs.WordLists.{chunk-at, sum-words-chunk, sum-words-split}
use Rattle.wire_checksum.proofs.Residues.{residue-same}
use Rattle.wire_checksum.proofs.totals.lanes.Goals as goal

pub loop-block-init : goal.loop-block-init
unfolding words
loop-block-init c = record { small = omega arith; so_far = refl }

block-step : (bytes : List ℕ) (blocks : List (List ℕ)) (i s w : ℕ) → blocks ≡ first_chunks 8192 (length bytes / 8192) bytes → i < length bytes / 8192 → w ≡ sum (words (get_or blocks i []))
    → s ≡ sum (words (take (i * 8192) bytes)) → s + w ≡ sum (words (take ((i + 1) * 8192) bytes))
block-step bytes blocks i s w cut below is so_far =
    let at : get_or blocks i [] ≡ take 8192 (drop (i * 8192) bytes) = ap (λ cs. get_or cs i []) cut ∙ chunk-at 8192 (length bytes / 8192) i bytes [] below in
    ap (λ n. n + w) so_far ∙ ap (λ n. sum (words (take (i * 8192) bytes)) + n) (is ∙ ap (λ l. sum (words l)) at)
    ∙ sym (sum-words-chunk 8192 (i * 8192) ((i + 1) * 8192) bytes (omega arith) (omega arith) (omega arith))

pub loop-block-preserved : goal.loop-block-preserved
loop-block-preserved c =
    record {
      small = omega arith;
      so_far = block-step c.args.bytes.now c.as_chunks.result.0.now c.loop-block.block-index c.loop-block.sum c.from-sum.result c.as_chunks.ensures.front (omega arith) (c.from-sum.ensures ∙ c.by_lanes.ensures.value) c.loop-block.invariant.so_far;
    }

-- the four parts of a number of 128 bits, with the bytes of each word changed twice
twice_wide : (n : ℕ)
    → residue (256 * (256 * (n / 18446744073709551616 + n % 18446744073709551616 / 4294967296 + n % 18446744073709551616 % 4294967296))) ≡ residue n
twice_wide n =
    let high = n / 18446744073709551616 in
    let low = n % 18446744073709551616 in
    residue-same (256 * (256 * (high + low / 4294967296 + low % 4294967296))) n (281479271743488 * high + 65536 * (low / 4294967296)) (low % 4294967296) (omega arith)
    (λ z. omega arith) (λ z. omega arith)

pub returns : goal.returns
returns c =
    let bytes = c.args.bytes.now in
    let k = length bytes / 8192 * 8192 in
    let one = sum-words-split k bytes (omega arith) (omega arith) in
    let a : sum (words (take k bytes)) ≡ c.loop-block.sum = ap (λ j. sum (words (take j bytes))) (omega arith) ∙ sym c.loop-block.invariant.so_far in
    let r : sum (words (drop k bytes)) ≡ c.from-sum-2.result = ap (λ l. sum (words l)) (sym c.as_chunks.ensures.back) ∙ sym (c.from-sum-2.ensures ∙ c.by_lanes-2.ensures.value) in
    twice_wide (c.loop-block.sum + c.from-sum-2.result) ∙ ap residue (omega (arith, one, a, r))
