use Rattle.std.proofs.Common.{◌≡◌, ◌≤◌, ◌+◌, ◌-◌, ◌*◌, ◌/◌, ◌∙◌, ℕ, List, [], length, take, get_or, sum, ap, arith, w64}
use Rattle.std.specs.Int.{from_le_bytes}
use Rattle.std.specs.Simd.{first_chunks}
use Rattle.wire_checksum.specs.WordSum.{words, residue}
use Rattle.wire_checksum.proofs.WordLists.{words-of_8, chunk-more}
use Rattle.wire_checksum.proofs.totals.last_words.Goals as goal
use Rattle.wire_checksum.proofs.totals.last_words.Goals.{then-words-ge2, else-words-ge2}

none : (bytes : List ℕ) (start j : ℕ) → j ≡ 0 → residue (256 * start) ≡ residue (256 * start + sum (words (take j bytes)))
unfolding words
none bytes start j e = grind arith

pair : (bytes : List ℕ) (ws : List (List ℕ)) (start w0 w1 a s j : ℕ) → ws ≡ first_chunks 8 (length bytes / 8) bytes → 2 ≤ length bytes / 8 → j ≡ 16
    → w0 ≡ from_le_bytes w64 (get_or ws 0 []) → w1 ≡ from_le_bytes w64 (get_or ws 1 [])
    → residue (256 * a) ≡ residue (256 * (start + w0)) → residue (256 * s) ≡ residue (256 * (a + w1)) → residue (256 * s) ≡ residue (256 * start + sum (words (take j bytes)))
pair bytes ws start w0 w1 a s j cut room e i0 i1 p q =
    let k = length bytes / 8 in
    let one = p ∙ chunk-more 8 k bytes ws (from_le_bytes w64) (256 * start) 0 (1 * 8) start w0 cut (omega arith) (omega arith) (omega arith) (omega arith) words-of_8 i0 (none bytes start (0 * 8) (omega arith)) in
    q ∙ chunk-more 8 k bytes ws (from_le_bytes w64) (256 * start) 1 j a w1 cut (omega arith) (omega arith) (omega (arith, e)) (omega (arith, e)) words-of_8 i1 one

pub returns-then-words-eq1 : goal.returns-then-words-eq1
returns-then-words-eq1 c =
    let bytes = c.args.bytes.now in
    let ws = c.as_chunks.result.0.now in
    let cut = c.as_chunks.ensures.front in
    let count = c.as_chunks.ensures.front_len in
    let i = length ws - 1 in
    let so_far : residue (256 * c.if-words-ge2.sum) ≡ residue (256 * c.args.start + sum (words (take (i * 8) bytes))) =
    elim c.if-words-ge2.branch [
      | then-words-ge2 w ↦ ap (λ n. residue (256 * n)) w.sum-is ∙ pair bytes ws c.args.start w.from_le_bytes.result w.from_le_bytes-then-words-ge2.result w.around.result w.around-sum.result (i * 8) cut (omega (arith, count)) (omega (arith, count, c.requires))
          w.from_le_bytes.ensures w.from_le_bytes-then-words-ge2.ensures w.around.ensures w.around-sum.ensures
      | else-words-ge2 w ↦ ap (λ n. residue (256 * n)) w.sum-is ∙ none bytes c.args.start (i * 8) (omega (arith, count))
    ] in
    c.around-sum-then-words-eq1.ensures
    ∙ chunk-more 8 (length bytes / 8) bytes ws (from_le_bytes w64) (256 * c.args.start) i (length bytes / 8 * 8) c.if-words-ge2.sum c.from_le_bytes-then-words-eq1.result cut
    (omega (arith, count)) (omega arith) (omega (arith, count)) (omega arith) words-of_8 c.from_le_bytes-then-words-eq1.ensures so_far

pub returns-else-words-eq1 : goal.returns-else-words-eq1
returns-else-words-eq1 c =
    let bytes = c.args.bytes.now in
    let ws = c.as_chunks.result.0.now in
    let count = c.as_chunks.ensures.front_len in
    let j = length bytes / 8 * 8 in
    elim c.if-words-ge2.branch [
      | then-words-ge2 w ↦ ap (λ n. residue (256 * n)) w.sum-is ∙ pair bytes ws c.args.start w.from_le_bytes.result w.from_le_bytes-then-words-ge2.result w.around.result w.around-sum.result j c.as_chunks.ensures.front (omega (arith, count)) (omega (arith, count, c.requires))
          w.from_le_bytes.ensures w.from_le_bytes-then-words-ge2.ensures w.around.ensures w.around-sum.ensures
      | else-words-ge2 w ↦ ap (λ n. residue (256 * n)) w.sum-is ∙ none bytes c.args.start j (omega (arith, count))
    ]
