use Rattle.std.proofs.Common.{◌≡◌, ◌+◌, ◌-◌, ◌*◌, ◌/◌, ◌%◌, length, sum, take, drop, ◌∙◌, ap, refl, sym, arith}
use Rattle.std.proofs.lemmas.List.{length-drop, length-take-le}
use Rattle.std.proofs.Math.Seq.{take-add}
use Rattle.wire_checksum.specs.WordSum.{words, residue}
use Rattle.wire_checksum.proofs.Residues.{residue-add}
use Rattle.wire_checksum.proofs.WordLists.{sum-words-append}
use Rattle.wire_checksum.proofs.totals.by_words.Goals as goal

pub returns : goal.returns
returns c =
    let bytes = c.args.bytes.now in
    let front = c.split_at.result.0.now in
    let rest = c.split_at.result.1.now in
    let n = length bytes / 128 * 128 in
    let m = length rest / 8 * 8 in
    let long : length rest ≡ length bytes - n = ap length c.split_at.ensures.back ∙ length-drop n bytes in
    let whole : length bytes / 8 * 8 ≡ n + m = omega (arith, long) in
    let even : length (take n bytes) % 2 ≡ 0 = rw (length-take-le n bytes (omega arith)) (omega arith) in
    let split : sum (words (take (length bytes / 8 * 8) bytes)) ≡ sum (words front) + sum (words (take m rest)) =
    ap (λ k. sum (words (take k bytes))) whole ∙ ap (λ l. sum (words l)) (take-add n m bytes)
    ∙ sum-words-append (take n bytes) (take m (drop n bytes)) even
    ∙ ap (λ l. sum (words l) + sum (words (take m (drop n bytes)))) (sym c.split_at.ensures.front)
    ∙ ap (λ l. sum (words front) + sum (words (take m l))) (sym c.split_at.ensures.back) in
    c.two_chains.ensures
    ∙ residue-add (256 * c.one_chain.result) (256 * c.args.start + sum (words (take m rest))) (sum (words front)) (sum (words front)) c.one_chain.ensures refl
    ∙ ap residue (omega (arith, split))
