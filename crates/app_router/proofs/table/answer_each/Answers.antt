use Rattle.std.proofs.Common.{ℕ, ◌≡◌, ◌+◌, ◌*◌, ◌/◌, ◌%◌, ◌^◌, ◌<◌, ◌≤◌, ap, arith, below_more, bit_or, get_or, get_or-set_other, get_or-set_same, length, refl, set}
use Rattle.std.proofs.lemmas.Grind.{common_steps, or_after_shift}
use Rattle.std.proofs.lemmas.List.{get_or_default}
use Rattle.std.proofs.lemmas.Nat.{mod_low, shr_high}
use Rattle.app_router.specs.Table.{Answers, answer_of, range_at, start_of}
use Rattle.app_router.proofs.table.answer_each.Goals as goal

pub loop-i-preserved : goal.loop-i-preserved
loop-i-preserved c =
    let ranges = c.loop-i.ranges in
    let i = c.loop-i.i in
    let start = get_or ranges i 0 / 2 ^ 32 in
    let answer = c.answer_at-answer.result in
    let low = c.answer_at-answer.type_inv in
    let word = bit_or (c.from.result * 2 ^ 32 % 2 ^ 64) c.from-in-loop-i.result in
    let inside : i < length ranges = omega arith in
    let small : start < 2 ^ 32 = omega (arith, c.loop-i.invariant.fits i) in
    let word_is : word ≡ start * 2 ^ 32 + answer =
    rw (c.from.ensures, c.from-in-loop-i.ensures) (or_after_shift start (2 ^ 32) (2 ^ 64) answer refl low (omega (arith, small))) in
    let start_is : start_of word ≡ start = rw word_is (shr_high start 32 answer low) in
    let answer_is : answer_of word ≡ answer = rw word_is (mod_low start 32 answer low) in
    let same : start ≡ start_of (range_at ranges i) = ap start_of (get_or_default ranges i 0 (2 ^ 64) inside) in
    record {
      fits = λ k. let before = c.loop-i.invariant.fits k in grind (arith, common_steps);
      starts = λ k. let before = c.loop-i.invariant.starts k in grind (arith, common_steps);
      answers = λ blocks index.
          let A : ℕ → Type 0 = λ r. Answers blocks (λ n. n ≡ start_of r) (answer_of r) in
          below_more (λ k. A (range_at (set ranges i word) k)) i
          (λ k less. rw (get_or-set_other ranges i k word (2 ^ 64) (omega (arith, less))) (c.loop-i.invariant.answers blocks index k less))
          (rw (get_or-set_same ranges i word (2 ^ 64) inside, start_is, answer_is) (c.answer_at-answer.ensures.answer blocks index));
      few = λ blocks index.
          below_more (λ k. answer_of (range_at (set ranges i word) k) ≤ length blocks) i
          (λ k less. rw (get_or-set_other ranges i k word (2 ^ 64) (omega (arith, less))) (c.loop-i.invariant.few blocks index k less))
          (rw (get_or-set_same ranges i word (2 ^ 64) inside, answer_is) (c.answer_at-answer.ensures.few blocks index));
    }

pub returns-clause-answers : goal.returns-clause-answers
returns-clause-answers c blocks index k below = c.loop-i.invariant.answers blocks index k (omega (arith, below))

pub returns-clause-few : goal.returns-clause-few
returns-clause-few c blocks index k below = c.loop-i.invariant.few blocks index k (omega (arith, below))
