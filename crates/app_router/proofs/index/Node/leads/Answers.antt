use Rattle.std.proofs.Common.{◌≡◌, ◌↔◌, ◌∙◌, ◌+◌, ◌-◌, ◌*◌, ◌/◌, ◌^◌, ◌<◌, ◌≤◌, refl, sym, ap, arith, eq-eqb}
use Rattle.std.proofs.lemmas.Bool.{eqb-true}
use Rattle.app_router.proofs.Places.{both_words, first_word, same_block}
use Rattle.app_router.specs.Index.{place}
use Rattle.app_router.specs.declared.index.Node.{Node}
use Rattle.app_router.proofs.index.Node.leads.Goals as goal

told : (a b : Node) → a.high < 2 ^ 64 → a.low < 2 ^ 64 → b.high < 2 ^ 64 → b.low < 2 ^ 64
    → ((a.version ≡ b.version) × ((a.high * 2 ^ 64 + a.low) / 2 ^ (128 - a.prefix_len) ≡ (b.high * 2 ^ 64 + b.low) / 2 ^ (128 - a.prefix_len)))
    ↔ (place a / 2 ^ (128 - a.prefix_len) ≡ place b / 2 ^ (128 - a.prefix_len))
told a b a_high a_low b_high b_low =
    same_block a.prefix_len a b (a.high * 2 ^ 64 + a.low) (b.high * 2 ^ 64 + b.low) refl refl (omega (arith, a_high, a_low)) (omega (arith, b_high, b_low))

pub returns-then-self-other : goal.returns-then-self-other
returns-then-self-other c =
    let t = told c.args.self.now c.args.other.now (omega arith) (omega arith) (omega arith) (omega arith) in
    (λ f. absurd (cc), λ e. absurd (c.if-self-other.true (t.1 e).0))

pub returns-then-len-eq0 : goal.returns-then-len-eq0
returns-then-len-eq0 c =
    let a = c.args.self.now in
    let b = c.args.other.now in
    let none : a.prefix_len ≡ 0 = c.if-len-eq0.true in
    let t = told a b (omega arith) (omega arith) (omega arith) (omega arith) in
    let at : (a.high * 2 ^ 64 + a.low) / 2 ^ (128 - 0) ≡ (b.high * 2 ^ 64 + b.low) / 2 ^ (128 - 0) = omega arith in
    let all = ap (λ n. (a.high * 2 ^ 64 + a.low) / 2 ^ (128 - n)) none ∙ at ∙ sym (ap (λ n. (b.high * 2 ^ 64 + b.low) / 2 ^ (128 - n)) none) in
    (λ yes. t.0 (c.if-self-other.false, all), λ e. refl)

pub returns-then-len-le64 : goal.returns-then-len-le64
returns-then-len-le64 c =
    let a = c.args.self.now in
    let b = c.args.other.now in
    let n = a.prefix_len in
    let few : n ≤ 64 = c.if-len-le64.true in
    let t = told a b (omega arith) (omega arith) (omega arith) (omega arith) in
    let of_a = first_word n a.high a.low few (omega arith) in
    let of_b = first_word n b.high b.low few (omega arith) in
    (λ yes. t.0 (c.if-self-other.false, of_a ∙ eqb-true _ _ yes ∙ sym of_b), λ e. eq-eqb _ _ (sym of_a ∙ (t.1 e).1 ∙ of_b))

pub returns-then-high-other_high : goal.returns-then-high-other_high
returns-then-high-other_high c =
    let a = c.args.self.now in
    let b = c.args.other.now in
    let f = c.if-len-le64.false in
    let t = told a b (omega arith) (omega arith) (omega arith) (omega arith) in
    let words = both_words a.prefix_len a.high b.high a.low b.low (omega (arith, f)) (omega arith) (omega arith) in
    let zeros = c.saturating_sub-zeros.ensures in
    let z_a = ap (λ z. a.low / 2 ^ z) zeros in
    let z_b = ap (λ z. b.low / 2 ^ z) zeros in (
      λ yes. t.0 (c.if-self-other.false, words.0 (c.if-high-other_high.true, sym z_a ∙ eqb-true _ _ yes ∙ z_b)),
      λ e. eq-eqb _ _ (z_a ∙ (words.1 (t.1 e).1).1 ∙ sym z_b),
    )

pub returns-else-high-other_high : goal.returns-else-high-other_high
returns-else-high-other_high c =
    let a = c.args.self.now in
    let b = c.args.other.now in
    let f = c.if-len-le64.false in
    let t = told a b (omega arith) (omega arith) (omega arith) (omega arith) in
    let words = both_words a.prefix_len a.high b.high a.low b.low (omega (arith, f)) (omega arith) (omega arith) in
    (λ yes. absurd (c.if-high-other_high.false (eqb-true _ _ yes)), λ e. eq-eqb _ _ (words.1 (t.1 e).1).0)
