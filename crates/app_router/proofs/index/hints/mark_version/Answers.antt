use Rattle.std.proofs.Common.{ℕ, ◌≡◌, ◌≢◌, ◌∙◌, ◌+◌, ◌-◌, ◌/◌, ◌<◌, ap, ap₂, arith, below_more, get_or, inl, inr, length, max, min, rules, subst, sym}
use Rattle.std.proofs.lemmas.Bool.{cases_lt}
use Rattle.app_router.proofs.HintPlaces.{IsLast, begin_alike, begin_more, last_alike, larger, last_more, place_is, same_len, same_part}
use Rattle.app_router.proofs.Links.{AreUnmarkedAlike}
use Rattle.app_router.proofs.Splits.{unread, unread_at}
use Rattle.app_router.specs.Hints.{IsBegin, hint_at, high_at, part_at, part_count, part_of, place_in}
use Rattle.app_router.specs.declared.index.Node.{Node}
use Rattle.app_router.proofs.index.hints.mark_version.Goals as goal

pub loop-i-preserved : goal.loop-i-preserved
loop-i-preserved c =
    let old = c.args.nodes.now in
    let xs = c.loop-i.nodes in
    let ys = c.set_hint.new.nodes in
    let i = c.loop-i.i in
    let kept = c.loop-i.invariant in
    let len : length xs ≡ length old = same_len xs old kept.same in
    let below : i < length xs = omega (arith, len, c.loop-i-test.true) in
    let count : c.parts-parts.result ≡ part_count (length xs) = c.parts-parts.ensures ∙ ap part_count (sym len) in
    let high : (get_or xs i unread).high ≡ high_at xs i = ap (λ (n : Node). n.high) (unread_at xs i below) in
    let part : c.share-part.result ≡ part_at xs i = c.share-part.ensures.value ∙ ap₂ part_of count high in
    let mine : AreUnmarkedAlike ys xs = c.set_hint.ensures.same in
    let size : length ys ≡ length xs = same_len ys xs mine in
    let hint : hint_at ys (c.share-part.result + 1) ≡ i + 1 = search (rules, c.set_hint.ensures.set) in
    let set : hint_at ys (part_at xs i + 1) ≡ i + 1 = subst (λ (n : ℕ). hint_at ys (n + 1) ≡ i + 1) part hint in
    let others = subst (λ (n : ℕ). (k : ℕ) → k ≢ n + 1 → hint_at ys k ≡ hint_at xs k) part c.set_hint.ensures.others in
    let some : 0 < c.parts-parts.result = omega (arith, c.parts-parts.ensures, c.if-len-le-SMALL.false) in
    let fits : part_at xs i < part_count (length xs) = let few = c.share-part.ensures.within some in omega (arith, few, part, count) in
    record {
      same = mine ∙ kept.same;
      bounded = below_more (λ k. part_at ys k < part_count (length ys)) i
          (λ k less. let at = kept.bounded k less in let one = same_part ys xs k mine in let two = ap part_count size in omega (arith, at, one, two))
          (let one = same_part ys xs i mine in let two = ap part_count size in omega (arith, fits, one, two));
      last = λ u. last_more xs ys i (sym mine) below (kept.last u) set others;
    }

pub loop-part-preserved : goal.loop-part-preserved
loop-part-preserved c =
    let old = c.args.nodes.now in
    let xs = c.loop-part.nodes in
    let ys = c.mark_part-divided.new.nodes in
    let zs = c.set_hint-in-loop-part.new.nodes in
    let part = c.loop-part.part in
    let low = c.loop-part.low in
    let bits = c.mark_part-divided.result in
    let kept = c.loop-part.invariant in
    let within = kept.within in
    let len : length xs ≡ length old = same_len xs old kept.same in
    let alike : AreUnmarkedAlike zs xs = c.set_hint-in-loop-part.ensures.same ∙ c.mark_part-divided.ensures.same in
    let size : length zs ≡ length xs = same_len zs xs alike in
    let counts : part_count (length zs) ≡ part_count (length xs) = ap part_count size in
    let inside : part < part_count (length xs) = let all = c.parts-parts.ensures ∙ ap part_count (sym len) in omega (arith, all, c.loop-part-test.true) in
    let h = hint_at xs (part + 1) in
    let read : (get_or xs (part + 1) unread).hint ≡ h = ap (λ (n : Node). n.hint) (unread_at xs (part + 1) (omega (arith, inside))) in
    let others : (k : ℕ) → k ≢ part + 1 → k < length xs - length xs / 4 → hint_at zs k ≡ hint_at xs k =
    λ k apart less. c.set_hint-in-loop-part.ensures.others k apart ∙ c.mark_part-divided.ensures.others k less in
    let hint : hint_at zs (part + 1) ≡ low + bits = search (rules, c.set_hint-in-loop-part.ensures.set) in
    let here : place_in (length zs) (hint_at zs (part + 1)) ≡ low =
    ap (place_in (length zs)) hint ∙ place_is (length zs) low bits (omega (arith, size, within)) c.mark_part-divided.ensures.bits
    (λ some. let few = c.mark_part-divided.ensures.few some in omega (arith, few, size)) in
    let most : c.max.result ≡ max h low = c.max.ensures ∙ ap (λ (n : ℕ). max n low) read in
    let end : c.min-high.result ≡ min c.max.result (length xs) = c.min-high.ensures ∙ ap (min c.max.result) (sym len) in
    record {
      within = omega (arith, end, size);
      same = alike ∙ kept.same;
      bounded = λ k less. let at = kept.bounded k (omega (arith, less, size)) in let one = same_part zs xs k alike in omega (arith, at, one, counts);
      begins = λ u.
          let last = kept.last u part (omega arith) inside in
          begin_alike xs zs (part + 1) c.min-high.result (sym alike)
          (begin_more old xs part low h c.min-high.result u (sym kept.same) (kept.begins u) last (larger h low (length xs) c.max.result c.min-high.result within last.few most end));
      places = λ u p less. elim (cases_lt p part) [
        | inl earlier ↦
            let hints = others (p + 1) (λ e. omega (arith, e, earlier)) (omega (arith, earlier, inside)) in
            let place = ap (place_in (length zs)) hints ∙ ap (λ (n : ℕ). place_in n (hint_at xs (p + 1))) size in
            subst (IsBegin zs p) (sym place) (begin_alike xs zs p (place_in (length xs) (hint_at xs (p + 1))) (sym alike) (kept.places u p earlier))
        | inr later ↦
            let is : part ≡ p = omega (arith, less, later) in
            subst (λ (n : ℕ). IsBegin zs n (place_in (length zs) (hint_at zs (n + 1)))) is
            (subst (IsBegin zs part) (sym here) (begin_alike xs zs part low (sym alike) (kept.begins u)))
      ];
      last = λ u p from below.
          let fits : p < part_count (length xs) = omega (arith, below, counts) in
          let hints = others (p + 1) (λ e. omega (arith, e, from)) (omega (arith, fits)) in
          subst (λ (n : ℕ). IsLast zs p n (hint_at zs (p + 1))) (sym size)
          (subst (IsLast zs p (length xs)) (sym hints) (last_alike xs zs p (length xs) (hint_at xs (p + 1)) (sym alike) (kept.last u p (omega (arith, from)) fits)));
    }

pub returns-clause-places : goal.returns-clause-places
returns-clause-places c u many p le =
    let old = c.args.nodes.now in
    let xs = c.loop-part.nodes in
    let ws = c.set_hint-2.new.nodes in
    let kept = c.loop-part.invariant in
    let mine : AreUnmarkedAlike ws xs = c.set_hint-2.ensures.same in
    let len : length xs ≡ length old = same_len xs old kept.same in
    let size : length ws ≡ length xs = same_len ws xs mine in
    let counts : part_count (length ws) ≡ part_count (length xs) = ap part_count size in
    let count : c.parts-parts.result ≡ part_count (length xs) = c.parts-parts.ensures ∙ ap part_count (sym len) in
    let ended : c.loop-part.part ≡ part_count (length xs) = omega (arith, count, c.loop-part-test.false, c.loop-part.auto.part-end) in
    elim (cases_lt p (part_count (length xs))) [
      | inl less ↦
          let hints : hint_at ws (p + 1) ≡ hint_at xs (p + 1) = c.set_hint-2.ensures.others (p + 1) (λ e. omega (arith, e, less, count)) in
          let place = ap (place_in (length ws)) hints ∙ ap (λ (n : ℕ). place_in n (hint_at xs (p + 1))) size in
          subst (IsBegin ws p) (sym place) (begin_alike xs ws p (place_in (length xs) (hint_at xs (p + 1))) (sym mine) (kept.places u p (omega (arith, less, ended))))
      | inr last ↦
          let is : p ≡ c.parts-parts.result = omega (arith, last, le, counts, count) in
          let end : hint_at ws (c.parts-parts.result + 1) ≡ length ws = search (rules, c.set_hint-2.ensures.set, len, size) in
          let hint : hint_at ws (p + 1) ≡ length ws + 0 = ap (λ (n : ℕ). hint_at ws (n + 1)) is ∙ end ∙ omega arith in
          let place : place_in (length ws) (hint_at ws (p + 1)) ≡ length ws = ap (place_in (length ws)) hint ∙ place_is (length ws) (length ws) 0 (omega arith) (omega arith) (λ some. absurd (omega (arith, some))) in
          subst (IsBegin ws p) (sym place) (record {
            within = omega arith;
            before = λ i less below. let at = kept.bounded i (omega (arith, below, size)) in let one = same_part ws xs i mine in omega (arith, at, one, last);
            others = λ i from below. absurd (omega (arith, from, below));
          })
    ]
