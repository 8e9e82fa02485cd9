-- A text splits into a front, a mark and a number in at most one way: at the last mark.
use Rattle.std.proofs.Common.{◌≡◌, ◌≢◌, ℕ, zero, suc, ◌+◌, ◌-◌, ◌^◌, ◌<◌, ◌≤◌, List, [], ◌∷◌, ◌++◌, length, get_or, decimal, take, drop, refl, sym, ap, ◌∙◌, subst, arith, inl, inr, length-append, take_at, drop_at, append_assoc, length-drop}
use Rattle.std.proofs.Math.Seq.{get_or-append_seam}
use Rattle.std.proofs.lemmas.Bool.{cases_lt}
use Rattle.std.proofs.lemmas.Fmt.{decimal_is_IsNumeral, length-decimal-le}
use Rattle.std.proofs.lemmas.List.{get_or-append_right, get_or-drop, take_rest}
use Rattle.std.specs.Char.{digit_value}
use Rattle.std.specs.Str.Parse.{AllDigits}
use Rattle.wire_addr.specs.Ending.{EndsInNumber}
use Rattle.wire_addr.specs.Grammar.{IsNumber}
use Rattle.std.proofs.lemmas.Grind.{common_steps}
use Rattle.std.proofs.lemmas.Bool.Decides.{nat_tests}

digit_at : (text : List ℕ) (k : ℕ) → AllDigits 10 text → k < length text → digit_value (get_or text k 0) < 10
digit_at [] k h within = absurd (omega arith)
digit_at (c ∷ text) zero h within = h.0
digit_at (c ∷ text) (suc k) h within = digit_at text k h.1 (omega arith)

module _ (mark places most : ℕ) (apart : 10 ≤ digit_value mark) where
  -- the length of the text is that of its parts
  pub length_is : (text front : List ℕ) (n : ℕ) (h : EndsInNumber mark places most text front n) → length text ≡ length front + 1 + length h.digits
  length_is text front n h = omega (arith, ap length h.spelled, length-append front (mark ∷ h.digits))

  -- the mark is at the index of the length of the front
  pub mark_here : (text front : List ℕ) (n : ℕ) → EndsInNumber mark places most text front n → get_or text (length front) 0 ≡ mark
  mark_here text front n h = ap (λ t. get_or t (length front) 0) h.spelled ∙ get_or-append_seam front mark h.digits 0

  none_after : (text front : List ℕ) (n k : ℕ) → EndsInNumber mark places most text front n → length front < k → k < length text → get_or text k 0 ≢ mark
  none_after text front n k h following within same =
      let j = k - length front - 1 in
      let next : k - length front ≡ suc j = omega arith in
      let read : get_or text k 0 ≡ get_or h.digits j 0 =
      ap (λ t. get_or t k 0) h.spelled ∙ get_or-append_right front (mark ∷ h.digits) (length front) k 0 refl (omega arith)
      ∙ ap (λ i. get_or (mark ∷ h.digits) i 0) next in
      let digit = digit_at h.digits j h.number.digits.1 (omega (arith, length_is text front n h)) in
      omega (arith, digit, ap digit_value (sym read ∙ same))

  --   if no mark follows a mark, the number starts after it
  front_ends : (text front : List ℕ) (n at : ℕ) → EndsInNumber mark places most text front n → at < length text → get_or text at 0 ≡ mark → ((k : ℕ) → at < k → k < length text → get_or text k 0 ≢ mark) → length front ≡ at
  front_ends text front n at h within here last =
      let inside : length front < length text = omega (arith, length_is text front n h) in
      elim (cases_lt (length front) at) [
        | inl before ↦ absurd (none_after text front n at h before within here)
        | inr following ↦ elim (cases_lt at (length front)) [
          | inl past ↦ absurd (last (length front) past inside (mark_here text front n h))
          | inr same ↦ omega arith
        ]
      ]

  -- the last mark of a text separates the front and the number
  pub ends_at : (text front : List ℕ) (n at : ℕ) → EndsInNumber mark places most text front n → at < length text → get_or text at 0 ≡ mark → ((k : ℕ) → at < k → k < length text → get_or text k 0 ≢ mark) → (front ≡ take at text) × IsNumber 10 places most (drop (at + 1) text) n
  ends_at text front n at h within here last =
      let long = front_ends text front n at h within here last in
      let longer : length (front ++ mark ∷ []) ≡ at + 1 = omega (arith, length-append front (mark ∷ [])) in
      let again : text ≡ (front ++ mark ∷ []) ++ h.digits = h.spelled ∙ simp append_assoc in (
        sym (ap (take at) h.spelled ∙ take_at front (mark ∷ h.digits) at long),
        subst (λ t. IsNumber 10 places most t n) (sym (ap (drop (at + 1)) again ∙ drop_at (front ++ mark ∷ []) h.digits (at + 1) longer)) h.number,
      )

  -- a text has at most one such ending
  pub ends_once : (text front other : List ℕ) (n m : ℕ) → EndsInNumber mark places most text front n → EndsInNumber mark places most text other m → (front ≡ other) × (n ≡ m)
  ends_once text front other n m h k =
      let inside : length other < length text = omega (arith, length_is text other m k) in
      let last : (i : ℕ) → length other < i → i < length text → get_or text i 0 ≢ mark = λ i following within. none_after text other m i k following within in
      let (f, x) = ends_at text front n (length other) h inside (mark_here text other m k) last in
      let (g, y) = ends_at text other m (length other) k inside (mark_here text other m k) last in
      (f ∙ sym g, sym x.value ∙ y.value)

  --   a larger limit on digits and value accepts the same number
  pub ends_wider : (text front : List ℕ) (n few less : ℕ) → few ≤ places → less ≤ most → EndsInNumber mark few less text front n → EndsInNumber mark places most text front n
  ends_wider text front n few less fewer lower h = grind arith

  --   without a mark among the last `places` + 1 bytes, the text has no such ending
  pub no_end : (text : List ℕ) (first : ℕ) → first ≤ length text - (places + 1) → ((k : ℕ) → first ≤ k → k < length text → get_or text k 0 ≢ mark) → (front : List ℕ) (n : ℕ) → ¬ (EndsInNumber mark places most text front n)
  no_end text first room none front n h =
      let short : length h.digits ≤ places = h.number.places_fit in
      let long : length text ≡ length front + 1 + length h.digits = length_is text front n h in
      none (length front) (omega (arith, short, long)) (omega (arith, long)) (mark_here text front n h)

  -- a mark and a number at the end of a text are an ending
  pub ends_in : (text : List ℕ) (n at : ℕ) → at < length text → get_or text at 0 ≡ mark → IsNumber 10 places most (drop (at + 1) text) n → EndsInNumber mark places most text (take at text) n
  ends_in text n at within here number = grind (arith, common_steps, nat_tests)

-- a printed number after a mark is such an ending
pub ends_printed : (mark places most n : ℕ) (front : List ℕ) → 0 < places → most < 10 ^ places → most < 2 ^ 64 → n ≤ most → EndsInNumber mark places most (front ++ mark ∷ decimal n) front n
ends_printed mark places most n front some wide small fits =
    let low : n < 2 ^ 64 = omega arith in
    let few : n < 10 ^ places = omega arith in
    let (digits, value) = decimal_is_IsNumeral n low in
    record {
      digits = decimal n;
      spelled = refl;
      number = record { digits = digits; places_fit = length-decimal-le places n some few low; value = value; fits = fits };
    }

-- an ending of a text without its first bytes is an ending of the text
module _ (text : List ℕ) (first : ℕ) where
  abbrev pub following : List ℕ
  following = take (length text - first) (drop first text)

  -- the last bytes, without a length
  pub following_is : following ≡ drop first text
  following_is = take_rest text first

  read_in : (place : ℕ) → get_or following place 0 ≡ get_or text (first + place) 0
  read_in place = ap (λ w. get_or w place 0) following_is ∙ get_or-drop first text place 0

  length_in : length following ≡ length text - first
  length_in = ap length following_is ∙ length-drop first text

  -- no mark in the last bytes is no mark at these indexes of the text
  pub none_in : (mark : ℕ) → ((k : ℕ) → k < length following → get_or following k 0 ≢ mark) → (k : ℕ) → first ≤ k → k < length text → get_or text k 0 ≢ mark
  none_in mark none k past within here =
      let back : first + (k - first) ≡ k = omega arith in
      none (k - first) (omega (arith, length_in)) (read_in (k - first) ∙ ap (λ i. get_or text i 0) back ∙ here)

  -- the last mark in the last bytes is the last mark of the text
  pub last_in : (mark place : ℕ) → (place < length following) × (get_or following place 0 ≡ mark) × ((k : ℕ) → place < k → k < length following → get_or following k 0 ≢ mark) → (first + place < length text) × (get_or text (first + place) 0 ≡ mark) × ((k : ℕ) → first + place < k → k < length text → get_or text k 0 ≢ mark)
  last_in mark place h = (
    omega (arith, h.0, length_in),
    sym (read_in place) ∙ h.1,
    λ k past within here.
        let back : first + (k - first) ≡ k = omega arith in
        h.2 (k - first) (omega arith) (omega (arith, length_in)) (read_in (k - first) ∙ ap (λ i. get_or text i 0) back ∙ here),
  )
