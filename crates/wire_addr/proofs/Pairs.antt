-- Six pairs of hex digits joined by a mark.
use Rattle.std.proofs.Common.{◌≡◌, ◌≢◌, ◌⊎◌, ℕ, zero, suc, ◌*◌, ◌+◌, ◌-◌, ◌%◌, ◌<◌, ◌≤◌, ◌&&◌, ◌==◌, Bool, true, MatchOption, List, [], ◌∷◌, ◌++◌, drop, length, length-append, get_or, min, refl, sym, ap, subst, ◌∙◌, arith, lit≤, nat_lt, eqb-true, eq-eqb, Option, Some, None, inl, inr}
use Rattle.std.proofs.lemmas.Bool.{and_parts}
use Rattle.std.proofs.lemmas.Slice.Eq.{text_from_reads}
use Rattle.std.proofs.lemmas.Option.{same_Some, none-some}
use Rattle.std.specs.Bool.{then_some}
use Rattle.std.specs.Char.{digit_value}
use Rattle.std.specs.List.{join_with_byte}
use Rattle.std.specs.Str.Parse.{AllDigits}
use Rattle.wire_addr.specs.Grammar.{EachReads, IsNumber, IsHexBytes, IsHexText, Reads}
use Rattle.std.proofs.lemmas.Grind.{common_steps}
use Rattle.std.proofs.lemmas.Bool.Decides.{nat_tests}

-- two digits are parsed at once
pub pair_read : (a b high low value : ℕ) → high ≡ min 16 (digit_value a) → low ≡ min 16 (digit_value b) → value ≡ (high * 16 + low) % 256
    → (nat_lt high 16 && nat_lt low 16) ≡ true → IsNumber 16 2 255 (a ∷ b ∷ []) value
pair_read a b high low value is_high is_low is both = grind (arith, common_steps, nat_tests)

-- what a test shows that passes for exactly these values
pub decided : {A : Type 0} (P : A → Type 0) (t : Bool) (v : A) → (t ≡ true → P v) → ((a : A) → P a → t ≡ true) → MatchOption (then_some t v) ((a : A) → ¬ (P a)) P
decided P t v passes holds = grind arith

-- six pairs and five marks make the text
module _ (mark : ℕ) (text : List ℕ) where
  abbrev pub pair : ℕ → List ℕ
  pair at = get_or text at 0 ∷ get_or text (at + 1) 0 ∷ []

  abbrev pub mark_at : ℕ → Bool
  mark_at at = get_or text at 0 == mark

  pub six_read : (a b c d e f : ℕ) (p q r s t u : Bool) → length text ≡ 17
      → (p ≡ true → IsNumber 16 2 255 (pair 0) a) → (q ≡ true → IsNumber 16 2 255 (pair 3) b) → (r ≡ true → IsNumber 16 2 255 (pair 6) c)
      → (s ≡ true → IsNumber 16 2 255 (pair 9) d) → (t ≡ true → IsNumber 16 2 255 (pair 12) e) → (u ≡ true → IsNumber 16 2 255 (pair 15) f)
      → ((mark_at 2 && mark_at 5 && mark_at 8 && mark_at 11 && mark_at 14) && p && q && r && s && t && u) ≡ true
      → IsHexBytes mark text (a ∷ b ∷ c ∷ d ∷ e ∷ f ∷ [])
  six_read a b c d e f p q r s t u long is_a is_b is_c is_d is_e is_f all =
      let (to_t, has_u) = and_parts _ _ all in
      let (to_s, has_t) = and_parts _ _ to_t in
      let (to_r, has_s) = and_parts _ _ to_s in
      let (to_q, has_r) = and_parts _ _ to_r in
      let (to_p, has_q) = and_parts _ _ to_q in
      let (marks, has_p) = and_parts _ _ to_p in
      let (to_11, at_14) = and_parts _ _ marks in
      let (to_8, at_11) = and_parts _ _ to_11 in
      let (to_5, at_8) = and_parts _ _ to_8 in
      let (at_2, at_5) = and_parts _ _ to_5 in
      let pieces : List (List ℕ) = pair 0 ∷ pair 3 ∷ pair 6 ∷ pair 9 ∷ pair 12 ∷ pair 15 ∷ [] in (
        record {
          pieces = pieces;
          joined = text_from_reads text (join_with_byte mark pieces) long (
            refl,
            (
              refl,
              (
                eqb-true _ _ at_2,
                (
                  refl,
                  (
                    refl,
                    (
                      eqb-true _ _ at_5,
                      (
                        refl,
                        (
                          refl,
                          (
                            eqb-true _ _ at_8,
                            (refl, (refl, (eqb-true _ _ at_11, (refl, (refl, (eqb-true _ _ at_14, (refl, (refl, tt)))))))),
                          ),
                        ),
                      ),
                    ),
                  ),
                ),
              ),
            ),
          );
          each = (is_a has_p, (is_b has_q, (is_c has_r, (is_d has_s, (is_e has_t, (is_f has_u, tt))))));
        },
        refl,
      )

-- ---- only six pairs have 17 bytes

-- two digits and a mark, as often as the number says, and two digits
abbrev pub ArePairs : ℕ → ℕ → List ℕ → Type 0
ArePairs mark zero text = (digit_value (get_or text 0 0) < 16) × (digit_value (get_or text 1 0) < 16)
ArePairs mark (suc n) text =
    (digit_value (get_or text 0 0) < 16) × (digit_value (get_or text 1 0) < 16) × (get_or text 2 0 ≡ mark) × ArePairs mark n (drop 3 text)

last_pair : (mark : ℕ) (piece : List ℕ) → AllDigits 16 piece → length piece ≡ 2 → ArePairs mark 0 piece
last_pair mark [] digits two = absurd (omega arith)
last_pair mark (a ∷ []) digits two = absurd (omega arith)
last_pair mark (a ∷ b ∷ piece) digits two = (digits.0, digits.1.0)

next_pair : (mark n : ℕ) (piece rest : List ℕ) → AllDigits 16 piece → length piece ≡ 2 → ArePairs mark n rest → ArePairs mark (suc n) (piece ++ mark ∷ rest)
next_pair mark n [] rest digits two more = absurd (omega arith)
next_pair mark n (a ∷ []) rest digits two more = absurd (omega arith)
next_pair mark n (a ∷ b ∷ []) rest digits two more = (digits.0, digits.1.0, refl, more)
next_pair mark n (a ∷ b ∷ c ∷ piece) rest digits two more = absurd (omega arith)

-- a text of 17 bytes as its bytes
items : (text : List ℕ) → length text ≡ 17 → text ≡ get_or text 0 0 ∷ get_or text 1 0 ∷ get_or text 2 0 ∷ get_or text 3 0 ∷ get_or text 4 0 ∷ get_or text 5 0 ∷ get_or text 6 0 ∷ get_or text 7 0 ∷ get_or text 8 0 ∷ get_or text 9 0 ∷ get_or text 10 0 ∷ get_or text 11 0 ∷ get_or text 12 0 ∷ get_or text 13 0 ∷ get_or text 14 0 ∷ get_or text 15 0 ∷ get_or text 16 0 ∷ []
items text long = text_from_reads text _ long ((refl, (refl, (refl, (refl, (refl, (refl, (refl, (refl, (refl, (refl, (refl, (refl, (refl, (refl, (refl, (refl, (refl, tt))))))))))))))))))

module _ (mark : ℕ) where
  -- numbers of at most two digits
  short : (pieces : List (List ℕ)) (values : List ℕ) → EachReads (IsNumber 16 2 255) pieces values → length (join_with_byte mark pieces) ≤ 3 * length values - 1
  short [] values each = omega arith
  short (piece ∷ pieces) [] each = absurd each
  short (piece ∷ []) (v ∷ values) each = omega (arith, each.0.places_fit)
  short (piece ∷ next ∷ pieces) (v ∷ []) each = absurd each.1
  short (piece ∷ next ∷ pieces) (v ∷ w ∷ values) each =
      omega (arith, each.0.places_fit, short (next ∷ pieces) (w ∷ values) each.1, length-append piece (mark ∷ join_with_byte mark (next ∷ pieces)))

  -- and if the text has all the bytes that it can have, each number has two
  full : (pieces : List (List ℕ)) (n : ℕ) (values : List ℕ) → EachReads (IsNumber 16 2 255) pieces values → length values ≡ suc n → length (join_with_byte mark pieces) ≡ 3 * n + 2 → ArePairs mark n (join_with_byte mark pieces)
  full [] n values each count long = absurd (omega (arith, long))
  full (piece ∷ pieces) n [] each count long = absurd each
  full (piece ∷ []) zero (v ∷ values) each count long = last_pair mark piece each.0.digits.1 long
  full (piece ∷ []) (suc n) (v ∷ values) each count long = absurd (omega (arith, long, each.0.places_fit))
  full (piece ∷ next ∷ pieces) n (v ∷ []) each count long = absurd each.1
  full (piece ∷ next ∷ pieces) zero (v ∷ w ∷ values) each count long = absurd (omega (arith, count))
  full (piece ∷ next ∷ pieces) (suc n) (v ∷ w ∷ values) each count long =
      let rest : List ℕ = join_with_byte mark (next ∷ pieces) in
      let most = short (next ∷ pieces) (w ∷ values) each.1 in
      let whole = length-append piece (mark ∷ rest) in
      next_pair mark n piece rest each.0.digits.1 (omega (arith, long, count, each.0.places_fit, most, whole))
      (full (next ∷ pieces) n (w ∷ values) each.1 (omega (arith, count)) (omega (arith, long, count, each.0.places_fit, most, whole)))

  -- a text of six numbers has at most 17 bytes
  pub six_short : (text octets : List ℕ) → IsHexBytes mark text octets → length text ≤ 17
  six_short text octets h = omega (arith, short h.0.pieces octets h.0.each, ap length h.0.joined, h.1)

  -- if it has 17, it is six pairs
  pub six_full : (text octets : List ℕ) → IsHexBytes mark text octets → length text ≡ 17 → ArePairs mark 5 text
  six_full text octets h long =
      subst (ArePairs mark 5) (sym h.0.joined) (full h.0.pieces 5 octets h.0.each h.1 (sym (ap length h.0.joined) ∙ long))

  -- a text with another third byte has no such value
  pub other_mark : (text octets : List ℕ) → length text ≡ 17 → get_or text 2 0 ≢ mark → ¬ (IsHexBytes mark text octets)
  other_mark text octets long differ h = differ (six_full text octets h long).2

  -- all tests of six pairs pass
  pub six_pass : (text : List ℕ) (p q r s t u : Bool) → length text ≡ 17
      → (digit_value (get_or text 0 0) < 16 → digit_value (get_or text 1 0) < 16 → p ≡ true)
      → (digit_value (get_or text 3 0) < 16 → digit_value (get_or text 4 0) < 16 → q ≡ true)
      → (digit_value (get_or text 6 0) < 16 → digit_value (get_or text 7 0) < 16 → r ≡ true)
      → (digit_value (get_or text 9 0) < 16 → digit_value (get_or text 10 0) < 16 → s ≡ true)
      → (digit_value (get_or text 12 0) < 16 → digit_value (get_or text 13 0) < 16 → t ≡ true)
      → (digit_value (get_or text 15 0) < 16 → digit_value (get_or text 16 0) < 16 → u ≡ true)
      → ArePairs mark 5 text
      → ((mark_at mark text 2 && mark_at mark text 5 && mark_at mark text 8 && mark_at mark text 11 && mark_at mark text 14) && p && q && r && s && t && u) ≡ true
  six_pass text p q r s t u long has_p has_q has_r has_s has_t has_u pairs =
      let first = subst (ArePairs mark 5) (items text long) pairs in
      let second = first.3 in
      let third = second.3 in
      let fourth = third.3 in
      let fifth = fourth.3 in
      let sixth = fifth.3 in
      rw (
        eq-eqb _ _ first.2,
        eq-eqb _ _ second.2,
        eq-eqb _ _ third.2,
        eq-eqb _ _ fourth.2,
        eq-eqb _ _ fifth.2,
        has_p first.0 first.1,
        has_q second.0 second.1,
        has_r third.0 third.1,
        has_s fourth.0 fourth.1,
        has_t fifth.0 fifth.1,
        has_u sixth.0 sixth.1,
      ) refl

-- ---- the mark is a dash or a colon

pub by_dashes : (text : List ℕ) (r : Option (List ℕ)) → ((octets : List ℕ) → ¬ (IsHexBytes 58 text octets)) → Reads (IsHexBytes 45) text r → Reads IsHexText text r
by_dashes text r none h = grind arith

pub by_colons : (text : List ℕ) (r : Option (List ℕ)) → ((octets : List ℕ) → ¬ (IsHexBytes 45 text octets)) → Reads (IsHexBytes 58) text r → Reads IsHexText text r
by_colons text r none h = grind arith

-- a text of more than 17 bytes has no value
pub too_long : (text octets : List ℕ) → 17 < length text → ¬ (IsHexText text octets)
too_long text octets long (inl h) = absurd (omega (arith, six_short 45 text octets h))
too_long text octets long (inr h) = absurd (omega (arith, six_short 58 text octets h))

-- ---- the byte after the first number

first_long : (mark : ℕ) (piece : List ℕ) (pieces : List (List ℕ)) → length piece ≤ length (join_with_byte mark (piece ∷ pieces))
first_long mark piece [] = omega arith
first_long mark piece (next ∷ pieces) = omega (arith, length-append piece (mark ∷ join_with_byte mark (next ∷ pieces)))

-- the mark is the third byte after two digits, and else the second
abbrev pub HasFirstMark : ℕ → List ℕ → Type 0
HasFirstMark mark text =
    (3 ≤ length text) × (((digit_value (get_or text 1 0) < 16) × (get_or text 2 0 ≡ mark)) ⊎ (get_or text 1 0 ≡ mark))

pub first_found : (mark : ℕ) (text octets : List ℕ) → IsHexBytes mark text octets → HasFirstMark mark text
first_found mark text octets h = subst (HasFirstMark mark) (sym h.0.joined) (by h.0.pieces octets h.0.each h.1)
  where
    by : (pieces : List (List ℕ)) (values : List ℕ) → EachReads (IsNumber 16 2 255) pieces values → length values ≡ 6 → HasFirstMark mark (join_with_byte mark pieces)
    by [] [] each six = absurd (omega (arith, six))
    by [] (v ∷ values) each six = absurd each
    by (piece ∷ pieces) [] each six = absurd each
    by (piece ∷ []) (v ∷ []) each six = absurd (omega (arith, six))
    by (piece ∷ []) (v ∷ w ∷ values) each six = absurd each.1
    by (piece ∷ next ∷ pieces) (v ∷ []) each six = absurd each.1
    by ([] ∷ next ∷ pieces) (v ∷ w ∷ values) each six = absurd (omega (arith, each.0.digits.0))
    by ((a ∷ []) ∷ next ∷ pieces) (v ∷ w ∷ values) each six = (omega (arith, each.1.0.digits.0, first_long mark next pieces), inr refl)
    by ((a ∷ b ∷ []) ∷ next ∷ pieces) (v ∷ w ∷ values) each six = (omega arith, inl (each.0.digits.1.1.0, refl))
    by ((a ∷ b ∷ c ∷ piece) ∷ next ∷ pieces) (v ∷ w ∷ values) each six = absurd (omega (arith, each.0.places_fit))

pub third_byte : (mark : ℕ) (text : List ℕ) → 16 ≤ digit_value mark → digit_value (get_or text 1 0) < 16 → HasFirstMark mark text → get_or text 2 0 ≡ mark
third_byte mark text apart digit h = grind arith

pub second_byte : (mark : ℕ) (text : List ℕ) → 16 ≤ digit_value (get_or text 1 0) → HasFirstMark mark text → get_or text 1 0 ≡ mark
second_byte mark text other h = grind arith

-- a text whose first mark is another byte has no value with this mark
pub not_with : (mark other : ℕ) (text : List ℕ) → mark ≢ other → ((octets : List ℕ) → IsHexBytes mark text octets → Some other ≡ Some mark) → (octets : List ℕ) → ¬ (IsHexBytes mark text octets)
not_with mark other text differ first octets h = differ (sym (same_Some other mark (first octets h)))

-- a text with no first mark has no value
pub without_mark : (text : List ℕ) (result : Option (List ℕ)) → result ≡ None → ((mark : ℕ) (octets : List ℕ) → 16 ≤ digit_value mark → IsHexBytes mark text octets → None ≡ Some mark) → Reads IsHexText text result
without_mark text (Some octets) none first = absurd (cc)
without_mark text None none first = λ octets. elim [
  | inl h ↦ none-some 45 (first 45 octets (lit≤ tt) h)
  | inr h ↦ none-some 58 (first 58 octets (lit≤ tt) h)
]
