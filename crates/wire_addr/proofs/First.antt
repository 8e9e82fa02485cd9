-- The leading digits of a text, and the first of the pieces between marks.
use Rattle.std.proofs.Common.{◌≡◌, ◌≢◌, ℕ, zero, suc, ◌-◌, ◌^◌, lit≤, ◌<◌, ◌≤◌, ◌⊎◌, List, [], ◌∷◌, ◌++◌, length, get_or, take, drop, Option, Some, None, Bor, refl, sym, ap, ap₂, ◌∙◌, subst, arith, inl, inr, append-nil, length-append, take_all, take_at, drop_at, length-take-le, length-drop, take-append-drop, eq-eqb}
use Rattle.std.proofs.lemmas.List.{take_rest}
use Rattle.std.proofs.lemmas.Bool.{cases_lt}
use Rattle.std.proofs.lemmas.List.Splits.{join_with_byte-slice_split, slice_split_none, slice_split_at}
use Rattle.std.proofs.Math.Nat.{pow-le-pow_right}
use Rattle.std.proofs.lemmas.Int.Digits.{digits_value-lt}
use Rattle.std.specs.List.{join_with_byte}
use Rattle.std.specs.Char.{digit_value}
use Rattle.std.specs.Str.Parse.{AllDigits, digits_value}
use Rattle.wire_addr.specs.Grammar.{IsNumber}
use Rattle.wire_addr.specs.Reading.{number_of, pieces_of, FirstPiece}
use Rattle.wire_addr.proofs.NumberTexts.{number_complete, number_sound}
use Rattle.wire_addr.proofs.Pieces.{digits_piece, pieces_some}
use Rattle.std.proofs.lemmas.Grind.{common_steps}
use Rattle.std.proofs.lemmas.Bool.Decides.{nat_tests}

-- these digits are parsed, with this value: either the limit is reached, or the text ends or another byte follows
pub record IsFirst (radix places : ℕ) (text : List ℕ) (value count : ℕ) : Type 0 where
  pub digits : AllDigits radix (take count text)
  pub is : value ≡ digits_value radix (take count text)
  pub within : count ≤ length text
  pub few : count ≤ places
  pub whole : (count ≡ places) ⊎ ((count ≡ length text) ⊎ (radix ≤ digit_value (get_or text count 0)))

-- each byte of the leading digits is a digit
digit_within : (radix k : ℕ) (front more : List ℕ) → AllDigits radix front → k < length front → digit_value (get_or (front ++ more) k 0) < radix
digit_within radix k [] more all within = absurd (omega arith)
digit_within radix zero (c ∷ front) more all within = all.0
digit_within radix (suc k) (c ∷ front) more all within = digit_within radix k front more all.1 (omega arith)

-- if more digits are parsed than a prefix has bytes, they begin with the prefix
digit_after : (radix k c : ℕ) (front more : List ℕ) → AllDigits radix (take k (front ++ c ∷ more)) → length front < k → digit_value c < radix
digit_after radix zero c front more all past = absurd (omega arith)
digit_after radix (suc k) c [] more all past = all.0
digit_after radix (suc k) c (d ∷ front) more all past = digit_after radix k c front more all.1 (omega arith)

-- what follows a piece: nothing, or the mark and more text
abbrev pub IsPast : ℕ → List ℕ → Type 0
IsPast mark [] = Unit {0}
IsPast mark (c ∷ more) = c ≡ mark

-- the text without its first bytes
pub rest_none : (text : List ℕ) (n : ℕ) → length (take (length text - n) (drop n text)) ≡ 0 → length text ≤ n
rest_none text n e = omega (arith, ap length (take_rest text n), length-drop n text)

-- if the rest of a text begins with a byte, it is that byte and more
pub rest_some : (text : List ℕ) (n c : ℕ) (more : List ℕ) → take (length text - n) (drop n text) ≡ c ∷ more → drop n text ≡ c ∷ more
rest_some text n c more e = sym (take_rest text n) ∙ e

module _ {radix places : ℕ} {text : List ℕ} {value count : ℕ} (first : IsFirst radix places text value count) where
  past_none : (mark : ℕ) (piece rest : List ℕ) → radix ≤ digit_value mark → text ≡ piece ++ rest → IsPast mark rest → count ≤ length piece
  past_none mark piece [] apart e following = omega (arith, first.within, ap length (e ∙ append-nil piece))
  past_none mark piece (c ∷ more) apart e same = elim (cases_lt (length piece) count) [
    | inl past ↦ absurd (omega (arith, digit_after radix count c piece more (rw e at first.digits) past, ap digit_value same))
    | inr some ↦ some
  ]

  --   a number is parsed up to a mark that is no digit
  first_count : (mark most n : ℕ) (piece rest : List ℕ) → radix ≤ digit_value mark → IsNumber radix places most piece n → text ≡ piece ++ rest → IsPast mark rest → count ≡ length piece
  first_count mark most n piece rest apart h e following =
      let some = past_none mark piece rest apart e following in
      let len = ap length e ∙ length-append piece rest in
      elim (cases_lt count (length piece)) [
        | inl short ↦
            let inside = digit_within radix count piece rest h.digits.1 short in
            elim first.whole [
              | inl all ↦ absurd (omega (arith, h.places_fit))
              | inr (inl all) ↦ absurd (omega (arith, len))
              | inr (inr other) ↦ absurd (omega (arith, inside, ap (λ t. digit_value (get_or t count 0)) e))
            ]
        | inr long ↦ omega arith
      ]

  first_value : (most n : ℕ) (piece rest : List ℕ) → IsNumber radix places most piece n → text ≡ piece ++ rest → count ≡ length piece → value ≡ n
  first_value most n piece rest h e same =
      first.is ∙ ap (digits_value radix) (ap₂ take same e ∙ take_at piece rest (length piece) refl) ∙ h.value

  -- the whole text is a number
  pub is_number : (most : ℕ) → 0 < count → length text ≤ count → value ≤ most → IsNumber radix places most text value
  is_number most some end fits = grind (arith, common_steps, nat_tests)

  --   there is no other way to reject it
  pub no_number : (most n : ℕ) → ((count ≡ 0) ⊎ ((count < length text) ⊎ (most < value))) → ¬ (IsNumber radix places most text n)
  no_number most n why h =
      let e = sym (append-nil text) in
      let whole : count ≡ length text = elim (cases_lt count (length text)) [
        | inl short ↦ elim first.whole [
          | inl all ↦ absurd (omega (arith, h.places_fit))
          | inr (inl all) ↦ all
          | inr (inr other) ↦ absurd (omega (arith, digit_within radix count text [] h.digits.1 short, ap (λ t. digit_value (get_or t count 0)) e))
        ]
        | inr long ↦ omega (arith, first.within)
      ] in
      let same = first_value most n text [] h e whole in
      elim why [
        | inl none ↦ omega (arith, h.digits.0)
        | inr (inl short) ↦ omega arith
        | inr (inr big) ↦ omega (arith, h.fits)
      ]

  -- ---- pieces

  front_piece : (mark : ℕ) → radix ≤ digit_value mark → (most : ℕ) → 0 < count → value ≤ most → number_of radix places most (take count text) ≡ Some value
  front_piece mark apart most some fits =
      let len = length-take-le count text first.within in
      number_complete radix places most (take count text) value (record {
        digits = (omega arith, first.digits);
        places_fit = omega (arith, first.few);
        value = sym first.is;
        fits = fits;
      })

  -- a number that is the whole text is its first and last piece
  pub last_piece : (mark : ℕ) → radix ≤ digit_value mark → (most : ℕ) → count ≢ 0 → value ≤ most → length text ≤ count → FirstPiece mark radix places most text (Some (value, None))
  last_piece mark apart most some fits end =
      let whole = take_all count text end in
      record {
        piece = text;
        others = [];
        cut = slice_split_none _ text (digits_piece radix mark text apart (rw whole at first.digits));
        read = (rw whole at (front_piece mark apart most (omega arith) fits), refl);
      }

  -- a number up to a mark is the first piece, and the rest follows the mark
  pub piece_and_more : (mark : ℕ) → radix ≤ digit_value mark → (most : ℕ) → count ≢ 0 → value ≤ most → (rest : Bor (List ℕ)) → drop count text ≡ mark ∷ rest.now → FirstPiece mark radix places most text (Some (value, Some rest))
  piece_and_more mark apart most some fits rest e =
      let split : text ≡ take count text ++ mark ∷ rest.now = sym (take-append-drop count text) ∙ ap (λ t. take count text ++ t) e in
      record {
        piece = take count text;
        others = pieces_of mark rest.now;
        cut = ap (pieces_of mark) split ∙ slice_split_at _ (take count text) mark rest.now (digits_piece radix mark (take count text) apart first.digits) (eq-eqb mark mark refl);
        read = (front_piece mark apart most (omega arith) fits, refl);
      }

  -- no first piece is a number: no digit, a value that is too large, or another byte after the digits
  pub no_piece : (mark : ℕ) → radix ≤ digit_value mark → (most : ℕ) → ((count ≡ 0) ⊎ ((most < value) ⊎ (¬ (IsPast mark (drop count text))))) → FirstPiece mark radix places most text None
  no_piece mark apart most why = by (pieces_of mark text) refl
    where
      joined : (piece : List ℕ) (others : List (List ℕ)) → (rest : List ℕ) × (join_with_byte mark (piece ∷ others) ≡ piece ++ rest) × IsPast mark rest
      joined piece [] = ([], sym (append-nil piece), tt)
      joined piece (next ∷ others) = (mark ∷ join_with_byte mark (next ∷ others), refl, refl)

      unread : (piece : List ℕ) (others : List (List ℕ)) → pieces_of mark text ≡ piece ∷ others → (n : ℕ) → ¬ (IsNumber radix places most piece n)
      unread piece others e n h =
          let (rest, shown, following) = joined piece others in
          let split : text ≡ piece ++ rest = sym (join_with_byte-slice_split mark text) ∙ ap (join_with_byte mark) e ∙ shown in
          let same = first_count mark most n piece rest apart h split following in
          elim why [
            | inl none ↦ omega (arith, h.digits.0)
            | inr (inl big) ↦ omega (arith, h.fits, first_value most n piece rest h split same)
            | inr (inr other) ↦ other (subst (IsPast mark) (sym (ap₂ drop same split ∙ drop_at piece rest (length piece) refl)) following)
          ]

      by : (pieces : List (List ℕ)) → pieces_of mark text ≡ pieces → FirstPiece mark radix places most text None
      by [] e = absurd (omega (arith, pieces_some mark text, ap length e))
      by (piece ∷ others) e = record {
        piece = piece;
        others = others;
        cut = e;
        read = none (number_of radix places most piece) refl;
      }
        where
          none : (o : Option ℕ) → number_of radix places most piece ≡ o → number_of radix places most piece ≡ None
          none None same = same
          none (Some n) same = absurd (unread piece others e n (number_sound radix places most piece n same))

-- four hex digits have a value of at most ffff
pub group_small : {text : List ℕ} {value count : ℕ} → IsFirst 16 4 text value count → value ≤ 0xffff
group_small {text} {value} {count} first =
    let len = length-take-le count text first.within in
    let below = digits_value-lt 16 (take count text) first.digits in
    let short : length (take count text) ≤ 4 = omega (arith, first.few) in
    let few : 16 ^ length (take count text) ≤ 16 ^ 4 = pow-le-pow_right (lit≤ tt) short in
    omega (arith, first.is)
