-- A text and its pieces between marks.
use Rattle.std.proofs.Common.{◌≡◌, ℕ, ◌<◌, ◌≤◌, ◌≢◌, ◌==◌, false, List, [], ◌∷◌, ◌++◌, length, refl, sym, ap, ◌∙◌, arith, ne_eqb, eq-eqb, All, append_assoc}
use Rattle.std.proofs.lemmas.List.Elements.{All-nil, All-cons, All-append}
use Rattle.std.specs.Char.{digit_value}
use Rattle.std.specs.Str.Parse.{AllDigits}
use Rattle.std.proofs.lemmas.List.Splits.{slice_split_none, slice_split_at, length-slice_split}
use Rattle.std.specs.List.{join_with_byte}
use Rattle.wire_addr.specs.Reading.{pieces_of}

-- the piece contains no mark
abbrev pub IsPiece : ℕ → List ℕ → Type 0
IsPiece mark piece = All (λ b. b == mark ≡ false) piece

-- each piece is one, by recursion
abbrev pub ArePieces : ℕ → List (List ℕ) → Type 0
ArePieces mark [] = Unit {0}
ArePieces mark (piece ∷ pieces) = IsPiece mark piece × ArePieces mark pieces

-- joining pieces and cutting the text gives the same pieces
pub pieces_of-join : (mark : ℕ) (piece : List ℕ) (pieces : List (List ℕ)) → ArePieces mark (piece ∷ pieces) → pieces_of mark (join_with_byte mark (piece ∷ pieces)) ≡ piece ∷ pieces
pieces_of-join mark piece [] h = slice_split_none _ piece h.0
pieces_of-join mark piece (next ∷ pieces) h =
    slice_split_at _ piece mark (join_with_byte mark (next ∷ pieces)) h.0 (eq-eqb mark mark refl)
    ∙ ap (λ t. piece ∷ t) (pieces_of-join mark next pieces h.1)

-- a text has at least one piece
pub pieces_some : (mark : ℕ) (text : List ℕ) → 0 < length (pieces_of mark text)
pieces_some mark text = omega (arith, length-slice_split (λ b. b == mark) text)

-- digits contain no mark that is no digit
pub digits_piece : (radix mark : ℕ) (text : List ℕ) → radix ≤ digit_value mark → AllDigits radix text → IsPiece mark text
digits_piece radix mark [] h all = All-nil (λ b. b == mark ≡ false)
digits_piece radix mark (c ∷ text) h all =
    let other : c ≢ mark = λ same. omega (arith, all.0, ap digit_value same) in
    All-cons (λ b. b == mark ≡ false) c text (ne_eqb c mark other) (digits_piece radix mark text h all.1)

-- the same where a mark and more text follow
pub pieces_of-join_append : (mark : ℕ) (piece : List ℕ) (pieces : List (List ℕ)) (text : List ℕ) → ArePieces mark (piece ∷ pieces) → pieces_of mark (join_with_byte mark (piece ∷ pieces) ++ mark ∷ text) ≡ (piece ∷ pieces) ++ pieces_of mark text
pieces_of-join_append mark piece [] text h = slice_split_at _ piece mark text h.0 (eq-eqb mark mark refl)
pieces_of-join_append mark piece (next ∷ pieces) text h =
    ap (pieces_of mark) (append_assoc piece (mark ∷ join_with_byte mark (next ∷ pieces)) (mark ∷ text))
    ∙ slice_split_at _ piece mark (join_with_byte mark (next ∷ pieces) ++ mark ∷ text) h.0 (eq-eqb mark mark refl)
    ∙ ap (λ t. piece ∷ t) (pieces_of-join_append mark next pieces text h.1)

-- pieces of another kind, joined by another byte, contain no mark
pub join-piece : (mark other : ℕ) (pieces : List (List ℕ)) → mark ≢ other → ArePieces other pieces → IsPiece other (join_with_byte mark pieces)
join-piece mark other [] apart h = All-nil (λ b. b == other ≡ false)
join-piece mark other (piece ∷ []) apart h = h.0
join-piece mark other (piece ∷ next ∷ pieces) apart h =
    All-append (λ b. b == other ≡ false) piece (mark ∷ join_with_byte mark (next ∷ pieces)) h.0
    (All-cons (λ b. b == other ≡ false) mark (join_with_byte mark (next ∷ pieces)) (ne_eqb mark other apart) (join-piece mark other (next ∷ pieces) apart h.1))

-- the form of joined pieces that are followed by more
pub join-append : (mark : ℕ) (piece : List ℕ) (pieces : List (List ℕ)) (next : List ℕ) (more : List (List ℕ)) → join_with_byte mark ((piece ∷ pieces) ++ next ∷ more) ≡ join_with_byte mark (piece ∷ pieces) ++ mark ∷ join_with_byte mark (next ∷ more)
join-append mark piece [] next more = refl
join-append mark piece (second ∷ pieces) next more =
    ap (λ t. piece ++ mark ∷ t) (join-append mark second pieces next more)
    ∙ sym (append_assoc piece (mark ∷ join_with_byte mark (second ∷ pieces)) (mark ∷ join_with_byte mark (next ∷ more)))
