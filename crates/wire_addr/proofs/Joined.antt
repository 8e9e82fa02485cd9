-- Numbers joined by a mark: the parsers accept exactly the grammar.
use Rattle.std.proofs.Common.{◌≡◌, ℕ, ◌<◌, ◌≤◌, Bool, List, [], ◌∷◌, ◌++◌, length, take, Option, Some, None, Bor, is_some, not, refl, sym, ap, ◌∙◌, subst, arith, append-nil, length-append, take_all, lit≤, eqb-true}
use Rattle.std.proofs.lemmas.Option.{same_Some}
use Rattle.std.proofs.lemmas.List.Splits.{join_with_byte-slice_split}
use Rattle.std.specs.Char.{digit_value}
use Rattle.std.specs.List.{join_with_byte}
use Rattle.std.proofs.NetLemmas.Options.{and_then_some, cond_some}
use Rattle.wire_addr.specs.Grammar.{IsNumber, EachReads, IsJoined, IsDotted, IsHexBytes}
use Rattle.wire_addr.specs.Reading.{number_of, numbers_of, with_front, pieces_of, pieces_after, FilledFrom, dotted_read, hex_bytes_read}
use Rattle.wire_addr.proofs.NumberTexts.{number_complete, number_sound}
use Rattle.wire_addr.proofs.Pieces.{ArePieces, pieces_of-join, pieces_some, digits_piece}

pub with_front_some : (front : List ℕ) (o : Option (List ℕ)) (ns : List ℕ) → with_front front o ≡ Some ns → (more : List ℕ) × (o ≡ Some more) × (front ++ more ≡ ns)
with_front_some front o ns e = grind arith

not-not : (b : Bool) → not (not b) ≡ b
not-not b = grind arith

module _ (radix places most : ℕ) where
  numbers_complete : (pieces : List (List ℕ)) (values : List ℕ) → EachReads (IsNumber radix places most) pieces values → numbers_of radix places most pieces ≡ Some values
  numbers_complete [] [] h = refl
  numbers_complete [] (x ∷ xs) h = absurd h
  numbers_complete (piece ∷ pieces) [] h = absurd h
  numbers_complete (piece ∷ pieces) (x ∷ xs) h =
      rw (number_complete radix places most piece x h.0, numbers_complete pieces xs h.1)

  -- pieces that parse as numbers are numbers of the grammar
  pub numbers_sound : (pieces : List (List ℕ)) (values : List ℕ) → numbers_of radix places most pieces ≡ Some values → EachReads (IsNumber radix places most) pieces values
  numbers_sound [] values e = subst (EachReads (IsNumber radix places most) []) (same_Some _ _ e) tt
  numbers_sound (piece ∷ pieces) values e =
      and_then_some _ (number_of radix places most piece) values e λ n read rest.
      let (ns, later, same) = with_front_some (n ∷ []) _ values rest in
      subst (EachReads (IsNumber radix places most) (piece ∷ pieces)) same
      (number_sound radix places most piece n read, numbers_sound pieces ns later)

  -- there are as many pieces as values
  pub EachReads-length : (pieces : List (List ℕ)) (values : List ℕ) → EachReads (IsNumber radix places most) pieces values → length pieces ≡ length values
  EachReads-length [] [] h = refl
  EachReads-length [] (x ∷ xs) h = absurd h
  EachReads-length (piece ∷ pieces) [] h = absurd h
  EachReads-length (piece ∷ pieces) (x ∷ xs) h = omega (arith, EachReads-length pieces xs h.1)

  -- pieces that are numbers contain no mark
  pub EachReads-pieces : (mark : ℕ) → radix ≤ digit_value mark → (pieces : List (List ℕ)) (values : List ℕ) → EachReads (IsNumber radix places most) pieces values → ArePieces mark pieces
  EachReads-pieces mark h [] values each = tt
  EachReads-pieces mark h (piece ∷ pieces) [] each = absurd each
  EachReads-pieces mark h (piece ∷ pieces) (x ∷ xs) each =
      (digits_piece radix mark piece h each.0.digits.1, EachReads-pieces mark h pieces xs each.1)

  -- joined numbers of the grammar parse
  pub joined_complete : (mark : ℕ) (text values : List ℕ) → radix ≤ digit_value mark → 0 < length values → IsJoined mark (IsNumber radix places most) text values → numbers_of radix places most (pieces_of mark text) ≡ Some values
  joined_complete mark text values other some h =
      go h.pieces h.each h.joined
    where
      go : (pieces : List (List ℕ)) → EachReads (IsNumber radix places most) pieces values → text ≡ join_with_byte mark pieces → numbers_of radix places most (pieces_of mark text) ≡ Some values
      go [] each e = absurd (omega (arith, EachReads-length [] values each))
      go (piece ∷ pieces) each e =
          rw (e, pieces_of-join mark piece pieces (EachReads-pieces mark other (piece ∷ pieces) values each)) (numbers_complete (piece ∷ pieces) values each)

  pub joined_sound : (mark : ℕ) (text values : List ℕ) → numbers_of radix places most (pieces_of mark text) ≡ Some values → IsJoined mark (IsNumber radix places most) text values
  joined_sound mark text values e = record {
    pieces = pieces_of mark text;
    joined = sym (join_with_byte-slice_split mark text);
    each = numbers_sound (pieces_of mark text) values e;
  }

  --   after the last value, the text is either used up or too long
  pub filled : (mark i : ℕ) (read : Option (List ℕ)) (values : List ℕ) (rest : Option (Bor (List ℕ))) (done : Bool) → length values ≤ i → read ≡ with_front (take i values) (numbers_of radix places most (pieces_after mark rest)) → is_some rest ≡ not done → FilledFrom read values done
  filled mark i read values None done end e is = rw (sym (not-not done) ∙ ap not (sym is)) (e ∙ ap Some (append-nil _ ∙ take_all i values end))
  filled mark i read values (Some rest) done end e is =
      rw (sym (not-not done) ∙ ap not (sym is)) λ ns all same.
      let (more, later, shown) = with_front_some (take i values) _ ns (sym e ∙ all) in
      let each = numbers_sound (pieces_of mark rest.now) more later in
      let some = pieces_some mark rest.now in
      omega (arith, EachReads-length (pieces_of mark rest.now) more each, ap length (sym shown), length-append (take i values) more, ap length (take_all i values end))

-- four bytes joined by dots
pub dotted_complete : (text octets : List ℕ) → IsDotted text octets → dotted_read text ≡ Some octets
unfolding dotted_read
dotted_complete text octets h = rw (joined_complete 10 3 255 46 text octets (lit≤ tt) (omega (arith, h.1)) h.0, h.1)

-- an accepted text is four bytes joined by dots
pub dotted_sound : (text octets : List ℕ) → dotted_read text ≡ Some octets → IsDotted text octets
unfolding dotted_read
dotted_sound text octets e =
    and_then_some _ (numbers_of 10 3 255 (pieces_of 46 text)) octets e λ values read kept.
    let (four, same) = cond_some _ _ _ kept in
    (joined_sound 10 3 255 46 text octets (read ∙ ap Some same), rw (← same) (eqb-true _ _ four))

-- six bytes in hex
pub hex_bytes_complete : (mark : ℕ) (text octets : List ℕ) → 16 ≤ digit_value mark → IsHexBytes mark text octets → hex_bytes_read mark text ≡ Some octets
unfolding hex_bytes_read
hex_bytes_complete mark text octets other h = rw (joined_complete 16 2 255 mark text octets other (omega (arith, h.1)) h.0, h.1)

-- an accepted text is six bytes in hex joined by the mark
pub hex_bytes_sound : (mark : ℕ) (text octets : List ℕ) → hex_bytes_read mark text ≡ Some octets → IsHexBytes mark text octets
unfolding hex_bytes_read
hex_bytes_sound mark text octets e =
    and_then_some _ (numbers_of 16 2 255 (pieces_of mark text)) octets e λ values read kept.
    let (six, same) = cond_some _ _ _ kept in
    (joined_sound 16 2 255 mark text octets (read ∙ ap Some same), rw (← same) (eqb-true _ _ six))
