-- Single steps of the parsers.
use Rattle.std.proofs.Common.{◌≡◌, ◌≢◌, ℕ, ◌+◌, ◌<◌, ◌≤◌, ◌==◌, nat_lt, Bool, true, false, cond, List, [], ◌∷◌, ◌++◌, length, get_or, take, drop, Option, Some, None, refl, sym, ap, ◌∙◌, arith, inl, inr, lit≤, lt-ltb, ne_eqb, eq-eqb, eqb-true, not, ◌⊎◌, Bor, is_some, IfSome}
use Rattle.std.proofs.lemmas.Bool.{eqb-false}
use Rattle.std.proofs.lemmas.List.Splits.{join_with_byte-slice_split, slice_split_at}
use Rattle.wire_addr.specs.Grammar.{groups_of, mapped_groups, IsDotted}
use Rattle.std.specs.List.{join_with_byte}
use Rattle.std.specs.Bool.{then_some}
use Rattle.wire_addr.specs.Reading.{FilledFrom, ◌>>=◌, FirstPiece, dotted_read, hex_bytes_read, numbers_of, pieces_of, all_groups, may_end_dotted, groups_from, group_of, after_elision, dotted_end, pieces_after, mapped_read, inner_text, groups_read}
use Rattle.std.proofs.lemmas.List.Elements.{All-nil}
use Rattle.std.specs.Str.Parse.{AllDigits}
use Rattle.wire_addr.proofs.First.{IsPast, IsFirst, no_piece}
use Rattle.wire_addr.proofs.NumberTexts.{number_sound}
use Rattle.wire_addr.proofs.Joined.{dotted_complete, dotted_sound}
use Rattle.wire_addr.proofs.Ipv6.{dotted_by, dotted_piece}
use Rattle.std.proofs.lemmas.Grind.{common_steps}
use Rattle.std.proofs.lemmas.Bool.Decides.{nat_tests}

-- exactly as many values as wanted, or `None`
counted : (count : ℕ) (read : Option (List ℕ)) (values : List ℕ) (done : Bool) → FilledFrom read values done → length values ≡ count → then_some done values ≡ read >>= (λ octets. cond (length octets == count) (Some octets) None)
counted count read values done filled len = grind arith

-- the filled array is the four bytes of the text
pub four_bytes : (text values : List ℕ) (done : Bool) (r : Option (List ℕ)) → FilledFrom (numbers_of 10 3 255 (pieces_of 46 text)) values done → length values ≡ 4 → r ≡ then_some done values → r ≡ dotted_read text
unfolding dotted_read
four_bytes text values done r filled len e = e ∙ counted 4 _ values done filled len

-- the filled array is the six bytes of the text
pub six_bytes : (mark : ℕ) (text values : List ℕ) (done : Bool) (r : Option (List ℕ)) → FilledFrom (numbers_of 16 2 255 (pieces_of mark text)) values done → length values ≡ 6 → r ≡ then_some done values → r ≡ hex_bytes_read mark text
unfolding hex_bytes_read
six_bytes mark text values done r filled len e = e ∙ counted 6 _ values done filled len

-- one iteration of the loop, by the kind of the piece
module _ (before : Option ℕ) (seen piece : List ℕ) (pieces : List (List ℕ)) where
  pub at_empty : length piece ≡ 0 → groups_from before seen (piece ∷ pieces) ≡ after_elision before seen pieces (groups_from (Some (length seen)) seen pieces)
  unfolding groups_from
  at_empty none = rw (eq-eqb (length piece) 0 none) refl

  pub at_group : (g : ℕ) → length piece ≢ 0 → group_of piece ≡ Some g → groups_from before seen (piece ∷ pieces) ≡ cond (nat_lt (length seen) 8) (groups_from before (seen ++ g ∷ []) pieces) None
  unfolding groups_from
  at_group g some e = rw (ne_eqb (length piece) 0 some, e) refl

  pub at_other : length piece ≢ 0 → group_of piece ≡ None → groups_from before seen (piece ∷ pieces) ≡ dotted_end before seen piece pieces
  unfolding groups_from
  at_other some e = rw (ne_eqb (length piece) 0 some, e) refl

-- no piece is left: the groups are complete
pub at_end : (before : Option ℕ) (seen : List ℕ) → groups_from before seen [] ≡ all_groups before seen
unfolding groups_from
at_end before seen = refl

-- an option that is not `Some` is `None`
pub none_from : {A : Type 0} (o : Option A) → is_some o ≡ false → o ≡ None
none_from o e = grind arith

-- an index within a length is within the next length
pub still_within : (before : Option ℕ) (len : ℕ) → IfSome before (λ n. n ≤ len) → IfSome before (λ n. n ≤ len + 1)
still_within before len h = grind arith

pub after_end : (seen rest : List ℕ) (later : Option (List ℕ)) → length rest ≡ 0 → after_elision None seen (pieces_of 58 rest) later ≡ all_groups (Some (length seen)) seen
after_end seen [] later e = refl
after_end seen (c ∷ rest) later e = absurd (omega arith)

more_after : (seen rest : List ℕ) (pieces : List (List ℕ)) (later : Option (List ℕ)) → join_with_byte 58 pieces ≡ rest → 0 < length rest → after_elision None seen pieces later ≡ later
more_after seen rest pieces later e some = grind arith

pub later_elision : (seen rest : List ℕ) (later : Option (List ℕ)) → length rest ≢ 0 → after_elision None seen (pieces_of 58 rest) later ≡ later
later_elision seen rest later some = more_after seen rest (pieces_of 58 rest) later (join_with_byte-slice_split 58 rest) (omega arith)

-- the text has an inner text, or `None`
pub inner_none : (text : List ℕ) → None ≡ inner_text text → groups_read text ≡ None
unfolding groups_read
inner_none text e = rw (← e) refl

-- parsing the inner text gives the groups of the text
pub inner_some : (text inner : List ℕ) → Some inner ≡ inner_text text → groups_read text ≡ groups_from None [] (pieces_of 58 inner)
unfolding groups_read
inner_some text inner e = rw (← e) refl

-- ---- a text that is no dotted part

-- a text that is not dotted gives no IPv4-mapped address
pub mapped_none : (text : List ℕ) → ((octets : List ℕ) → ¬ (IsDotted text octets)) → mapped_read text ≡ None
unfolding mapped_read
mapped_none text none = by (dotted_read text) refl
  where
    by : (o : Option (List ℕ)) → dotted_read text ≡ o → (dotted_read text >>= λ octets. Some (mapped_groups ++ groups_of octets)) ≡ None
    by None e = rw e refl
    by (Some octets) e = absurd (none octets (dotted_sound text octets e))

-- the groups of a mapped address
pub mapped_is : (text octets : List ℕ) → IsDotted text octets → mapped_read text ≡ Some (mapped_groups ++ groups_of octets)
unfolding mapped_read
mapped_is text octets dotted = rw (dotted_complete text octets dotted) refl

not_mapped : (text : List ℕ) → (length text ≡ 0) ⊎ (1 < length (pieces_of 58 text)) → mapped_read text ≡ None
not_mapped text why = mapped_none text λ octets h. elim why [
  | inl none ↦ omega (arith, (dotted_by text h.0.pieces octets h.0.each h.0.joined h.1).2)
  | inr several ↦ omega (arith, ap length (dotted_piece text octets h))
]

after_nothing : (before : Option ℕ) (seen : List ℕ) (later : Option (List ℕ)) → after_elision before seen [] later ≡ None
after_nothing before seen later = grind arith

-- no `::` is possible here: it occurred before, or no colon follows
pub in_apart : (before : Option ℕ) (text : List ℕ) → (is_some before ≡ true) ⊎ (0 < length text → get_or text 0 0 ≢ 58) → ¬ ((before ≡ None) × (0 < length text) × (get_or text 0 0 ≡ 58))
in_apart before text h = grind arith

full_apart : (before : Option ℕ) (seen : List ℕ) → length seen ≡ 8 → may_end_dotted before seen ≡ false
full_apart before seen full = grind (arith, common_steps, nat_tests)

-- why the text begins neither with a group that fits nor with a `::` that is allowed
abbrev pub IsStop : Option ℕ → List ℕ → List ℕ → ℕ → Type 0
IsStop before seen text count =
    ((count ≡ 0) × ((is_some before ≡ true) ⊎ (length text ≡ 0)))
    ⊎ ((¬ (IsPast 58 (drop count text)))
    ⊎ ((length seen ≡ 8) × ((g : ℕ) × ((after : Option (Bor (List ℕ))) × FirstPiece 58 16 4 0xffff text (Some (g, after))))))

-- a colon comes first only if no digits precede it
other_first : (text : List ℕ) (count : ℕ) → AllDigits 16 (take count text) → ¬ (IsPast 58 (drop count text)) → 0 < length text → get_or text 0 0 ≢ 58
other_first text count digits other some = grind arith

either_way : {A : Type 0} (b : Bool) (x : A) → x ≡ cond b x x
either_way b x = grind arith

-- ---- one iteration of the loop

-- the state of the loop, by the pieces of the rest
module _ {read : Option (List ℕ)} (before : Option ℕ) (seen : List ℕ) {rest : Option (Bor (List ℕ))} {more : Bor (List ℕ)} (stands : read ≡ groups_from before seen (pieces_after 58 rest)) (is : rest ≡ Some more) where
  at_pieces : (pieces : List (List ℕ)) → pieces_of 58 more.now ≡ pieces → read ≡ groups_from before seen pieces
  at_pieces pieces cut = stands ∙ ap (λ r. groups_from before seen (pieces_after 58 r)) is ∙ ap (groups_from before seen) cut

  --   a group, with or without room for it
  module _ {g : ℕ} {after : Option (Bor (List ℕ))} (first : FirstPiece 58 16 4 0xffff more.now (Some (g, after))) where
    some_piece : length first.piece ≢ 0
    some_piece = omega (arith, (number_sound 16 4 0xffff first.piece g first.read.0).digits.0)

    at_first : read ≡ cond (nat_lt (length seen) 8) (groups_from before (seen ++ g ∷ []) first.others) None
    at_first = at_pieces (first.piece ∷ first.others) first.cut ∙ at_group before seen first.piece first.others g some_piece first.read.0

    pub group_full : length seen ≡ 8 → read ≡ None
    group_full full = at_first ∙ rw full refl

    -- one more group, if there is room
    pub group_more : (now : List ℕ) → length seen < 8 → now ≡ seen ++ g ∷ [] → read ≡ groups_from before now (pieces_after 58 after)
    group_more now room same = at_first ∙ rw (lt-ltb (length seen) 8 room, same, first.read.1) refl

  --   `::`, followed by the end or by more text
  module _ (following : Bor (List ℕ)) (none : before ≡ None) (colon_first : more.now ≡ 58 ∷ following.now) where
    at_elision : read ≡ after_elision None seen (pieces_of 58 following.now) (groups_from (Some (length seen)) seen (pieces_of 58 following.now))
    at_elision =
        let cut = ap (pieces_of 58) colon_first ∙ slice_split_at (λ b. b == 58) [] 58 following.now (All-nil (λ b. (b == 58) ≡ false)) refl in
        at_pieces ([] ∷ pieces_of 58 following.now) cut ∙ at_empty before seen [] (pieces_of 58 following.now) refl
        ∙ ap (λ b. after_elision b seen (pieces_of 58 following.now) (groups_from (Some (length seen)) seen (pieces_of 58 following.now))) none

    -- after `::` the loop continues, unless the text ends
    pub elided : (empty : Bool) → empty ≡ (length following.now == 0) → read ≡ groups_from (Some (length seen)) seen (pieces_after 58 (then_some (not empty) following))
    elided true e = at_elision ∙ after_end seen following.now _ (eqb-true _ _ (sym e)) ∙ sym (at_end (Some (length seen)) seen)
    elided false e = at_elision ∙ later_elision seen following.now _ (eqb-false _ _ (sym e))

  --   anything else is a dotted part, the last piece
  pub at_last : FirstPiece 58 16 4 0xffff more.now None → ¬ ((before ≡ None) × (0 < length more.now) × (get_or more.now 0 0 ≡ 58)) → read ≡ cond (may_end_dotted before seen) (mapped_read more.now) None
  at_last first apart = at_pieces (first.piece ∷ first.others) first.cut ∙ by first.piece first.others first.read first.cut
    where
      unread : mapped_read more.now ≡ None → None ≡ cond (may_end_dotted before seen) (mapped_read more.now) None
      unread e = rw e (either_way (may_end_dotted before seen) None)

      whole : (pieces : List (List ℕ)) → pieces_of 58 more.now ≡ pieces → more.now ≡ join_with_byte 58 pieces
      whole pieces cut = sym (join_with_byte-slice_split 58 more.now) ∙ ap (join_with_byte 58) cut

      once : (b : Option ℕ) (next : List ℕ) (others : List (List ℕ)) → before ≡ b → more.now ≡ 58 ∷ join_with_byte 58 (next ∷ others) → after_elision b seen (next ∷ others) (groups_from (Some (length seen)) seen (next ∷ others)) ≡ None
      once None next others none e = absurd (apart (none, omega (arith, ap length e), ap (λ t. get_or t 0 0) e))
      once (Some n) next others none e = refl

      by : (piece : List ℕ) (others : List (List ℕ)) → group_of piece ≡ None → pieces_of 58 more.now ≡ piece ∷ others → groups_from before seen (piece ∷ others) ≡ cond (may_end_dotted before seen) (mapped_read more.now) None
      by [] [] none cut =
          at_empty before seen [] [] refl ∙ after_nothing before seen _
          ∙ unread (not_mapped more.now (inl (omega (arith, ap length (whole ([] ∷ []) cut)))))
      by [] (next ∷ others) none cut =
          at_empty before seen [] (next ∷ others) refl
          ∙ ap (λ b. after_elision b seen (next ∷ others) (groups_from (Some (length seen)) seen (next ∷ others))) refl
          ∙ once before next others refl (whole ([] ∷ next ∷ others) cut)
          ∙ unread (not_mapped more.now (inr (omega (arith, ap length cut))))
      by (c ∷ piece) [] none cut =
          let some : length (c ∷ piece) ≢ 0 = omega arith in
          at_other before seen (c ∷ piece) [] some none ∙ ap (λ t. cond (may_end_dotted before seen) (mapped_read t) None) (sym (whole ((c ∷ piece) ∷ []) cut))
      by (c ∷ piece) (next ∷ others) none cut =
          let some : length (c ∷ piece) ≢ 0 = omega arith in
          at_other before seen (c ∷ piece) (next ∷ others) some none
          ∙ unread (not_mapped more.now (inr (omega (arith, ap length cut))))

  --   neither a group that fits nor a `::` that is allowed
  pub at_stop : {value count : ℕ} → IsFirst 16 4 more.now value count → IsStop before seen more.now count → read ≡ cond (may_end_dotted before seen) (mapped_read more.now) None
  at_stop first (inl (none, inl some)) = at_last (no_piece first 58 (lit≤ tt) 0xffff (inl none)) (in_apart before more.now (inl some))
  at_stop first (inl (none, inr empty)) = at_last (no_piece first 58 (lit≤ tt) 0xffff (inl none)) (in_apart before more.now (inr (λ some. absurd (omega arith))))
  at_stop first (inr (inl other)) = at_last (no_piece first 58 (lit≤ tt) 0xffff (inr (inr other))) (in_apart before more.now (inr (other_first more.now _ first.digits other)))
  at_stop first (inr (inr (full, (g, (after, piece))))) = group_full piece full ∙ rw (full_apart before seen full) refl
