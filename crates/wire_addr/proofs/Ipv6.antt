-- `groups_read` accepts exactly the four forms of an IPv6 text.
use Rattle.std.proofs.Common.{◌≡◌, ◌≢◌, ℕ, codes, ◌+◌, ◌-◌, ◌<◌, ◌≤◌, ◌⊎◌, ◌==◌, Bool, true, cond, List, [], ◌∷◌, ◌++◌, length, get_or, take, drop, replicate, bytes_eq, Option, Some, None, refl, sym, ap, ap₂, ◌∙◌, subst, arith, inl, inr, append-nil, append_assoc, length-append, lit≤, le-leb, lt-ltb, ne_eqb, eq-eqb, eqb-true, drop_at, take_at}
use Rattle.std.proofs.lemmas.Bool.{ltb-true, leb-true, and_parts}
use Rattle.std.proofs.lemmas.Option.{none-some, same_Some}
use Rattle.std.proofs.lemmas.Slice.Eq.{bytes_eq-Decides}
use Rattle.std.proofs.lemmas.List.{length-replicate}
use Rattle.std.proofs.lemmas.List.Splits.{join_with_byte-slice_split, slice_split_none}
use Rattle.std.specs.Char.{digit_value}
use Rattle.std.specs.Str.Parse.{AllDigits}
use Rattle.std.specs.List.{join_with_byte}
use Rattle.std.proofs.NetLemmas.Options.{and_then_some, cond_some}
use Rattle.wire_addr.specs.Grammar.{groups_of, mapped_groups}
use Rattle.wire_addr.specs.Grammar.{EachReads, IsNumber, IsGroup, IsFullText, IsElidedText, IsMappedText, IsElidedMappedText, IsIpv6Text, IsDotted}
use Rattle.wire_addr.specs.Reading.{group_of, groups_from, groups_read, all_groups, after_elision, dotted_end, may_end_dotted, mapped_read, dotted_read, inner_text, pieces_of}
use Rattle.wire_addr.proofs.NumberTexts.{number_complete, number_sound}
use Rattle.wire_addr.proofs.Pieces.{ArePieces, IsPiece, pieces_of-join, pieces_of-join_append, join-piece, join-append}
use Rattle.wire_addr.proofs.Joined.{EachReads-length, EachReads-pieces, dotted_complete, dotted_sound}
use Rattle.std.proofs.lemmas.Grind.{common_steps}
use Rattle.std.proofs.lemmas.Bool.Decides.{nat_tests}

-- ---- a text of the grammar is accepted

groups_from_more : (before : Option ℕ) (pieces : List (List ℕ)) (groups seen : List ℕ) (rest : List (List ℕ)) → EachReads IsGroup pieces groups → length seen + length groups ≤ 8 → groups_from before seen (pieces ++ rest) ≡ groups_from before (seen ++ groups) rest
unfolding groups_from
groups_from_more before [] [] seen rest h few = ap (λ s. groups_from before s rest) (sym (append-nil seen))
groups_from_more before [] (g ∷ groups) seen rest h few = absurd h
groups_from_more before (piece ∷ pieces) [] seen rest h few = absurd h
groups_from_more before (piece ∷ pieces) (g ∷ groups) seen rest h few =
    let some : length piece ≢ 0 = omega (arith, h.0.digits.0) in
    let room : length seen < 8 = omega arith in
    let later = groups_from_more before pieces groups (seen ++ g ∷ []) rest h.1 (omega (arith, length-append seen (g ∷ []))) in
    rw (ne_eqb (length piece) 0 some, number_complete 16 4 0xffff piece g h.0, lt-ltb (length seen) 8 room)
    (later ∙ ap (λ s. groups_from before s rest) (append_assoc seen (g ∷ []) groups))

-- a text that begins with a digit is its own inner text
inner_other : (c : ℕ) (text : List ℕ) → c ≢ 58 → inner_text (c ∷ text) ≡ Some (c ∷ text)
inner_other c text other = grind arith

digit_first : (piece : List ℕ) (g : ℕ) (text : List ℕ) → IsGroup piece g → inner_text (piece ++ text) ≡ Some (piece ++ text)
digit_first [] g text h = absurd (omega (arith, h.digits.0))
digit_first (c ∷ piece) g text h =
    let other : c ≢ 58 = λ same. omega (arith, h.digits.1.0, ap digit_value same) in
    inner_other c (piece ++ text) other

inner_groups : (piece : List ℕ) (pieces : List (List ℕ)) (groups text : List ℕ) → EachReads IsGroup (piece ∷ pieces) groups → inner_text (join_with_byte 58 (piece ∷ pieces) ++ text) ≡ Some (join_with_byte 58 (piece ∷ pieces) ++ text)
inner_groups piece pieces [] text h = absurd h
inner_groups piece [] (g ∷ groups) text h = digit_first piece g text h.0
inner_groups piece (next ∷ pieces) (g ∷ groups) text h =
    rw (append_assoc piece (58 ∷ join_with_byte 58 (next ∷ pieces)) text)
    (digit_first piece g (58 ∷ join_with_byte 58 (next ∷ pieces) ++ text) h.0)

colons_apart : (pieces : List (List ℕ)) (groups : List ℕ) → EachReads IsGroup pieces groups → ArePieces 58 pieces
colons_apart pieces groups h = EachReads-pieces 16 4 0xffff 58 (lit≤ tt) pieces groups h

-- groups, followed by a colon and more
read_more : (piece : List ℕ) (pieces : List (List ℕ)) (groups text : List ℕ) → EachReads IsGroup (piece ∷ pieces) groups → groups_read (join_with_byte 58 (piece ∷ pieces) ++ 58 ∷ text) ≡ groups_from None [] ((piece ∷ pieces) ++ pieces_of 58 text)
unfolding groups_read
read_more piece pieces groups text h =
    rw (inner_groups piece pieces groups (58 ∷ text) h)
    (ap (groups_from None []) (pieces_of-join_append 58 piece pieces text (colons_apart (piece ∷ pieces) groups h)))

-- groups or none, followed by `::` and more
read_elided : (pieces : List (List ℕ)) (groups text : List ℕ) → EachReads IsGroup pieces groups → groups_read (join_with_byte 58 pieces ++ 58 ∷ 58 ∷ text) ≡ groups_from None [] (pieces ++ [] ∷ pieces_of 58 text)
unfolding groups_read
read_elided [] groups text h = refl
read_elided (piece ∷ pieces) groups text h = read_more piece pieces groups (58 ∷ text) h

after_group : (seen piece : List ℕ) (pieces : List (List ℕ)) (later : Option (List ℕ)) → 0 < length piece → after_elision None seen (piece ∷ pieces) later ≡ later
after_group seen piece pieces later some = grind arith

full_by : (text : List ℕ) (pieces : List (List ℕ)) (groups : List ℕ) → EachReads IsGroup pieces groups → text ≡ join_with_byte 58 pieces → length groups ≡ 8 → groups_read text ≡ Some groups
unfolding groups_read groups_from
full_by text [] groups each e eight = absurd (omega (arith, EachReads-length 16 4 0xffff [] groups each))
full_by text (piece ∷ pieces) groups each e eight =
    let whole = append-nil (join_with_byte 58 (piece ∷ pieces)) in
    let inner = rw whole at (inner_groups piece pieces groups [] each) in
    let read = groups_from_more None (piece ∷ pieces) groups [] [] each (omega arith) in
    let all : all_groups None groups ≡ Some groups = rw (eq-eqb (length groups) 8 eight) refl in
    rw (e, inner, pieces_of-join 58 piece pieces (colons_apart (piece ∷ pieces) groups each))
    (ap (groups_from None []) (sym (append-nil (piece ∷ pieces))) ∙ read ∙ all)

full_complete : (text groups : List ℕ) → IsFullText text groups → groups_read text ≡ Some groups
full_complete text groups h = full_by text h.0.pieces groups h.0.each h.0.joined h.1

-- eight groups, with zeros between the head and the tail
between : (head tail : List ℕ) → length head + length tail ≤ 7 → all_groups (Some (length head)) (head ++ tail) ≡ Some (head ++ replicate (8 - length head - length tail) 0 ++ tail)
between head tail few = grind (arith, common_steps, nat_tests)

tail_by : (head tail tail_text : List ℕ) (pieces : List (List ℕ)) → EachReads IsGroup pieces tail → tail_text ≡ join_with_byte 58 pieces → length head + length tail ≤ 7 → groups_from None head ([] ∷ pieces_of 58 tail_text) ≡ all_groups (Some (length head)) (head ++ tail)
unfolding groups_from
tail_by head [] tail_text [] each e few = rw (e, append-nil head)
tail_by head (g ∷ tail) tail_text [] each e few = absurd each
tail_by head [] tail_text (piece ∷ pieces) each e few = absurd each
tail_by head (g ∷ tail) tail_text (piece ∷ pieces) each e few =
    let read = groups_from_more (Some (length head)) (piece ∷ pieces) (g ∷ tail) head [] each (omega arith) in
    rw (e, pieces_of-join 58 piece pieces (colons_apart (piece ∷ pieces) (g ∷ tail) each))
    (after_group head piece pieces _ each.0.digits.0 ∙ ap (groups_from (Some (length head)) head) (sym (append-nil (piece ∷ pieces))) ∙ read)

elided_by : (text head_text tail_text head tail : List ℕ) (hp : List (List ℕ)) → EachReads IsGroup hp head → head_text ≡ join_with_byte 58 hp → text ≡ head_text ++ (58 ∷ 58 ∷ []) ++ tail_text → length head ≤ 8 → groups_read text ≡ groups_from None head ([] ∷ pieces_of 58 tail_text)
elided_by text head_text tail_text head tail hp heads he spelled few =
    let shown : text ≡ join_with_byte 58 hp ++ 58 ∷ 58 ∷ tail_text = spelled ∙ append_assoc head_text (58 ∷ 58 ∷ []) tail_text ∙ ap (λ t. t ++ 58 ∷ 58 ∷ tail_text) he in
    ap groups_read shown ∙ read_elided hp head tail_text heads
    ∙ groups_from_more None hp head [] ([] ∷ pieces_of 58 tail_text) heads (omega arith)

elided_complete : (text groups : List ℕ) → IsElidedText text groups → groups_read text ≡ Some groups
elided_complete text groups h =
    let head = elided_by text h.head_text h.tail_text h.head h.tail h.head_groups.pieces h.head_groups.each h.head_groups.joined h.spelled (omega (arith, h.room)) in
    let tail = tail_by h.head h.tail h.tail_text h.tail_groups.pieces h.tail_groups.each h.tail_groups.joined h.room in
    head ∙ tail ∙ between h.head h.tail h.room ∙ ap Some (sym h.value)

-- a dotted text is one piece, and it is no group
digits_around : (radix : ℕ) (xs ys : List ℕ) (c : ℕ) → AllDigits radix (xs ++ c ∷ ys) → digit_value c < radix
digits_around radix [] ys c h = h.0
digits_around radix (x ∷ xs) ys c h = digits_around radix xs ys c h.1

no_number : (text : List ℕ) → ((g : ℕ) → ¬ (IsGroup text g)) → group_of text ≡ None
no_number text none = by (group_of text) refl
  where
    by : (o : Option ℕ) → group_of text ≡ o → group_of text ≡ None
    by None e = e
    by (Some g) e = absurd (none g (number_sound 16 4 0xffff text g e))

-- four bytes joined by dots are one piece, and no group
pub dotted_by : (text : List ℕ) (pieces : List (List ℕ)) (octets : List ℕ) → EachReads (IsNumber 10 3 255) pieces octets → text ≡ join_with_byte 46 pieces → length octets ≡ 4 → IsPiece 58 text × (group_of text ≡ None) × (0 < length text)
dotted_by text [] octets each e four = absurd (omega (arith, EachReads-length 10 3 255 [] octets each))
dotted_by text (piece ∷ []) octets each e four = absurd (omega (arith, EachReads-length 10 3 255 (piece ∷ []) octets each))
dotted_by text (piece ∷ next ∷ pieces) octets each e four =
    let apart = join-piece 46 58 (piece ∷ next ∷ pieces) (omega arith) (EachReads-pieces 10 3 255 58 (lit≤ tt) (piece ∷ next ∷ pieces) octets each) in
    let more = join_with_byte 46 (next ∷ pieces) in (
      subst (IsPiece 58) (sym e) apart,
      no_number text (λ g h. omega (arith, digits_around 16 piece more 46 (rw e at h.digits.1))),
      omega (arith, ap length e, length-append piece (46 ∷ more)),
    )

dotted_last : (before : Option ℕ) (seen text octets : List ℕ) → IsDotted text octets → may_end_dotted before seen ≡ true → groups_from before seen (text ∷ []) ≡ Some (mapped_groups ++ groups_of octets)
unfolding groups_from mapped_read
dotted_last before seen text octets h may =
    let (apart, no_group, some) = dotted_by text h.0.pieces octets h.0.each h.0.joined h.1 in
    rw (ne_eqb (length text) 0 (omega arith), no_group, may, dotted_complete text octets h)

same_bytes : (xs ys : List ℕ) → xs ≡ ys → bytes_eq xs ys ≡ true
same_bytes xs ys e = (bytes_eq-Decides xs ys).1 e

-- a dotted text is a single piece
pub dotted_piece : (text octets : List ℕ) → IsDotted text octets → pieces_of 58 text ≡ text ∷ []
dotted_piece text octets h = slice_split_none (λ b. b == 58) text (dotted_by text h.0.pieces octets h.0.each h.0.joined h.1).0

mapped_by : (text front_text dotted_text octets : List ℕ) (pieces : List (List ℕ)) → EachReads IsGroup pieces mapped_groups → front_text ≡ join_with_byte 58 pieces → text ≡ front_text ++ (58 ∷ []) ++ dotted_text → IsDotted dotted_text octets → groups_read text ≡ Some (mapped_groups ++ groups_of octets)
mapped_by text front_text dotted_text octets [] each e spelled last = absurd each
mapped_by text front_text dotted_text octets (piece ∷ pieces) each e spelled last =
    let shown : text ≡ join_with_byte 58 (piece ∷ pieces) ++ 58 ∷ dotted_text = spelled ∙ append_assoc front_text (58 ∷ []) dotted_text ∙ ap (λ t. t ++ 58 ∷ dotted_text) e in
    ap groups_read shown ∙ read_more piece pieces mapped_groups dotted_text each
    ∙ ap (λ ps. groups_from None [] ((piece ∷ pieces) ++ ps)) (dotted_piece dotted_text octets last)
    ∙ groups_from_more None (piece ∷ pieces) mapped_groups [] (dotted_text ∷ []) each (lit≤ tt)
    ∙ dotted_last None mapped_groups dotted_text octets last refl

elided_mapped_complete : (text groups : List ℕ) → IsElidedMappedText text groups → groups_read text ≡ Some groups
unfolding groups_from
elided_mapped_complete text groups h =
    let zeros = replicate h.zeros 0 in
    let count : length zeros ≡ h.zeros = length-replicate h.zeros 0 in
    let rest = h.mark_text ++ 58 ∷ h.dotted_text in
    let shown : text ≡ h.head_text ++ (58 ∷ 58 ∷ []) ++ rest = h.spelled ∙ simp append_assoc in
    let head = elided_by text h.head_text rest zeros [] h.head.pieces h.head.each h.head.joined shown (omega (arith, h.few)) in
    let mark = (colons_apart (h.mark_text ∷ []) (0xffff ∷ []) (h.mark, tt)).0 in
    let cut = pieces_of-join_append 58 h.mark_text [] h.dotted_text (mark, tt) ∙ ap (λ ps. h.mark_text ∷ ps) (dotted_piece h.dotted_text h.octets h.last) in
    let later = groups_from_more (Some (length zeros)) (h.mark_text ∷ []) (0xffff ∷ []) zeros (h.dotted_text ∷ []) (h.mark, tt) (omega (arith, h.few)) in
    let may : may_end_dotted (Some (length zeros)) (zeros ++ 0xffff ∷ []) ≡ true = rw (count, le-leb h.zeros 4 h.few) (same_bytes (replicate h.zeros 0 ++ 0xffff ∷ []) _ refl) in
    head ∙ ap (λ ps. groups_from None zeros ([] ∷ ps)) cut ∙ after_group zeros h.mark_text (h.dotted_text ∷ []) _ h.mark.digits.0
    ∙ later ∙ dotted_last (Some (length zeros)) (zeros ++ 0xffff ∷ []) h.dotted_text h.octets h.last may ∙ ap Some (sym h.value)

-- the elision replaces all zeros: none are written before it
pub mapped_text : (text dotted octets groups : List ℕ) → text ≡ codes "::ffff:" ++ dotted → IsDotted dotted octets → groups ≡ mapped_groups ++ groups_of octets → IsElidedMappedText text groups
mapped_text text dotted octets groups spelled last value = record {
  head_text = [];
  mark_text = codes "ffff";
  dotted_text = dotted;
  zeros = 0;
  octets = octets;
  spelled = spelled;
  head = record { pieces = []; joined = refl; each = tt };
  few = lit≤ tt;
  mark = record { digits = (lit≤ tt, search arith); places_fit = lit≤ tt; value = refl; fits = lit≤ tt };
  last = last;
  value = value;
}

-- each IPv6 text of the grammar is accepted, with its groups
pub groups_complete : (text groups : List ℕ) → IsIpv6Text text groups → groups_read text ≡ Some groups
groups_complete text groups (inl h) = full_complete text groups h
groups_complete text groups (inr (inl h)) = elided_complete text groups h
groups_complete text groups (inr (inr (inl h))) = mapped_by text h.front_text h.dotted_text h.octets h.front.pieces h.front.each h.front.joined h.spelled h.last ∙ ap Some (sym h.value)
groups_complete text groups (inr (inr (inr h))) = elided_mapped_complete text groups h

-- ---- an accepted text is in the grammar

-- the rest is empty, or begins with a piece that is no group
abbrev Stops : List (List ℕ) → Type 0
Stops [] = Unit {0}
Stops (piece ∷ pieces) = group_of piece ≡ None

test_passed : {A : Type 0} (b : Bool) (o : Option A) (x : A) → cond b o None ≡ Some x → (b ≡ true) × (o ≡ Some x)
test_passed b o x e = grind arith

-- the pieces begin with groups, and parsing continues after them
record Front (before : Option ℕ) (seen : List ℕ) (pieces : List (List ℕ)) (groups : List ℕ) : Type 0 where
  front : List (List ℕ)
  more : List ℕ
  rest : List (List ℕ)
  each : EachReads IsGroup front more
  split : pieces ≡ front ++ rest
  later : groups_from before (seen ++ more) rest ≡ Some groups
  stops : Stops rest

front_step : (before : Option ℕ) (seen piece : List ℕ) (pieces : List (List ℕ)) (groups : List ℕ) → groups_from before seen (piece ∷ pieces) ≡ Some groups → ((g : ℕ) → groups_from before (seen ++ g ∷ []) pieces ≡ Some groups → Front before (seen ++ g ∷ []) pieces groups) → (o : Option ℕ) → group_of piece ≡ o → Front before seen (piece ∷ pieces) groups
unfolding groups_from
front_step before seen piece pieces groups e later None none = record {
  front = [];
  more = [];
  rest = piece ∷ pieces;
  each = tt;
  split = refl;
  later = rw (append-nil seen) e;
  stops = none;
}
front_step before seen piece pieces groups e later (Some g) some =
    let h = number_sound 16 4 0xffff piece g some in
    let test : length piece ≢ 0 = omega (arith, h.digits.0) in
    let (room, read) = test_passed _ _ groups (rw (ne_eqb (length piece) 0 test, some) at e) in
    let f = later g read in
    record {
      front = piece ∷ f.front;
      more = g ∷ f.more;
      rest = f.rest;
      each = (h, f.each);
      split = ap (λ ps. piece ∷ ps) f.split;
      later = ap (λ xs. groups_from before xs f.rest) (sym (append_assoc seen (g ∷ []) f.more)) ∙ f.later;
      stops = f.stops;
    }

front_of : (before : Option ℕ) (seen : List ℕ) (pieces : List (List ℕ)) (groups : List ℕ) → groups_from before seen pieces ≡ Some groups → Front before seen pieces groups
unfolding groups_from
front_of before seen [] groups e = record {
  front = [];
  more = [];
  rest = [];
  each = tt;
  split = refl;
  later = rw (append-nil seen) e;
  stops = tt;
}
front_of before seen (piece ∷ pieces) groups e =
    front_step before seen piece pieces groups e (λ g. front_of before (seen ++ g ∷ []) pieces groups) (group_of piece) refl

-- what is accepted where no group begins: nothing, `::`, or a dotted part
at_stop : (before : Option ℕ) (seen piece : List ℕ) (pieces : List (List ℕ)) (groups : List ℕ) → groups_from before seen (piece ∷ pieces) ≡ Some groups → group_of piece ≡ None → ((piece ≡ []) × (after_elision before seen pieces (groups_from (Some (length seen)) seen pieces) ≡ Some groups)) ⊎ (dotted_end before seen piece pieces ≡ Some groups)
unfolding groups_from
at_stop before seen piece pieces groups e none = grind (arith, common_steps, nat_tests)

-- a dotted part is the last piece, after the prefix
at_dotted : (before : Option ℕ) (seen piece : List ℕ) (pieces : List (List ℕ)) (groups : List ℕ) → dotted_end before seen piece pieces ≡ Some groups → (pieces ≡ []) × (may_end_dotted before seen ≡ true) × ((octets : List ℕ) × IsDotted piece octets × (groups ≡ mapped_groups ++ groups_of octets))
unfolding mapped_read
at_dotted before seen piece (next ∷ pieces) groups e = absurd (none-some groups e)
at_dotted before seen piece [] groups e =
    let (may, read) = test_passed _ _ groups e in
    and_then_some _ (dotted_read piece) groups read λ octets last same.
    (refl, may, (octets, dotted_sound piece octets last, sym (same_Some _ _ same)))

-- ---- the text, recovered from its pieces

-- the inner text begins with no colon, or it is the text without the first colon of `::`
inner_cases : (text inner : List ℕ) → inner_text text ≡ Some inner → ((text ≡ inner) × (get_or inner 0 0 ≢ 58) × (0 < length inner)) ⊎ ((text ≡ 58 ∷ inner) × (get_or inner 0 0 ≡ 58))
inner_cases text inner e = grind arith

first_not_colon : (piece : List ℕ) (pieces : List (List ℕ)) (groups text : List ℕ) → EachReads IsGroup (piece ∷ pieces) groups → get_or (join_with_byte 58 (piece ∷ pieces) ++ text) 0 0 ≢ 58
first_not_colon piece pieces groups text h = grind (arith, common_steps, nat_tests)

-- a text that begins with a group is its own inner text
text_of_groups : (text inner piece : List ℕ) (pieces : List (List ℕ)) (groups more : List ℕ) → inner_text text ≡ Some inner → EachReads IsGroup (piece ∷ pieces) groups → inner ≡ join_with_byte 58 (piece ∷ pieces) ++ more → text ≡ join_with_byte 58 (piece ∷ pieces) ++ more
text_of_groups text inner piece pieces groups more found each shown =
    elim (inner_cases text inner found) [
      | inl k ↦ k.0 ∙ shown
      | inr k ↦ absurd (first_not_colon piece pieces groups more each (rw shown at k.1))
    ]

-- groups or none, then an empty piece, which comes from the second colon of `::`
text_elided : (text inner : List ℕ) (front : List (List ℕ)) (groups next : List ℕ) (more : List (List ℕ)) → inner_text text ≡ Some inner → EachReads IsGroup front groups → inner ≡ join_with_byte 58 (front ++ [] ∷ next ∷ more) → text ≡ join_with_byte 58 front ++ 58 ∷ 58 ∷ join_with_byte 58 (next ∷ more)
text_elided text inner [] groups next more found each shown =
    elim (inner_cases text inner found) [
      | inl k ↦ absurd (k.1 (ap (λ t. get_or t 0 0) shown))
      | inr k ↦ k.0 ∙ ap (λ t. 58 ∷ t) shown
    ]
text_elided text inner (piece ∷ pieces) groups next more found each shown =
    text_of_groups text inner piece pieces groups _ found each (shown ∙ join-append 58 piece pieces [] (next ∷ more))

full_sound : (text inner : List ℕ) (front : List (List ℕ)) (more groups : List ℕ) → inner_text text ≡ Some inner → EachReads IsGroup front more → inner ≡ join_with_byte 58 (front ++ []) → all_groups None more ≡ Some groups → IsFullText text groups
full_sound text inner [] more groups found each shown e =
    let (eight, same) = cond_some _ _ _ e in
    absurd (omega (arith, eqb-true _ _ eight, EachReads-length 16 4 0xffff [] more each))
full_sound text inner (piece ∷ pieces) more groups found each shown e =
    let (eight, same) = cond_some _ _ _ e in
    let plain = shown ∙ ap (join_with_byte 58) (append-nil (piece ∷ pieces)) ∙ sym (append-nil (join_with_byte 58 (piece ∷ pieces))) in
    rw (← same) (
      record {
        pieces = piece ∷ pieces;
        joined = text_of_groups text inner piece pieces more [] found each plain ∙ append-nil _;
        each = each;
      },
      eqb-true _ _ eight,
    )

mapped_sound : (text inner : List ℕ) (front : List (List ℕ)) (more piece : List ℕ) (pieces : List (List ℕ)) (groups : List ℕ) → inner_text text ≡ Some inner → EachReads IsGroup front more → inner ≡ join_with_byte 58 (front ++ piece ∷ pieces) → dotted_end None more piece pieces ≡ Some groups → IsMappedText text groups
mapped_sound text inner front more piece pieces groups found each shown e =
    let (last, may, (octets, dotted, value)) = at_dotted None more piece pieces groups e in
    let prefix : more ≡ mapped_groups = (bytes_eq-Decides more mapped_groups).0 may in
    mapped_text front (rw prefix at each) (rw last at shown) octets dotted value
  where
    mapped_text : (front : List (List ℕ)) → EachReads IsGroup front mapped_groups → inner ≡ join_with_byte 58 (front ++ piece ∷ []) → (octets : List ℕ) → IsDotted piece octets → groups ≡ mapped_groups ++ groups_of octets → IsMappedText text groups
    mapped_text [] each shown octets dotted value = absurd each
    mapped_text (first ∷ others) each shown octets dotted value = record {
      front_text = join_with_byte 58 (first ∷ others);
      dotted_text = piece;
      octets = octets;
      spelled = text_of_groups text inner first others mapped_groups (58 ∷ piece) found each (shown ∙ join-append 58 first others piece []) ∙ sym (append_assoc (join_with_byte 58 (first ∷ others)) (58 ∷ []) piece);
      front = record { pieces = first ∷ others; joined = refl; each = each };
      last = dotted;
      value = value;
    }

elided_text_of : (text : List ℕ) (front : List (List ℕ)) (head : List ℕ) (back : List (List ℕ)) (tail groups tail_text : List ℕ) → EachReads IsGroup front head → EachReads IsGroup back tail → text ≡ join_with_byte 58 front ++ 58 ∷ 58 ∷ tail_text → tail_text ≡ join_with_byte 58 back → all_groups (Some (length head)) (head ++ tail) ≡ Some groups → IsElidedText text groups
elided_text_of text front head back tail groups tail_text heads tails shown joined e =
    let (few, same) = cond_some _ _ _ e in
    let room : length head + length tail ≤ 7 = omega (arith, ltb-true _ _ few, length-append head tail) in
    record {
      head_text = join_with_byte 58 front;
      tail_text = tail_text;
      head = head;
      tail = tail;
      spelled = shown ∙ sym (append_assoc (join_with_byte 58 front) (58 ∷ 58 ∷ []) tail_text);
      head_groups = record { pieces = front; joined = refl; each = heads };
      tail_groups = record { pieces = back; joined = joined; each = tails };
      room = room;
      value = same_Some _ _ (sym e ∙ between head tail room);
    }

elision_cases : (seen : List ℕ) (pieces : List (List ℕ)) (later : Option (List ℕ)) (groups : List ℕ) → after_elision None seen pieces later ≡ Some groups → ((pieces ≡ [] ∷ []) × (all_groups (Some (length seen)) seen ≡ Some groups)) ⊎ ((next : List ℕ) × (more : List (List ℕ)) × (pieces ≡ next ∷ more) × (later ≡ Some groups))
elision_cases seen pieces later groups e = grind arith

one_piece : (pieces : List (List ℕ)) (g : ℕ) → EachReads IsGroup pieces (g ∷ []) → (piece : List ℕ) × (pieces ≡ piece ∷ []) × IsGroup piece g
one_piece [] g h = absurd h
one_piece (piece ∷ []) g h = (piece, refl, h.0)
one_piece (piece ∷ next ∷ more) g h = absurd h.1

-- zeros and the mark, split at `::`
zeros_and_mark : (head tail : List ℕ) → may_end_dotted (Some (length head)) (head ++ tail) ≡ true → (length head ≤ 4) × (head ≡ replicate (length head) 0) × (tail ≡ 0xffff ∷ [])
zeros_and_mark head tail may =
    let n = length head in
    let (few, same) = and_parts _ _ may in
    let e = (bytes_eq-Decides (head ++ tail) (replicate n 0 ++ 0xffff ∷ [])).0 same in
    let len : length (replicate {A = ℕ} n 0) ≡ n = length-replicate n 0 in (
      leb-true n 4 few,
      sym (take_at head tail n refl) ∙ ap (take n) e ∙ take_at (replicate n 0) (0xffff ∷ []) n len,
      sym (drop_at head tail n refl) ∙ ap (drop n) e ∙ drop_at (replicate n 0) (0xffff ∷ []) n len,
    )

elided_mapped_sound : (text : List ℕ) (front : List (List ℕ)) (head : List ℕ) (back : List (List ℕ)) (tail piece : List ℕ) (pieces : List (List ℕ)) (groups tail_text : List ℕ) → EachReads IsGroup front head → EachReads IsGroup back tail → text ≡ join_with_byte 58 front ++ 58 ∷ 58 ∷ tail_text → tail_text ≡ join_with_byte 58 (back ++ piece ∷ pieces) → dotted_end (Some (length head)) (head ++ tail) piece pieces ≡ Some groups → IsElidedMappedText text groups
elided_mapped_sound text front head back tail piece pieces groups tail_text heads tails shown joined e =
    let (last, may, (octets, dotted, value)) = at_dotted (Some (length head)) (head ++ tail) piece pieces groups e in
    let (few, zeros, one) = zeros_and_mark head tail may in
    let (mark, single, is_mark) = one_piece back 0xffff (rw one at tails) in
    let following : tail_text ≡ mark ++ (58 ∷ piece) = joined ∙ ap₂ (λ ps r. join_with_byte 58 (ps ++ piece ∷ r)) single last in
    record {
      head_text = join_with_byte 58 front;
      mark_text = mark;
      dotted_text = piece;
      zeros = length head;
      octets = octets;
      spelled = shown ∙ ap (λ t. join_with_byte 58 front ++ 58 ∷ 58 ∷ t) following ∙ simp append_assoc;
      head = record { pieces = front; joined = refl; each = subst (EachReads IsGroup front) zeros heads };
      few = few;
      mark = is_mark;
      last = dotted;
      value = value;
    }

-- after `::`
elision_sound : (text : List ℕ) (front : List (List ℕ)) (head : List ℕ) (pieces : List (List ℕ)) (groups tail_text : List ℕ) → EachReads IsGroup front head → text ≡ join_with_byte 58 front ++ 58 ∷ 58 ∷ tail_text → tail_text ≡ join_with_byte 58 pieces → (f : Front (Some (length head)) head pieces groups) → (rest : List (List ℕ)) → f.rest ≡ rest → IsIpv6Text text groups
unfolding groups_from
elision_sound text front head pieces groups tail_text heads shown joined f [] e =
    let whole = joined ∙ ap (join_with_byte 58) (f.split ∙ ap (λ r. f.front ++ r) e ∙ append-nil f.front) in
    inr (inl (elided_text_of text front head f.front f.more groups tail_text heads f.each shown whole (rw e at f.later)))
elision_sound text front head pieces groups tail_text heads shown joined f (piece ∷ rest) e =
    let whole = joined ∙ ap (join_with_byte 58) (f.split ∙ ap (λ r. f.front ++ r) e) in
    elim (at_stop (Some (length head)) (head ++ f.more) piece rest groups (rw e at f.later) (rw e at f.stops)) [
      | inl k ↦ absurd (none-some groups k.1)
      | inr k ↦ inr (inr (inr (elided_mapped_sound text front head f.front f.more piece rest groups tail_text heads f.each shown whole k)))
    ]

groups_sound_elided : (text inner groups : List ℕ) (front : List (List ℕ)) (more piece : List ℕ) (rest : List (List ℕ)) → inner_text text ≡ Some inner → EachReads IsGroup front more → inner ≡ join_with_byte 58 (front ++ piece ∷ rest) → piece ≡ [] → after_elision None more rest (groups_from (Some (length more)) more rest) ≡ Some groups → IsIpv6Text text groups
groups_sound_elided text inner groups front more piece rest found each whole empty e =
    elim (elision_cases more rest (groups_from (Some (length more)) more rest) groups e) [
      | inl k ↦
          let shown = text_elided text inner front more [] [] found each (whole ∙ ap (λ ps. join_with_byte 58 (front ++ ps)) (ap₂ (λ p ps. p ∷ ps) empty k.0)) in
          inr (inl (elided_text_of text front more [] [] groups [] each tt shown refl (rw (append-nil more) k.1)))
      | inr k ↦
          let (next, others, split, read) = k in
          let shown = text_elided text inner front more next others found each (whole ∙ ap (λ ps. join_with_byte 58 (front ++ ps)) (ap₂ (λ p ps. p ∷ ps) empty split)) in
          let f = front_of (Some (length more)) more rest groups read in
          elision_sound text front more rest groups (join_with_byte 58 (next ∷ others)) each shown (ap (join_with_byte 58) (sym split)) f f.rest refl
    ]

groups_sound_by : (text inner groups : List ℕ) → inner_text text ≡ Some inner → (f : Front None [] (pieces_of 58 inner) groups) → (rest : List (List ℕ)) → f.rest ≡ rest → IsIpv6Text text groups
unfolding groups_from
groups_sound_by text inner groups found f [] e =
    let whole = sym (join_with_byte-slice_split 58 inner) ∙ ap (join_with_byte 58) (f.split ∙ ap (λ r. f.front ++ r) e) in
    inl (full_sound text inner f.front f.more groups found f.each whole (rw e at f.later))
groups_sound_by text inner groups found f (piece ∷ rest) e =
    let whole = sym (join_with_byte-slice_split 58 inner) ∙ ap (join_with_byte 58) (f.split ∙ ap (λ r. f.front ++ r) e) in
    elim (at_stop None f.more piece rest groups (rw e at f.later) (rw e at f.stops)) [
      | inl k ↦ groups_sound_elided text inner groups f.front f.more piece rest found f.each whole k.0 k.1
      | inr k ↦ inr (inr (inl (mapped_sound text inner f.front f.more piece rest groups found f.each whole k)))
    ]

-- each accepted text is an IPv6 text of the grammar
pub groups_sound : (text groups : List ℕ) → groups_read text ≡ Some groups → IsIpv6Text text groups
unfolding groups_read
groups_sound text groups e =
    and_then_some _ (inner_text text) groups e λ inner found read.
    let f = front_of None [] (pieces_of 58 inner) groups read in
    groups_sound_by text inner groups found f f.rest refl
