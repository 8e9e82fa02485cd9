-- No text is an IPv4 and an IPv6 address: the first byte that is no hex digit is a dot in one, a colon in the other.
use Rattle.std.proofs.Common.{◌≡◌, ℕ, ◌<◌, ◌≤◌, ◌==◌, true, false, List, [], ◌∷◌, ◌++◌, length, get_or, drop, sym, ap, ◌∙◌, arith, lit≤, inl, inr, append_assoc, eq-eqb}
use Rattle.std.specs.Char.{digit_value}
use Rattle.std.specs.List.{join_with_byte}
use Rattle.std.specs.Str.Parse.{AllDigits}
use Rattle.wire_addr.specs.Grammar.{AreGroupsText, EachReads, IsDotted, IsGroup, IsIpv6Text, IsDecimalByte}
use Rattle.wire_addr.specs.Ending.{EndsInNumber}
use Rattle.wire_addr.proofs.Endings.{length_is, mark_here}
use Rattle.wire_addr.proofs.Ipv6.{dotted_by}
use Rattle.wire_addr.proofs.Joined.{EachReads-length}
use Rattle.std.proofs.lemmas.Grind.{common_steps}
use Rattle.std.proofs.lemmas.Bool.Decides.{nat_tests}

-- the text is hex digits followed by this byte
pub record IsFirstMark (mark : ℕ) (text : List ℕ) : Type 0 where
  pub front : List ℕ
  pub rest : List ℕ
  pub digits : AllDigits 16 front
  pub spelled : text ≡ front ++ mark ∷ rest

one_mark : (a b : ℕ) → 16 ≤ digit_value a → 16 ≤ digit_value b → (f g r s : List ℕ) → AllDigits 16 f → AllDigits 16 g → f ++ a ∷ r ≡ g ++ b ∷ s → a ≡ b
one_mark a b h k [] [] r s df dg e = ap (λ t. get_or t 0 0) e
one_mark a b h k [] (y ∷ g) r s df dg e = absurd (omega (arith, dg.0, ap (λ t. digit_value (get_or t 0 0)) e))
one_mark a b h k (x ∷ f) [] r s df dg e = absurd (omega (arith, df.0, ap (λ t. digit_value (get_or t 0 0)) e))
one_mark a b h k (x ∷ f) (y ∷ g) r s df dg e = one_mark a b h k f g r s df.1 dg.1 (ap (drop 1) e)

-- the first byte of a text that is no hex digit is one byte
pub same_mark : (a b : ℕ) (text : List ℕ) → 16 ≤ digit_value a → 16 ≤ digit_value b → IsFirstMark a text → IsFirstMark b text → a ≡ b
same_mark a b text h k m n = one_mark a b h k m.front n.front m.rest n.rest m.digits n.digits (sym m.spelled ∙ n.spelled)

-- the text after that byte can be replaced
pub mark_before : (mark : ℕ) (text more : List ℕ) → IsFirstMark mark text → IsFirstMark mark (text ++ more)
mark_before mark text more m = grind (arith, common_steps, nat_tests)

-- decimal digits are hex digits
wider : (text : List ℕ) → AllDigits 10 text → AllDigits 16 text
wider [] h = tt
wider (c ∷ text) h = (omega (arith, h.0), wider text h.1)

-- in an IPv4 text that byte is a dot
pub dotted_first : (text octets : List ℕ) → IsDotted text octets → IsFirstMark 46 text
dotted_first text octets h = by h.0.pieces h.0.each h.0.joined
  where
    by : (pieces : List (List ℕ)) → EachReads IsDecimalByte pieces octets → text ≡ join_with_byte 46 pieces → IsFirstMark 46 text
    by [] each e = absurd (omega (arith, EachReads-length 10 3 255 [] octets each, h.1))
    by (piece ∷ []) each e = absurd (omega (arith, EachReads-length 10 3 255 (piece ∷ []) octets each, h.1))
    by (piece ∷ next ∷ pieces) each e = first octets each
      where
        first : (values : List ℕ) → EachReads IsDecimalByte (piece ∷ next ∷ pieces) values → IsFirstMark 46 text
        first [] each = absurd each
        first (n ∷ values) each = record {
          front = piece;
          rest = join_with_byte 46 (next ∷ pieces);
          digits = wider piece each.0.digits.1;
          spelled = e;
        }

-- groups or none, followed by a colon
groups_first : (text front groups rest : List ℕ) → AreGroupsText front groups → text ≡ front ++ 58 ∷ rest → IsFirstMark 58 text
groups_first text front groups rest h e = by h.pieces groups h.each h.joined
  where
    by : (pieces : List (List ℕ)) (groups : List ℕ) → EachReads IsGroup pieces groups → front ≡ join_with_byte 58 pieces → IsFirstMark 58 text
    by [] groups each same = record { front = []; rest = rest; digits = tt; spelled = e ∙ ap (λ t. t ++ 58 ∷ rest) same }
    by (piece ∷ pieces) [] each same = absurd each
    by (piece ∷ []) (g ∷ groups) each same = record { front = piece; rest = rest; digits = each.0.digits.1; spelled = e ∙ ap (λ t. t ++ 58 ∷ rest) same }
    by (piece ∷ next ∷ pieces) (g ∷ groups) each same = record {
      front = piece;
      rest = join_with_byte 58 (next ∷ pieces) ++ 58 ∷ rest;
      digits = each.0.digits.1;
      spelled = e ∙ ap (λ t. t ++ 58 ∷ rest) same ∙ append_assoc piece (58 ∷ join_with_byte 58 (next ∷ pieces)) (58 ∷ rest);
    }

full_first : (text groups : List ℕ) → AreGroupsText text groups → length groups ≡ 8 → IsFirstMark 58 text
full_first text groups h eight = by h.pieces groups h.each h.joined eight
  where
    by : (pieces : List (List ℕ)) (groups : List ℕ) → EachReads IsGroup pieces groups → text ≡ join_with_byte 58 pieces → length groups ≡ 8 → IsFirstMark 58 text
    by [] groups each same eight = absurd (omega (arith, EachReads-length 16 4 0xffff [] groups each))
    by (piece ∷ []) groups each same eight = absurd (omega (arith, EachReads-length 16 4 0xffff (piece ∷ []) groups each))
    by (piece ∷ next ∷ pieces) [] each same eight = absurd each
    by (piece ∷ next ∷ pieces) (g ∷ groups) each same eight = record { front = piece; rest = join_with_byte 58 (next ∷ pieces); digits = each.0.digits.1; spelled = same }

-- in an IPv6 text that byte is a colon
pub ipv6_first : (text groups : List ℕ) → IsIpv6Text text groups → IsFirstMark 58 text
ipv6_first text groups (inl h) = full_first text groups h.0 h.1
ipv6_first text groups (inr (inl h)) = groups_first text h.head_text h.head (58 ∷ h.tail_text) h.head_groups (h.spelled ∙ append_assoc h.head_text (58 ∷ 58 ∷ []) h.tail_text)
ipv6_first text groups (inr (inr (inl h))) = groups_first text h.front_text _ h.dotted_text h.front (h.spelled ∙ append_assoc h.front_text (58 ∷ []) h.dotted_text)
ipv6_first text groups (inr (inr (inr h))) = groups_first text h.head_text _ (58 ∷ h.mark_text ++ 58 ∷ h.dotted_text) h.head (h.spelled ∙ simp append_assoc)

-- no text is an IPv4 address and an IPv6 address
pub versions_apart : (text octets groups : List ℕ) → IsDotted text octets → IsIpv6Text text groups → ⊥
versions_apart text octets groups h k = omega (arith, same_mark 46 58 text (lit≤ tt) (lit≤ tt) (dotted_first text octets h) (ipv6_first text groups k))

-- an IPv4 text does not end in a colon and a number
pub no_port : (text octets front : List ℕ) (places most n : ℕ) → IsDotted text octets → EndsInNumber 58 places most text front n → ⊥
no_port text octets front places most n h k =
    let inside : length front < length text = omega (arith, length_is 58 places most (lit≤ tt) text front n k) in
    let other : (get_or text (length front) 0 == 58) ≡ false = (dotted_by text h.0.pieces octets h.0.each h.0.joined h.1).0 (length front) 0 inside in
    let colon : (get_or text (length front) 0 == 58) ≡ true = eq-eqb (get_or text (length front) 0) 58 (mark_here 58 places most (lit≤ tt) text front n k) in
    absurd (cc)
