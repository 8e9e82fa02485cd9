-- The parsers return what the grammar defines.
use Rattle.std.proofs.Common.{◌≡◌, ◌≢◌, ℕ, ◌≤◌, List, [], ◌∷◌, length, Option, Some, sym, ap, ◌∙◌, subst, arith, inl, inr, lit≤}
use Rattle.std.proofs.lemmas.Option.{same_Some}
use Rattle.std.proofs.lemmas.List.Splits.{slice_split_none}
use Rattle.std.specs.Char.{digit_value}
use Rattle.wire_addr.specs.Grammar.{Reads, IsDotted, IsHexBytes, IsHexText, IsIpv6Text}
use Rattle.wire_addr.specs.Reading.{pieces_of, dotted_read, hex_bytes_read, groups_read}
use Rattle.wire_addr.proofs.Pieces.{IsPiece, join-piece}
use Rattle.wire_addr.proofs.Joined.{EachReads-length, EachReads-pieces, numbers_sound, joined_complete, dotted_complete, dotted_sound, hex_bytes_complete, hex_bytes_sound}
use Rattle.wire_addr.proofs.Ipv6.{groups_complete, groups_sound}

reads : {A : Type 0} (R : List ℕ → A → Type 0) (f : List ℕ → Option A) → ((text : List ℕ) (x : A) → R text x → f text ≡ Some x) → ((text : List ℕ) (x : A) → f text ≡ Some x → R text x)
    → (text : List ℕ) (r : Option A) → r ≡ f text → Reads R text r
reads R f complete sound text r e = grind arith

-- the computed bytes are those of the grammar
pub reads_dotted : (text : List ℕ) (r : Option (List ℕ)) → r ≡ dotted_read text → Reads IsDotted text r
reads_dotted = reads IsDotted dotted_read dotted_complete dotted_sound

-- the computed groups are those of the grammar
pub reads_groups : (text : List ℕ) (r : Option (List ℕ)) → r ≡ groups_read text → Reads IsIpv6Text text r
reads_groups = reads IsIpv6Text groups_read groups_complete groups_sound

-- the computed hex bytes are those of the grammar
pub reads_hex_bytes : (mark : ℕ) → 16 ≤ digit_value mark → (text : List ℕ) (r : Option (List ℕ)) → r ≡ hex_bytes_read mark text → Reads (IsHexBytes mark) text r
reads_hex_bytes mark apart = reads (IsHexBytes mark) (hex_bytes_read mark) (λ text octets h. hex_bytes_complete mark text octets apart h) (hex_bytes_sound mark)

-- ---- the grammar is unambiguous

-- a text is at most one list of four bytes
pub dotted_once : (text octets others : List ℕ) → IsDotted text octets → IsDotted text others → octets ≡ others
dotted_once text octets others h k = same_Some _ _ (sym (dotted_complete text octets h) ∙ dotted_complete text others k)

-- a text is at most one list of groups
pub groups_once : (text groups others : List ℕ) → IsIpv6Text text groups → IsIpv6Text text others → groups ≡ others
groups_once text groups others h k = same_Some _ _ (sym (groups_complete text groups h) ∙ groups_complete text others k)

hex_bytes_once : (mark : ℕ) → 16 ≤ digit_value mark → (text octets others : List ℕ) → IsHexBytes mark text octets → IsHexBytes mark text others → octets ≡ others
hex_bytes_once mark apart text octets others h k = same_Some _ _ (sym (hex_bytes_complete mark text octets apart h) ∙ hex_bytes_complete mark text others apart k)

-- six numbers joined by one mark are a single piece for another mark
one_mark : (mark other : ℕ) → mark ≢ other → 16 ≤ digit_value mark → 16 ≤ digit_value other → (text octets others : List ℕ) → IsHexBytes mark text octets → ¬ (IsHexBytes other text others)
one_mark mark other differ apart apart_too text octets others h k =
    let whole : pieces_of other text ≡ text ∷ [] = slice_split_none _ text (subst (IsPiece other) (sym h.0.joined) (join-piece mark other h.0.pieces differ (EachReads-pieces 16 2 255 other apart_too h.0.pieces octets h.0.each))) in
    let read = joined_complete 16 2 255 other text others apart_too (omega (arith, k.1)) k.0 in
    omega (arith, k.1, ap length whole, EachReads-length 16 2 255 (pieces_of other text) others (numbers_sound 16 2 255 (pieces_of other text) others read))

-- a text is at most one Ethernet address
pub hex_text_once : (text octets others : List ℕ) → IsHexText text octets → IsHexText text others → octets ≡ others
hex_text_once text octets others (inl h) (inl k) = hex_bytes_once 45 (lit≤ tt) text octets others h k
hex_text_once text octets others (inr h) (inr k) = hex_bytes_once 58 (lit≤ tt) text octets others h k
hex_text_once text octets others (inl h) (inr k) = absurd (one_mark 45 58 (omega arith) (lit≤ tt) (lit≤ tt) text octets others h k)
hex_text_once text octets others (inr h) (inl k) = absurd (one_mark 58 45 (omega arith) (lit≤ tt) (lit≤ tt) text octets others h k)
