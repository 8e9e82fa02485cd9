-- The grammar of numbers and of lists of numbers, with the value of each text. A text is the list of its bytes.
-- Pinned by: `calls/ip`, `TextsWorked`, `calls/eth`
use Rattle.std.specs.Prelude.{◌≡◌, ℕ, ◌+◌, ◌-◌, ◌*◌, ◌≤◌, ◌⊎◌, List, [], ◌∷◌, ◌++◌, length, replicate, codes, Option, MatchOption}
use Rattle.std.specs.List.{join_with_byte}
use Rattle.std.specs.Str.Parse.{IsNumeral, digits_value}

-- the result is the value that a text has by the rule R, or `None` if it has no value
abbrev pub Reads : {A : Type 0} → (List ℕ → A → Type 0) → List ℕ → Option A → Type 0
Reads {A} R text result = MatchOption result ((a : A) → ¬ (R text a)) (R text)

-- the character `.` (ASCII)
abbrev pub dot : ℕ
dot = 46

-- the character `-` (ASCII)
abbrev pub dash : ℕ
dash = 45

-- the character `:` (ASCII)
abbrev pub colon : ℕ
colon = 58

-- a text of one to `places` digits of the radix, whose value n is at most `most`; leading zeros are allowed
-- (RFC 3493, section 6.3; RFC 4291, section 2.2)
pub record IsNumber (radix places most : ℕ) (text : List ℕ) (n : ℕ) : Type 0 where
  pub digits : IsNumeral radix text
  pub places_fit : length text ≤ places
  pub value : digits_value radix text ≡ n
  pub fits : n ≤ most

-- each piece of text parses by the rule R as the value at the same index, and there are as many pieces as values
abbrev pub EachReads : (List ℕ → ℕ → Type 0) → List (List ℕ) → List ℕ → Type 0
EachReads R [] [] = Unit {0}
EachReads R (piece ∷ pieces) (x ∷ xs) = R piece x × EachReads R pieces xs
EachReads R [] (x ∷ xs) = ⊥
EachReads R (piece ∷ pieces) [] = ⊥

-- the text is pieces joined by the mark, and each piece parses by the rule R as the value at the same index
pub record IsJoined (mark : ℕ) (R : List ℕ → ℕ → Type 0) (text values : List ℕ) : Type 0 where
  pub pieces : List (List ℕ)
  pub joined : text ≡ join_with_byte mark pieces
  pub each : EachReads R pieces values

-- ---- bytes in decimal and in hex

-- the text of a byte in decimal: one to three digits, at most 255 (RFC 1123, section 2.1)
abbrev pub IsDecimalByte : List ℕ → ℕ → Type 0
IsDecimalByte text n = IsNumber 10 3 255 text n

-- the text of four bytes in decimal, joined by dots (RFC 1123, section 2.1)
abbrev pub IsDotted : List ℕ → List ℕ → Type 0
IsDotted text bytes = IsJoined dot IsDecimalByte text bytes × (length bytes ≡ 4)

-- the text of six bytes, each of one or two hex digits, joined by the mark (IEEE 802, section 8.1)
abbrev pub IsHexBytes : ℕ → List ℕ → List ℕ → Type 0
IsHexBytes mark text bytes = IsJoined mark (IsNumber 16 2 255) text bytes × (length bytes ≡ 6)

-- the text of six bytes in hex, joined all by dashes or all by colons (IEEE 802, section 8.1)
abbrev pub IsHexText : List ℕ → List ℕ → Type 0
IsHexText text bytes = IsHexBytes dash text bytes ⊎ IsHexBytes colon text bytes

-- ---- groups of 16 bits (RFC 4291, section 2.2)

-- the text of a group of 16 bits: one to four hex digits of either case (RFC 4291, section 2.2)
abbrev pub IsGroup : List ℕ → ℕ → Type 0
IsGroup text n = IsNumber 16 4 0xffff text n

-- the text of groups joined by colons; the empty text for no groups (RFC 4291, section 2.2)
abbrev pub AreGroupsText : List ℕ → List ℕ → Type 0
AreGroupsText text groups = IsJoined colon IsGroup text groups

-- the text of an IPv6 address with all eight groups, joined by colons (RFC 4291, section 2.2)
abbrev pub IsFullText : List ℕ → List ℕ → Type 0
IsFullText text groups = AreGroupsText text groups × (length groups ≡ 8)

-- the text of an IPv6 address with `::` instead of one or more zero groups: at most seven groups are written, those
-- of the head before it and those of the tail after it (RFC 4291, section 2.2)
pub record IsElidedText (text groups : List ℕ) : Type 0 where
  pub head_text : List ℕ
  pub tail_text : List ℕ
  pub head : List ℕ
  pub tail : List ℕ
  pub spelled : text ≡ head_text ++ codes "::" ++ tail_text
  pub head_groups : AreGroupsText head_text head
  pub tail_groups : AreGroupsText tail_text tail
  pub room : length head + length tail ≤ 7
  pub value : groups ≡ head ++ replicate (8 - length head - length tail) 0 ++ tail

-- the six groups before the dotted part of an IPv4-mapped address: five zeros and ffff (RFC 4291, section 2.5.5.2)
abbrev pub mapped_groups : List ℕ
mapped_groups = 0 ∷ 0 ∷ 0 ∷ 0 ∷ 0 ∷ 0xffff ∷ []

-- the groups of 16 bits of a list of bytes: two bytes make a group, the high byte first (RFC 4291, section 2.2)
abbrev pub groups_of : List ℕ → List ℕ
groups_of [] = []
groups_of (a ∷ []) = []
groups_of (a ∷ b ∷ bytes) = (a * 256 + b) ∷ groups_of bytes

-- the text of an IPv4-mapped address without `::`: six groups with the values 0, 0, 0, 0, 0, ffff, then a colon and a
-- dotted part
pub record IsMappedText (text groups : List ℕ) : Type 0 where
  pub front_text : List ℕ
  pub dotted_text : List ℕ
  pub octets : List ℕ
  pub spelled : text ≡ front_text ++ codes ":" ++ dotted_text
  pub front : AreGroupsText front_text mapped_groups
  pub last : IsDotted dotted_text octets
  pub value : groups ≡ mapped_groups ++ groups_of octets

-- the text of an IPv4-mapped address with `::`: at most four zero groups, `::`, a group with the value ffff, a colon
-- and a dotted part
pub record IsElidedMappedText (text groups : List ℕ) : Type 0 where
  pub head_text : List ℕ
  pub mark_text : List ℕ
  pub dotted_text : List ℕ
  pub zeros : ℕ
  pub octets : List ℕ
  pub spelled : text ≡ head_text ++ codes "::" ++ mark_text ++ codes ":" ++ dotted_text
  pub head : AreGroupsText head_text (replicate zeros 0)
  pub few : zeros ≤ 4
  pub mark : IsGroup mark_text 0xffff
  pub last : IsDotted dotted_text octets
  pub value : groups ≡ mapped_groups ++ groups_of octets

-- the text of an IPv6 address in one of its four forms, with the values of its groups (RFC 4291, section 2.2)
abbrev pub IsIpv6Text : List ℕ → List ℕ → Type 0
IsIpv6Text text groups =
    IsFullText text groups
    ⊎ (IsElidedText text groups ⊎ (IsMappedText text groups ⊎ IsElidedMappedText text groups))
