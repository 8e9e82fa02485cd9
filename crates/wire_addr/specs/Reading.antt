-- What the parsers compute. `proofs/` shows that it equals the grammar.
use Rattle.std.specs.Prelude.{◌≡◌, ℕ, ◌-◌, Bool, true, false, ◌&&◌, List, [], ◌∷◌, ◌++◌, length, take, drop, replicate, bytes_eq, Option, Some, None, MatchOption, option_and_then, ◌==◌, nat_lt, nat_le, if◌then◌else◌}
use Rattle.std.specs.List.{slice_split, list_all}
use Rattle.std.specs.Option.{option_map_or}
use Rattle.std.specs.Char.{is_digit}
use Rattle.std.specs.Str.Parse.{digits_value}
use Rattle.std.specs.Borrow.{Bor}
use Rattle.wire_addr.specs.Grammar.{groups_of, dot, colon, mapped_groups}

infixl 10 ◌>>=◌
-- the result of the second step for the value of the first; `None` if the first step has none
abbrev pub ◌>>=◌ : {A B : Type 0} → Option A → (A → Option B) → Option B
o >>= f = option_and_then f o

-- the text, split at each mark
abbrev pub pieces_of : ℕ → List ℕ → List (List ℕ)
pieces_of mark text = slice_split (λ b. b == mark) text

-- the pieces of the text after a mark; none if there was no mark
abbrev pub pieces_after : ℕ → Option (Bor (List ℕ)) → List (List ℕ)
pieces_after mark None = []
pieces_after mark (Some rest) = pieces_of mark rest.now

-- the value of a text that is one number of at most `places` digits and at most `most`, if it is one
unfoldable pub number_of : ℕ → ℕ → ℕ → List ℕ → Option ℕ
number_of radix places most text =
    let value = digits_value radix text in
    if nat_lt 0 (length text) && nat_le (length text) places
    then (if list_all (λ c. is_digit c radix) text then (if nat_le value most then Some value else None) else None)
    else None

-- The text begins with this number, and the rest of the text follows its mark. Without a result, the first piece of
-- the text is no number.
pub record FirstPiece (mark radix places most : ℕ) (text : List ℕ) (result : Option (ℕ × Option (Bor (List ℕ)))) : Type 0 where
  pub piece : List ℕ
  pub others : List (List ℕ)
  pub cut : pieces_of mark text ≡ piece ∷ others
  pub read : MatchOption result (number_of radix places most piece ≡ None) (λ r. (number_of radix places most piece ≡ Some r.0) × (others ≡ pieces_after mark r.1))

-- the parsed values with these values before them
abbrev pub with_front : List ℕ → Option (List ℕ) → Option (List ℕ)
with_front front None = None
with_front front (Some ns) = Some (front ++ ns)

-- the values of pieces of text that are all such numbers
abbrev pub numbers_of : ℕ → ℕ → ℕ → List (List ℕ) → Option (List ℕ)
numbers_of radix places most [] = Some []
numbers_of radix places most (piece ∷ pieces) =
    number_of radix places most piece >>= λ n. with_front (n ∷ []) (numbers_of radix places most pieces)

-- true and the parsed values; or false, if the text is no list of as many values
abbrev pub FilledFrom : Option (List ℕ) → List ℕ → Bool → Type 0
FilledFrom read values true = read ≡ Some values
FilledFrom read values false = (ns : List ℕ) → read ≡ Some ns → length ns ≡ length values → ⊥

-- the four bytes of a dotted text, if it is one
unfoldable pub dotted_read : List ℕ → Option (List ℕ)
dotted_read text =
    numbers_of 10 3 255 (pieces_of dot text) >>= λ bytes. if length bytes == 4 then Some bytes else None

-- the six bytes of a text in hex with this mark, if it is one
unfoldable pub hex_bytes_read : ℕ → List ℕ → Option (List ℕ)
hex_bytes_read mark text =
    numbers_of 16 2 255 (pieces_of mark text) >>= λ bytes. if length bytes == 6 then Some bytes else None

-- the value of a text that is one group of an IPv6 address, if it is one
abbrev pub group_of : List ℕ → Option ℕ
group_of text = number_of 16 4 0xffff text

-- the eight groups of an address with `::`: the groups before it, zeros, and the groups after it
abbrev pub spread : ℕ → List ℕ → List ℕ
spread before seen = take before seen ++ replicate (8 - length seen) 0 ++ drop before seen

-- the eight groups, from the parsed groups and the number of groups before `::`
abbrev pub all_groups : Option ℕ → List ℕ → Option (List ℕ)
all_groups None seen = if length seen == 8 then Some seen else None
all_groups (Some before) seen =
    if nat_lt (length seen) 8 then Some (spread before seen)
    else None

-- a dotted part is allowed after these groups
abbrev pub may_end_dotted : Option ℕ → List ℕ → Bool
may_end_dotted None seen = bytes_eq seen mapped_groups
may_end_dotted (Some before) seen = nat_le before 4 && bytes_eq seen (replicate before 0 ++ 0xffff ∷ [])

-- the groups of an IPv4-mapped address, from its dotted part
unfoldable pub mapped_read : List ℕ → Option (List ℕ)
mapped_read text = dotted_read text >>= λ bytes. Some (mapped_groups ++ groups_of bytes)

-- the eight groups of a text whose last piece is a dotted part, if one is allowed there
abbrev pub dotted_end : Option ℕ → List ℕ → List ℕ → List (List ℕ) → Option (List ℕ)
dotted_end before seen piece [] =
    if may_end_dotted before seen then mapped_read piece else None
dotted_end before seen piece (next ∷ pieces) = None

-- the value after an empty piece, which stands for `::`: that of the groups so far if the text ends there, else that
-- of the rest; a second `::` and a single colon at the end are rejected
abbrev pub after_elision : Option ℕ → List ℕ → List (List ℕ) → Option (List ℕ) → Option (List ℕ)
after_elision (Some before) seen pieces later = None
after_elision None seen [] later = None
after_elision None seen ([] ∷ []) later = all_groups (Some (length seen)) seen
after_elision None seen pieces later = later

-- the eight groups, from the groups parsed so far and those of the remaining pieces; an empty piece is `::`
unfoldable pub groups_from : Option ℕ → List ℕ → List (List ℕ) → Option (List ℕ)
groups_from before seen [] = all_groups before seen
groups_from before seen (piece ∷ pieces) =
    if length piece == 0 then after_elision before seen pieces (groups_from (Some (length seen)) seen pieces)
    else option_map_or
    (λ group. if nat_lt (length seen) 8 then groups_from before (seen ++ group ∷ []) pieces else None)
    (group_of piece) (dotted_end before seen piece pieces)

-- the text without the first colon of a leading `::`, so that any other leading colon is rejected
abbrev pub inner_text : List ℕ → Option (List ℕ)
inner_text [] = None
inner_text (c ∷ []) = if c == colon then None else Some (c ∷ [])
inner_text (c ∷ d ∷ text) =
    if c == colon then (if d == colon then Some (d ∷ text) else None) else Some (c ∷ d ∷ text)

-- the eight groups of an IPv6 text, if it is one
unfoldable pub groups_read : List ℕ → Option (List ℕ)
groups_read text = inner_text text >>= λ inner. groups_from None [] (pieces_of colon inner)
