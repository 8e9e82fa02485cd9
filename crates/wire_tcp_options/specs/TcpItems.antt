-- The options of a TCP header as a list of items (RFC 9293, section 3.1; RFC 2018; RFC 7323).
-- Pinned by: `calls/walk`, `ItemsWorked`, `cases/tcp_options`, `cases/tcp_sack`
use Rattle.std.specs.Prelude.{ℕ, ◌≡◌, ◌==◌, ◌&&◌, ◌||◌, ◌<◌, ◌≤◌, ◌+◌, ◌-◌, ◌*◌, ◌%◌, nat_le, nat_lt, not, if◌then◌else◌, Bool, is_some, List, [], ◌∷◌, ◌++◌, length, map, drop, slice_index, take, Option, Some, None}
use Rattle.std.specs.List.{AllByRecursion, flat_map, range_with_len}
use Rattle.std.specs.Option.{option_map, option_map_or, option_or}
use Rattle.byteorder.specs.Endian.{big_number}
use Rattle.wire_tcp_options.specs.declared.tcp.TheConstants.{SACK_BLOCKS}

-- an option: its kind and its data
pub record Item : Type 0 where
  pub kind : ℕ
  pub content : List ℕ

-- the option with this kind and this data
abbrev pub item : ℕ → List ℕ → Item
item kind content = record { kind = kind; content = content }

-- An option is well-formed: its kind is 1 to 255, and the data of the kinds 1 to 5 have a valid length. No operation
-- has no data; the data of the kinds 2 to 4 have 2, 1 and 0 bytes, those of kind 5 one or more blocks of 8.
pub record IsItem (i : Item) : Type 0 where
  pub above : 0 < i.kind
  pub below : i.kind < 256
  pub size : length i.content ≤ 253
  pub no_operation : i.kind ≡ 1 → i.content ≡ []
  pub segment_size : i.kind ≡ 2 → length i.content ≡ 2
  pub window_scale : i.kind ≡ 3 → length i.content ≡ 1
  pub sack_permitted : i.kind ≡ 4 → i.content ≡ []
  pub sack_ranges : i.kind ≡ 5 → (n : ℕ) × (0 < n) × (length i.content ≡ 8 * n)

-- the bytes of an option: its kind, its length and its data; only the kind for no operation
abbrev pub text : Item → List ℕ
text i = if i.kind == 1 then 1 ∷ [] else i.kind ∷ (2 + length i.content) ∷ i.content

-- the bytes of options, one after the other
abbrev pub texts : List Item → List ℕ
texts items = flat_map text items

-- the rest after the last option: nothing, or the end mark 0 and any bytes after it
abbrev pub IsTail : List ℕ → Type 0
IsTail [] = Unit {0}
IsTail (b ∷ bs) = b ≡ 0

-- the bytes are well-formed options, and then this tail
pub record IsOptionList (bytes : List ℕ) (items : List Item) (tail : List ℕ) : Type 0 where
  pub each : AllByRecursion IsItem items
  pub joined : bytes ≡ texts items ++ tail
  pub ended : IsTail tail

-- ---- the first item, computed

-- whether an option of this kind can have this many bytes of data
abbrev pub is_sized : ℕ → ℕ → Bool
is_sized kind size =
    nat_lt kind 256 && nat_le size 253
    && (not (kind == 2) || (size == 2)) && (not (kind == 3) || (size == 1)) && (not (kind == 4) || (size == 0))
    && (not (kind == 5) || (nat_lt 0 size && (size % 8 == 0)))

-- the first option in the bytes and the bytes after it, if the bytes begin with a well-formed option
unfoldable pub first_item : List ℕ → Option (Item × List ℕ)
first_item [] = None
first_item (kind ∷ rest) =
    let size = slice_index rest 0 - 2 in
    let following = drop 1 rest in
    if kind == 0 then None
    else if kind == 1 then Some (item 1 [], rest)
    else if nat_le 2 (slice_index rest 0) && nat_le size (length following) && is_sized kind size then Some (item kind (take size following), drop size following)
    else None

-- ---- the values of items

-- block k of the data of a SACK option, its left and its right edge, if there is one
abbrev pub block_at : List ℕ → ℕ → Option (ℕ × ℕ)
block_at content k =
    if nat_lt (8 * k) (length content) then Some (big_number 4 (drop (8 * k) content), big_number 4 (drop (8 * k + 4) content)) else None

-- the first `SACK_BLOCKS` blocks of the data of a SACK option, `None` for each that is missing
abbrev pub first_blocks : List ℕ → List (Option (ℕ × ℕ))
first_blocks content = map (block_at content) (range_with_len 0 SACK_BLOCKS)

-- the two numbers in the data of a timestamp option: the timestamp, and the echoed timestamp
abbrev pub stamps : List ℕ → ℕ × ℕ
stamps content = (big_number 4 content, big_number 4 (drop 4 content))

-- whether an option has this kind
abbrev pub is_of : ℕ → Item → Bool
is_of kind i = i.kind == kind

-- whether an option is a timestamp: kind 8 with data of 8 bytes
abbrev pub is_timestamp : Item → Bool
is_timestamp i = i.kind == 8 && length i.content == 8

-- the last option that passes a test
abbrev pub last_of : (Item → Bool) → List Item → Option Item
last_of p [] = None
last_of p (i ∷ items) = option_or (last_of p items) (if p i then Some i else None)

-- the maximum segment size in the last option of kind 2
abbrev pub segment_size_of : List Item → Option ℕ
segment_size_of items = option_map (λ i. big_number 2 i.content) (last_of (is_of 2) items)

-- the window scale in the last option of kind 3
abbrev pub window_scale_of : List Item → Option ℕ
window_scale_of items = option_map (λ i. big_number 1 i.content) (last_of (is_of 3) items)

-- whether there is an option "SACK permitted", kind 4
abbrev pub sack_permitted_of : List Item → Bool
sack_permitted_of items = is_some (last_of (is_of 4) items)

-- the ranges in the last SACK option, kind 5
abbrev pub sack_ranges_of : List Item → List (Option (ℕ × ℕ))
sack_ranges_of items = first_blocks (option_map_or (λ i. i.content) (last_of (is_of 5) items) [])

-- the timestamp and the echoed timestamp in the last timestamp option
abbrev pub timestamp_of : List Item → Option (ℕ × ℕ)
timestamp_of items = option_map (λ i. stamps i.content) (last_of is_timestamp items)
