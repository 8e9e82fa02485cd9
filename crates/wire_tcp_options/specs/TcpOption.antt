-- The parsed and the emitted form of one option.
-- Pinned by: `calls/worked_transport`, `ItemsWorked`, `wire/tcp_options`, `calls/walk`
use Rattle.std.specs.Prelude.{ℕ, ◌≡◌, ◌≢◌, ◌<◌, ◌≤◌, ◌+◌, ◌-◌, ◌*◌, List, [], ◌∷◌, ◌++◌, length, drop, count_by, is_some, replicate, Option}
use Rattle.std.specs.List.{filter_map, flat_map}
use Rattle.byteorder.specs.Endian.{big_bytes, big_number}
use Rattle.wire_tcp_options.specs.TcpItems.{Item, IsItem, first_blocks, stamps, text}
use Rattle.wire_tcp_options.specs.declared.tcp.option.TcpOption.{TcpOption}
use Rattle.wire_tcp_options.specs.declared.tcp.option.TcpOption.TheVariants.{EndOfList, NoOperation, MaxSegmentSize, WindowScale, SackPermitted, SackRange, TimeStamp, Unknown}

-- ---- reading

-- the item of an option list parses as this option
abbrev pub IsReading : TcpOption → Item → Type 0
IsReading EndOfList i = ⊥
IsReading NoOperation i = i.kind ≡ 1
IsReading (MaxSegmentSize size) i = (i.kind ≡ 2) × (size ≡ big_number 2 i.content)
IsReading (WindowScale scale) i = (i.kind ≡ 3) × (i.content ≡ scale ∷ [])
IsReading SackPermitted i = i.kind ≡ 4
IsReading (SackRange ranges) i = (i.kind ≡ 5) × (ranges ≡ first_blocks i.content)
IsReading (TimeStamp tsval tsecr) i = (i.kind ≡ 8) × (length i.content ≡ 8) × (tsval ≡ (stamps i.content).0) × (tsecr ≡ (stamps i.content).1)
IsReading (Unknown kind bytes) i = (5 < kind) × (kind ≡ 8 → length i.content ≢ 8) × (i.kind ≡ kind) × (i.content ≡ bytes.now)

-- the bytes begin with this option, as an item or as the end mark 0, and this rest follows it
abbrev pub Begins : TcpOption → List ℕ → List ℕ → Type 0
Begins EndOfList bytes rest = bytes ≡ 0 ∷ rest
Begins option bytes rest = (i : Item) × IsItem i × IsReading option i × (bytes ≡ text i ++ rest)

-- the bytes begin neither with a well-formed option nor with an end mark
pub record BeginsNothing (bytes : List ℕ) : Type 0 where
  pub no_mark : (rest : List ℕ) → bytes ≢ 0 ∷ rest
  pub no_item : (i : Item) (rest : List ℕ) → IsItem i → bytes ≢ text i ++ rest

-- the ranges of a SACK option; no ranges for any other
abbrev pub ranges_in : TcpOption → List (Option (ℕ × ℕ))
ranges_in (SackRange ranges) = ranges
ranges_in option = first_blocks []

-- ---- writing

-- the bytes of the ranges that are `Some`: each its left edge, then its right edge
abbrev pub range_bytes : List (Option (ℕ × ℕ)) → List ℕ
range_bytes ranges = flat_map (λ r. big_bytes 4 r.0 ++ big_bytes 4 r.1) (filter_map (λ r. r) ranges)

-- the length of an emitted option in bytes
abbrev pub option_len : TcpOption → ℕ
option_len EndOfList = 1
option_len NoOperation = 1
option_len (MaxSegmentSize _) = 4
option_len (WindowScale _) = 3
option_len SackPermitted = 2
option_len (SackRange ranges) = 2 + 8 * count_by is_some ranges
option_len (TimeStamp _ _) = 10
option_len (Unknown _ bytes) = 2 + length bytes.now

-- the bytes of an emitted option: its kind, and if it has data its length and the data
abbrev pub option_text : TcpOption → List ℕ
option_text EndOfList = 0 ∷ []
option_text NoOperation = 1 ∷ []
option_text (MaxSegmentSize size) = 2 ∷ 4 ∷ big_bytes 2 size
option_text (WindowScale scale) = 3 ∷ 3 ∷ scale ∷ []
option_text SackPermitted = 4 ∷ 2 ∷ []
option_text (SackRange ranges) = 5 ∷ (2 + 8 * count_by is_some ranges) ∷ range_bytes ranges
option_text (TimeStamp tsval tsecr) = 8 ∷ 10 ∷ big_bytes 4 tsval ++ big_bytes 4 tsecr
option_text (Unknown kind bytes) = kind ∷ (2 + length bytes.now) ∷ bytes.now

-- the option can be emitted: its length fits into one byte
abbrev pub IsEmittable : TcpOption → Type 0
IsEmittable (Unknown kind bytes) = length bytes.now ≤ 253
IsEmittable option = Unit {0}

-- the bytes after an option that is written to the front: zeros after the end mark, else unchanged
abbrev pub rest_after : TcpOption → List ℕ → List ℕ
rest_after EndOfList bytes = replicate (length bytes - 1) 0
rest_after option bytes = drop (option_len option) bytes
