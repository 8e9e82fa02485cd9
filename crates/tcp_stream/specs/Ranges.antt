-- What the receiver keeps after gaps, in offsets from RCV.NXT.
-- Pinned by: `tcp/stream`
use Rattle.std.specs.Prelude.{ℕ, ◌+◌, ◌%◌, ◌==◌, ◌&&◌, ◌||◌, List, [], ◌∷◌, Bool, max, nat_le, nat_lt, if◌then◌else◌, Option, Some, None}
use Rattle.tcp_stream.specs.declared.ranges.Range.{Range}
use Rattle.tcp_stream.specs.declared.ranges.Ranges.{Ranges}

-- whether an offset is from `left` on and before `right`
abbrev pub is_within : ℕ → ℕ → ℕ → Bool
is_within left right n = nat_le left n && nat_lt n right

-- whether it is in a range
abbrev pub covers : Range → ℕ → Bool
covers r n = is_within r.from r.to n

-- whether the byte at an offset is kept
unfoldable pub has : Ranges → ℕ → Bool
has s n = covers s.first n || (covers s.second n || (covers s.third n || (covers s.fourth n || (covers s.fifth n || (covers s.sixth n || (covers s.seventh n || (covers s.eighth n)))))))

-- whether nothing is kept
abbrev pub is_none : Ranges → Bool
is_none s = s.first.from == 4294967295

-- 1 for a range that has a byte
unfoldable pub used : Range → ℕ
used r = if r.from == r.to then 0 else 1

-- how many separate ranges there are
unfoldable pub ranges_of : Ranges → ℕ
ranges_of s = used s.first + used s.second + used s.third + used s.fourth + used s.fifth + used s.sixth + used s.seventh + used s.eighth

-- the offset after a range; 0 if it has no byte
abbrev pub end_of : Range → ℕ
end_of r = if r.from == r.to then 0 else r.to

-- the offset after all ranges
unfoldable pub top : Ranges → ℕ
top s = max (max (max (max (max (max (max (end_of s.first) (end_of s.second)) (end_of s.third)) (end_of s.fourth)) (end_of s.fifth)) (end_of s.sixth)) (end_of s.seventh)) (end_of s.eighth)

-- the SACK block of a range, if RCV.NXT is `next`: its first number, and the one after the last (RFC 2018, section 3)
abbrev pub block_of : ℕ → Range → Option (ℕ × ℕ)
block_of next r = if r.from == r.to then None else Some ((next + r.from) % 4294967296, (next + r.to) % 4294967296)

-- The ranges that are told: first the one with the newest byte, and then the lowest others (RFC 2018, section 4).
unfoldable pub order_of : Ranges → ℕ → Range × Range × Range
order_of s newest =
    if covers s.second newest
    then (s.second, s.first, s.third)
    else (if covers s.third newest then (s.third, s.first, s.second) else (if covers s.fourth newest then (s.fourth, s.first, s.second) else (if covers s.fifth newest then (s.fifth, s.first, s.second) else (if covers s.sixth newest then (s.sixth, s.first, s.second) else (if covers s.seventh newest then (s.seventh, s.first, s.second) else (if covers s.eighth newest then (s.eighth, s.first, s.second) else (s.first, s.second, s.third)))))))

-- their blocks
abbrev pub blocks_of : Ranges → ℕ → ℕ → List (Option (ℕ × ℕ))
blocks_of s next newest = block_of next (order_of s newest).0 ∷ block_of next (order_of s newest).1 ∷ block_of next (order_of s newest).2 ∷ None ∷ []
