-- The scoreboard of a sender (RFC 6675, section 2): what the receiver has after a gap, as its SACK options tell (RFC 2018).
-- Items are counted from SND.UNA: item 0 is the first that is not acknowledged.
-- Pinned by: `congestion/scoreboard`
use Rattle.std.specs.Prelude.{◌≡◌, ℕ, ◌+◌, ◌-◌, ◌<◌, ◌≤◌, ◌==◌, ◌&&◌, ◌||◌, Bool, true, false, nat_le, nat_lt, if◌then◌else◌}
use Rattle.app_congestion.specs.declared.scoreboard.Range.{Range}
use Rattle.app_congestion.specs.declared.scoreboard.Scoreboard.{Scoreboard}

-- whether item n is in a block (RFC 2018, section 3): at or after its left edge, and before its right edge
abbrev pub is_within : ℕ → ℕ → ℕ → Bool
is_within left right n = nat_le left n && nat_lt n right

-- whether item n is in a range
abbrev pub covers : Range → ℕ → Bool
covers r n = is_within r.from r.to n

-- whether the sender remembers that the receiver has item n: it was told, and a cumulative acknowledgement does not cover it
unfoldable pub has : Scoreboard → ℕ → Bool
has s n = covers s.first n || (covers s.second n || (covers s.third n || covers s.fourth n))

-- 1 for a range that has an item
abbrev pub used : Range → ℕ
used r = if r.from == r.to then 0 else 1

-- how many separate ranges the sender remembers
abbrev pub ranges_of : Scoreboard → ℕ
ranges_of s = used s.first + used s.second + used s.third + used s.fourth

-- how many items are in a range
abbrev pub items : Range → ℕ
items r = r.to - r.from

-- how many items the sender remembers that the receiver has; the ranges are apart
abbrev pub total : Scoreboard → ℕ
total s = items s.first + items s.second + items s.third + items s.fourth

-- The first hole at or after `from`: the receiver does not have `count` items from `offset` on, but has the next one.
pub record IsHole (s : Scoreboard) (from offset count : ℕ) : Type 0 where
  pub after : from ≤ offset
  pub some : 0 < count
  pub before : (n : ℕ) → from ≤ n → n < offset → has s n ≡ true
  pub lost : (n : ℕ) → offset ≤ n → n < offset + count → has s n ≡ false
  pub next : has s (offset + count) ≡ true

-- no hole at or after `from`: the receiver has nothing after an item that it does not have
abbrev pub HasNoHole : Scoreboard → ℕ → Type 0
HasNoHole s from = (n m : ℕ) → from ≤ n → n < m → has s n ≡ false → has s m ≡ false
