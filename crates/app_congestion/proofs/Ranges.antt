-- Ranges of a scoreboard: what they have before and after one is pushed, or joined.
use Rattle.std.proofs.Common.{arith, ◌≤◌, ◌+◌, ◌≡◌, ◌<◌, ◌||◌, ◌⊎◌, ℕ, Bool, true, false, ap, min, max}
use Rattle.app_congestion.specs.Scoreboard.{has, covers, is_within, used, ranges_of}
use Rattle.app_congestion.specs.declared.scoreboard.Range.{Range}
use Rattle.app_congestion.specs.declared.scoreboard.Scoreboard.{Scoreboard}

-- an unused range has nothing
pub unused-covers : (r : Range) → 4294967295 ≤ r.from → (n : ℕ) → covers r n ≡ false
unused-covers r unused n = grind arith

-- with room for one more the last range is unused
pub room-unused : (s : Scoreboard) → ranges_of s < 4 → 4294967295 ≤ s.fourth.from
room-unused s room = grind arith

-- two ranges that overlap or adjoin
pub joined-covers : (a b : Range) → a.from ≤ b.to → b.from ≤ a.to → (n : ℕ) →
    is_within (min a.from b.from) (max a.to b.to) n ≡ (covers a n || covers b n)
joined-covers a b left right n = grind arith

-- what is forgotten when one more is pushed
pub pushed-all : (old new : Scoreboard) (r : Range) →
    new.first ≡ r → new.second ≡ old.first → new.third ≡ old.second → new.fourth ≡ old.third → (n : ℕ) →
    (has new n || covers old.fourth n) ≡ (covers r n || has old n)
unfolding has
pushed-all old new r first second third fourth n = grind arith

-- nothing is forgotten while there is room
pub pushed : (old new : Scoreboard) (r : Range) →
    new.first ≡ r → new.second ≡ old.first → new.third ≡ old.second → new.fourth ≡ old.third →
    4294967295 ≤ old.fourth.from → (n : ℕ) → has new n ≡ (covers r n || has old n)
unfolding has
pushed old new r first second third fourth unused n = grind (arith, unused-covers old.fourth unused n)

-- four ranges and one more, each joined after the other
pub joined-all : (k0 k1 k2 k3 k4 r0 r1 r2 r3 r4 s1 s2 s3 s4 : Bool) → k0 ≡ false →
    (k1 || r1) ≡ (k0 || (s4 || r0)) →
    (k2 || r2) ≡ (k1 || (s3 || r1)) →
    (k3 || r3) ≡ (k2 || (s2 || r2)) →
    (k4 || r4) ≡ (k3 || (s1 || r3)) →
    (k4 || r4) ≡ ((s1 || (s2 || (s3 || s4))) || r0)
joined-all k0 k1 k2 k3 k4 r0 r1 r2 r3 r4 s1 s2 s3 s4 none e1 e2 e3 e4 = grind arith

-- four ranges pushed one after the other
pub pushed-four : (k0 k1 k2 k3 k4 s1 s2 s3 s4 : Bool) → k0 ≡ false →
    k1 ≡ (k0 || s4) → k2 ≡ (k1 || s3) → k3 ≡ (k2 || s2) → k4 ≡ (k3 || s1) →
    k4 ≡ (s1 || (s2 || (s3 || s4)))
pushed-four k0 k1 k2 k3 k4 s1 s2 s3 s4 none e1 e2 e3 e4 = grind arith

-- what is kept when one more is pushed before all others ends before the range that was the last, and apart
pub below-fourth : (old new : Scoreboard) (r : Range) →
    new.first ≡ r → new.second ≡ old.first → new.third ≡ old.second → new.fourth ≡ old.third →
    min 4294967295 (r.to + 1) ≤ old.first.from → (m : ℕ) → has new m ≡ true →
    min 4294967295 (m + 2) ≤ old.fourth.from
unfolding has
below-fourth old new r first second third fourth order m kept = grind arith

-- an item at, before or next to one that is kept is kept too
pub pushed-lowest : (old new : Scoreboard) (r : Range) →
    new.first ≡ r → new.second ≡ old.first → new.third ≡ old.second → new.fourth ≡ old.third →
    min 4294967295 (r.to + 1) ≤ old.first.from → (n m : ℕ) →
    (has old n || covers r n) ≡ true → has new m ≡ true → n ≤ m + 1 → has new n ≡ true
pushed-lowest old new r first second third fourth order n m known kept before =
    let all = pushed-all old new r first second third fourth n in
    let below = below-fourth old new r first second third fourth order m kept in
    grind arith

-- what was known of four ranges and one more
pub pushed-sound : (old new : Scoreboard) (r : Range) →
    new.first ≡ r → new.second ≡ old.first → new.third ≡ old.second → new.fourth ≡ old.third →
    (n : ℕ) → has new n ≡ true → (has old n || covers r n) ≡ true
pushed-sound old new r first second third fourth n known = grind (arith, pushed-all old new r first second third fourth n)

-- one of two tests
pub either : (a b c : Bool) → c ≡ (a || b) → c ≡ true → (a ≡ true) ⊎ (b ≡ true)
either a b c same holds = grind arith

-- the two places of a test
pub exchanged : (a b : Bool) → (a || b) ≡ (b || a)
exchanged a b = grind arith

-- a range counts at most once
pub used-most : (r : Range) → used r ≤ 1
used-most r = grind arith

-- how many ranges there are when one more is pushed
pub pushed-ranges : (old new : Scoreboard) (r : Range) →
    new.first ≡ r → new.second ≡ old.first → new.third ≡ old.second → new.fourth ≡ old.third →
    ranges_of new ≤ used r + ranges_of old
pushed-ranges old new r first second third fourth = omega (arith, ap used first, ap used second, ap used third, ap used fourth)

-- with fewer than four ranges after one is pushed, the last one was unused
pub pushed-room : (old new : Scoreboard) → new.fourth ≡ old.third → ranges_of new < 4 → 4294967295 ≤ old.fourth.from
pushed-room old new fourth room =
    let unused = room-unused new room in
    let same = ap (λ (r : Range). r.from) fourth in
    omega arith
