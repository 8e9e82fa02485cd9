-- Fragments that agree never conflict, and those that make a packet are found to.
use Rattle.std.proofs.Common.{◌≡◌, ◌≢◌, ℕ, zero, suc, ◌+◌, ◌-◌, ◌*◌, ◌<◌, ◌≤◌, ◌⊎◌, inl, inr, List, [], ◌∷◌, length, get_or, take, drop, ◌∙◌, sym, subst, arith, refl, false}
use Rattle.app_fragment.specs.Fragments.{Fragment, end_of, Covers, HasBlock, Each, One, IsIn, Holds, IsPartOf, Make, IsApart, IsShaped, HasEnds}
use Rattle.std.proofs.lemmas.Grind.{common_steps}
use Rattle.app_fragment.proofs.Ranges.{same_part}

-- a fragment that is in the buffer is what the buffer has at its place
pub range_same : (buffer received : List ℕ) (f : Fragment) → end_of f ≤ length buffer → IsIn buffer received f
    → take (8 * f.first + length f.bytes - 8 * f.first) (drop (8 * f.first) buffer) ≡ f.bytes
range_same buffer received f room is =
    same_part buffer f.bytes (8 * f.first) (8 * f.first + length f.bytes - 8 * f.first) (omega arith) (omega arith)
    (λ i low high. is.same i (low, omega arith))

-- a block of the fragment that another one has: they are the same
pub shared : (buffer received : List ℕ) (f : Fragment) (gs : List Fragment) (i : ℕ) → HasBlock f i → Each (IsIn buffer received) gs
    → Each (λ g. IsApart f g ⊎ (f ≡ g)) gs → One (λ g. HasBlock g i) gs → IsIn buffer received f
shared buffer received f [] i h is apart one = absurd one
shared buffer received f (g ∷ gs) i h is apart (inl has) = by apart.0
  where
    by : IsApart f g ⊎ (f ≡ g) → IsIn buffer received f
    by (inl a) = absurd (a (8 * i) (omega arith, h.1) (omega arith, has.1))
    by (inr e) = subst (λ k. IsIn buffer received k) (sym e) is.0
shared buffer received f (g ∷ gs) i h is apart (inr one) = shared buffer received f gs i h is.1 apart.1 one

pub no_conflict : (buffer received : List ℕ) (f : Fragment) (fs : List Fragment) → Holds buffer received fs → Each (λ g. IsApart f g ⊎ (f ≡ g)) fs
    → (((i : ℕ) → HasBlock f i → get_or received i 0 ≡ 0) → ⊥) → (IsIn buffer received f → ⊥) → ⊥
no_conflict buffer received f fs h apart some other = some (λ i has. unreceived i has (get_or received i 0) refl)
  where
    unreceived : (i : ℕ) → HasBlock f i → (n : ℕ) → get_or received i 0 ≡ n → get_or received i 0 ≡ 0
    unreceived i has zero e = e
    unreceived i has (suc n) e = absurd (other (shared buffer received f fs i has h.all apart (h.only i (λ z. omega arith))))

-- where the last one ends is the packet's length
pub length_of : (fs : List Fragment) (packet : List ℕ) (len : ℕ) → Each (λ g. IsPartOf g packet) fs → Each (λ g. g.more ≡ false → end_of g ≡ len) fs
    → One (λ g. g.more ≡ false) fs → length packet ≡ len
length_of [] packet len parts last one = absurd one
length_of (f ∷ fs) packet len parts last (inl e) = sym (parts.0.fits.last e) ∙ last.0 e
length_of (f ∷ fs) packet len parts last (inr one) = length_of fs packet len parts.1 last.1 one

pub not_empty : (fs : List Fragment) (len : ℕ) → Each IsShaped fs → Each (λ g. g.more ≡ false → end_of g ≡ len) fs
    → One (λ g. g.more ≡ false) fs → len ≢ 0
not_empty [] len shaped last one = absurd one
not_empty (f ∷ fs) len shaped last (inl e) = λ z. let full : 0 < length f.bytes = shaped.0.filled in let at : end_of f ≡ len = last.0 e in omega arith
not_empty (f ∷ fs) len shaped last (inr one) = not_empty fs len shaped.1 last.1 one

received_of : (buffer received : List ℕ) (fs : List Fragment) (i : ℕ) → Each (IsIn buffer received) fs → One (λ g. Covers g (8 * i)) fs → get_or received i 0 ≢ 0
received_of buffer received [] i is one = absurd one
received_of buffer received (f ∷ fs) i is (inl has) = is.0.blocks i (omega arith, has.1)
received_of buffer received (f ∷ fs) i is (inr one) = received_of buffer received fs i is.1 one

-- if fragments make a packet, all its blocks are received, and its length is
pub found : (buffer received : List ℕ) (len high : ℕ) (fs : List Fragment) (packet : List ℕ) → Holds buffer received fs → HasEnds len high fs → Make fs packet
    → (len ≢ 0 → (((i : ℕ) → 8 * i < len → get_or received i 0 ≢ 0) → ⊥)) → ⊥
found buffer received len high fs packet h ends m missing =
    let same : length packet ≡ len = length_of fs packet len m.parts ends.last m.ended in
    missing (not_empty fs len ends.shaped ends.last m.ended)
    (λ i lt. received_of buffer received fs i h.all (m.whole (8 * i) (omega arith)))

ends_below : (fs : List Fragment) (packet : List ℕ) → Each (λ g. IsPartOf g packet) fs → Each (λ g. end_of g ≤ length packet) fs
ends_below [] packet parts = tt
ends_below (f ∷ fs) packet parts = (parts.0.fits.inside, ends_below fs packet parts.1)

pub high_below : (len high : ℕ) (fs : List Fragment) (packet : List ℕ) → HasEnds len high fs → Each (λ g. IsPartOf g packet) fs → high ≤ length packet
high_below len high fs packet ends parts = ends.least (length packet) (ends_below fs packet parts)

pub len_of : (len high : ℕ) (fs : List Fragment) (packet : List ℕ) → HasEnds len high fs → Each (λ g. IsPartOf g packet) fs → len ≢ 0 → length packet ≡ len
len_of len high fs packet ends parts nz = length_of fs packet len parts ends.last (ends.ended nz)

past : (xs : List ℕ) (i : ℕ) → length xs ≤ i → get_or xs i 0 ≡ 0
past xs i h = grind (arith, common_steps)

either : (p n : ℕ) → (p < n) ⊎ (n ≤ p)
either p n = grind arith

-- a buffer of which nothing is received has no fragments
pub none_held : (buffer received : List ℕ) → ((i : ℕ) → i < length received → get_or received i 0 ≡ 0) → Holds buffer received []
none_held buffer received cleared = record {
  all = tt;
  only = λ i nz. elim (either i (length received)) [ inl lt ↦ nz (cleared i lt) | inr ge ↦ nz (past received i ge) ];
}

pub no_ends : HasEnds 0 0 []
no_ends = record { shaped = tt; below = tt; last = tt; ended = λ nz. nz refl; least = λ n h. omega arith; within = λ nz. omega arith }
