-- Fragments that make no packet.
use Rattle.std.proofs.Common.{ℕ, ◌≡◌, ◌≤◌, ◌%◌, inl, inr, true, false, List, [], ◌∷◌, get_or, length, refl, arith}
use Rattle.app_fragment.specs.Fragments.{Agree, Cut, IsPartOf, Make, fragment}

-- 8 bytes
eight : ℕ → List ℕ
eight x = x ∷ x ∷ x ∷ x ∷ x ∷ x ∷ x ∷ x ∷ []

-- the lengths add up to that of the packet, but one fragment is past its end
leak : (packet : List ℕ) → ¬ (Make (fragment 0 true (eight 1) ∷ fragment 3 true (eight 2) ∷ fragment 2 false (eight 3) ∷ []) packet)
unfolding eight
leak packet m =
    let past : 32 ≤ length packet = m.parts.1.0.fits.inside in
    let end : 24 ≡ length packet = m.parts.1.1.0.fits.last refl in
    omega arith

-- the last one is missing
no_last : (packet : List ℕ) → ¬ (Make (fragment 0 true (eight 1) ∷ fragment 1 true (eight 2) ∷ []) packet)
no_last packet m = elim m.ended [ inl e ↦ absurd (cc) | inr rest ↦ elim rest [ inl e ↦ absurd (cc) | inr none ↦ none ] ]

-- the second block is missing
hole : (packet : List ℕ) → ¬ (Make (fragment 0 true (eight 1) ∷ fragment 2 false (eight 2) ∷ []) packet)
unfolding eight
hole packet m =
    let end : 24 ≡ length packet = m.parts.1.0.fits.last refl in
    elim (m.whole 8 (omega arith)) [ inl first ↦ omega (arith, first.1) | inr rest ↦ elim rest [ inl second ↦ omega (arith, second.0) | inr none ↦ none ] ]

-- two last ones that end elsewhere
two_ends : (packet : List ℕ) → ¬ (Make (fragment 0 false (eight 1) ∷ fragment 0 false (1 ∷ []) ∷ []) packet)
unfolding eight
two_ends packet m =
    let one : 8 ≡ length packet = m.parts.0.fits.last refl in
    let other : 1 ≡ length packet = m.parts.1.0.fits.last refl in
    omega arith

-- two values of one byte
two_values : (packet : List ℕ) → ¬ (Make (fragment 0 false (1 ∷ []) ∷ fragment 0 false (2 ∷ []) ∷ []) packet)
two_values packet m =
    let one : get_or packet 0 0 ≡ 1 = m.parts.0.same 0 (omega arith, omega arith) in
    let other : get_or packet 0 0 ≡ 2 = m.parts.1.0.same 0 (omega arith, omega arith) in
    omega arith

-- a fragment with more after it that ends within a block
half_block : (packet : List ℕ) → ¬ (IsPartOf (fragment 0 true (1 ∷ [])) packet)
half_block packet part = let even : 1 % 8 ≡ 0 = part.fits.blocks refl in omega (arith, even)

-- a fragment does not agree with a last one that ends before it does
after_last : ¬ (Agree (fragment 1 true (eight 1)) (fragment 1 false (1 ∷ []) ∷ []))
unfolding eight
after_last (packet, part, others, apart) =
    let past : 16 ≤ length packet = part.fits.inside in
    let end : 9 ≡ length packet = others.0.fits.last refl in
    omega arith

-- fragments that leave a hole cut no packet
cut_hole : (packet : List ℕ) → ¬ (Cut packet 0 (fragment 0 true (eight 1) ∷ fragment 2 false (eight 2) ∷ []))
unfolding eight
cut_hole packet c = let next : 16 ≡ 8 = c.3.0 in omega (arith, next)
