-- The ends of fragments with one more.
use Rattle.std.proofs.Common.{zero, suc, ◌≡◌, ◌≢◌, ℕ, ◌<◌, ◌≤◌, inl, inr, List, [], ◌∷◌, length, ◌∙◌, sym, subst, arith, refl, Bool, true, false, max}
use Rattle.app_fragment.specs.Fragments.{Fragment, end_of, Each, FitsIn, IsShaped, HasEnds, EndFits}

pub weaken : (P Q : Fragment → Type 0) (fs : List Fragment) → ((f : Fragment) → P f → Q f) → Each P fs → Each Q fs
weaken P Q [] w h = tt
weaken P Q (f ∷ fs) w h = (w f h.0, weaken P Q fs w h.1)

both : (P Q : Fragment → Type 0) (fs : List Fragment) → Each P fs → Each Q fs → Each (λ f. P f × Q f) fs
both P Q [] h k = tt
both P Q (f ∷ fs) h k = ((h.0, k.0), both P Q fs h.1 k.1)

pub ends_more : (len high : ℕ) (f : Fragment) (fs : List Fragment) → f.more ≡ true → IsShaped f → EndFits len high f → HasEnds len high fs
    → HasEnds len (max high (end_of f)) (f ∷ fs)
ends_more len high f fs more shape fits h = record {
  shaped = (shape, h.shaped);
  below = (omega arith, weaken (λ g. end_of g ≤ high) (λ g. end_of g ≤ max high (end_of f)) fs (λ g k. omega arith) h.below);
  last = (λ e. cc, h.last);
  ended = λ nz. inr (h.ended nz);
  least = λ n k. let a : high ≤ n = h.least n k.1 in let b : end_of f ≤ n = k.0 in omega arith;
  within = λ nz. let a : high ≤ len = h.within nz in let b : end_of f ≤ len = fits.inner more nz in omega arith;
}

old_last : (len high : ℕ) (f g : Fragment) → f.more ≡ false → EndFits len high f → IsShaped g → (g.more ≡ false → end_of g ≡ len) → g.more ≡ false → end_of g ≡ end_of f
old_last len high f g last fits shape was e = by_len len refl
  where
    by_len : (n : ℕ) → len ≡ n → end_of g ≡ end_of f
    by_len zero z = let full : 0 < length g.bytes = shape.filled in let at : end_of g ≡ len = was e in absurd (omega arith)
    by_len (suc n) s = let nz : len ≢ 0 = λ z. omega arith in was e ∙ sym (fits.same last nz)

pub ends_last : (len high : ℕ) (f : Fragment) (fs : List Fragment) → f.more ≡ false → IsShaped f → EndFits len high f → HasEnds len high fs
    → HasEnds (end_of f) (max high (end_of f)) (f ∷ fs)
ends_last len high f fs last shape fits h = record {
  shaped = (shape, h.shaped);
  below = (omega arith, weaken (λ g. end_of g ≤ high) (λ g. end_of g ≤ max high (end_of f)) fs (λ g k. omega arith) h.below);
  last = (
    λ e. refl,
    weaken (λ g. IsShaped g × (g.more ≡ false → end_of g ≡ len)) (λ g. g.more ≡ false → end_of g ≡ end_of f) fs
        (λ g k. old_last len high f g last fits k.0 k.1) (both IsShaped (λ g. g.more ≡ false → end_of g ≡ len) fs h.shaped h.last),
  );
  ended = λ nz. inl last;
  least = λ n k. let a : high ≤ n = h.least n k.1 in let b : end_of f ≤ n = k.0 in omega arith;
  within = λ nz. let a : high ≤ end_of f = fits.above last in omega arith;
}

-- all fragments fit in a packet that ends where the last one does
pub all_fit : (len high : ℕ) (gs : List Fragment) → high ≤ len → Each IsShaped gs → Each (λ f. end_of f ≤ high) gs → Each (λ f. f.more ≡ false → end_of f ≡ len) gs
    → Each (λ f. FitsIn f len) gs
all_fit len high [] le s b l = tt
all_fit len high (g ∷ gs) le s b l = (record { inside = omega (arith, b.0); last = l.0; blocks = s.0.blocks }, all_fit len high gs le s.1 b.1 l.1)

pub step_ends : (len high : ℕ) (f : Fragment) (fs : List Fragment) (n : ℕ) → (f.more ≡ true → n ≡ len) → (f.more ≡ false → n ≡ end_of f)
    → IsShaped f → EndFits len high f → HasEnds len high fs → HasEnds n (max high (end_of f)) (f ∷ fs)
step_ends len high f fs n m l shape fits h = by_more f.more refl
  where
    by_more : (b : Bool) → f.more ≡ b → HasEnds n (max high (end_of f)) (f ∷ fs)
    by_more true e = subst (λ k. HasEnds k (max high (end_of f)) (f ∷ fs)) (sym (m e)) (ends_more len high f fs e shape fits h)
    by_more false e = subst (λ k. HasEnds k (max high (end_of f)) (f ∷ fs)) (sym (l e)) (ends_last len high f fs e shape fits h)
