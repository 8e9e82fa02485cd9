-- When the fragments make a packet, and that they make no other.
use Rattle.std.proofs.Common.{◌≡◌, ◌≢◌, ℕ, ◌*◌, ◌/◌, ◌<◌, ◌≤◌, inl, inr, List, [], ◌∷◌, length, get_or, take, ◌∙◌, sym, subst, arith, refl, Bool, true, false, ◌%◌, length-take}
use Rattle.std.proofs.lemmas.List.{get_or-take}
use Rattle.app_fragment.specs.Fragments.{Fragment, end_of, Covers, HasBlock, Each, One, IsIn, Holds, FitsIn, IsPartOf, Make, Assembles}
use Rattle.app_fragment.proofs.EndSteps.{all_fit}

-- a fragment of a packet that has a block has each byte of it below the packet's end
pub covers_block : (f : Fragment) (len p : ℕ) → FitsIn f len → p < len → HasBlock f (p / 8) → Covers f p
covers_block f len p fits lt h = (omega arith, high f.more refl)
  where
    high : (b : Bool) → f.more ≡ b → p < end_of f
    high true e = let whole : length f.bytes % 8 ≡ 0 = fits.blocks e in omega arith
    high false e = let same : end_of f ≡ len = fits.last e in omega arith

pub covered : (fs : List Fragment) (len p : ℕ) → Each (λ f. FitsIn f len) fs → p < len → One (λ f. HasBlock f (p / 8)) fs → One (λ f. Covers f p) fs
covered [] len p fits lt h = h
covered (f ∷ fs) len p fits lt (inl h) = inl (covers_block f len p fits.0 lt h)
covered (f ∷ fs) len p fits lt (inr h) = inr (covered fs len p fits.1 lt h)

pub parts : (buffer received : List ℕ) (fs : List Fragment) (len : ℕ) → len ≤ length buffer → Each (λ f. FitsIn f len) fs → Each (IsIn buffer received) fs
    → Each (λ f. IsPartOf f (take len buffer)) fs
parts buffer received [] len room fits all = tt
parts buffer received (f ∷ fs) len room fits all = (part, parts buffer received fs len room fits.1 all.1)
  where
    long : length (take len buffer) ≡ len
    long = grind (arith, length-take {A = ℕ})

    part : IsPartOf f (take len buffer)
    part = record {
      fits = subst (λ n. FitsIn f n) (sym long) fits.0;
      same = λ p h. let inside : end_of f ≤ len = fits.0.inside in get_or-take len buffer p 0 (omega arith) ∙ all.0.same p h;
    }

-- what the buffer has up to the end of the last fragment, once all blocks before it are received, is the packet
pub make : (buffer received : List ℕ) (fs : List Fragment) (len : ℕ) → len ≤ length buffer → Holds buffer received fs → Each (λ f. FitsIn f len) fs
    → One (λ f. f.more ≡ false) fs → ((i : ℕ) → 8 * i < len → get_or received i 0 ≢ 0) → Make fs (take len buffer)
make buffer received fs len room h fits ended full = record {
  parts = parts buffer received fs len room fits h.all;
  ended = ended;
  whole = λ p lt. let long : length (take len buffer) ≡ len = grind (arith, length-take {A = ℕ}) in
      let low : p < len = omega arith in
      let block : 8 * (p / 8) < len = omega arith in
      covered fs len p fits low (h.only (p / 8) (full (p / 8) block));
}

pub complete_packet : (buffer received : List ℕ) (len high : ℕ) (fs : List Fragment) → len ≤ length buffer → Assembles buffer received (record { len = len; high = high }) fs
    → len ≢ 0 → ((i : ℕ) → 8 * i < len → get_or received i 0 ≢ 0) → Make fs (take len buffer)
complete_packet buffer received len high fs room h nz full =
    make buffer received fs len room h.holds (all_fit len high fs (h.reached.within nz) h.reached.shaped h.reached.below h.reached.last) (h.reached.ended nz) full
