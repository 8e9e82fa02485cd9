-- A buffer has one more fragment after a step.
use Rattle.std.proofs.Common.{◌≡◌, ◌≢◌, ℕ, ◌+◌, ◌-◌, ◌*◌, ◌/◌, ◌<◌, ◌≤◌, ◌⊎◌, inl, inr, List, [], ◌∷◌, length, get_or, take, drop, ◌∙◌, ap, sym, arith}
use Rattle.app_fragment.proofs.Ranges.{in_range}
use Rattle.app_fragment.specs.Fragments.{Covers, Each, Fragment, HasBlock, Holds, IsApart, IsIn, byte_at, end_of}

-- what `place` did
pub record Wrote (buffer received after marked : List ℕ) (f : Fragment) : Type 0 where
  pub fresh : (i : ℕ) → HasBlock f i → get_or received i 0 ≡ 0
  pub mark : (i : ℕ) → HasBlock f i → get_or marked i 0 ≡ 1
  pub before : (i : ℕ) → i < f.first → get_or marked i 0 ≡ get_or received i 0
  pub after_it : (i : ℕ) → end_of f ≤ 8 * i → get_or marked i 0 ≡ get_or received i 0
  pub here : (p : ℕ) → Covers f p → get_or after p 0 ≡ byte_at f p
  pub left : (p : ℕ) → p < 8 * f.first → get_or after p 0 ≡ get_or buffer p 0
  pub right : (p : ℕ) → end_of f ≤ p → get_or after p 0 ≡ get_or buffer p 0

-- a place is before the fragment, in it, or after it
pub three : (f : Fragment) (p : ℕ) → (p < 8 * f.first) ⊎ (Covers f p ⊎ (end_of f ≤ p))
three f p = grind arith

pub three_blocks : (f : Fragment) (i : ℕ) → (i < f.first) ⊎ (HasBlock f i ⊎ (end_of f ≤ 8 * i))
three_blocks f i = grind arith

pub block_of : (f : Fragment) (p : ℕ) → Covers f p → HasBlock f (p / 8)
block_of f p h = (omega arith, omega arith)

pub new_in : (buffer received after marked : List ℕ) (f : Fragment) → Wrote buffer received after marked f → IsIn after marked f
new_in buffer received after marked f w = record {
  blocks = λ i h z. let one : get_or marked i 0 ≡ 1 = w.mark i h in omega arith;
  same = w.here;
}

pub old_in : (buffer received after marked : List ℕ) (f g : Fragment) → Wrote buffer received after marked f → IsIn buffer received g → IsIn after marked g
old_in buffer received after marked f g w was = record {
  blocks = λ i h z. elim (three_blocks f i) [
    | inl lt ↦ was.blocks i h (sym (w.before i lt) ∙ z)
    | inr (inl in_f) ↦ was.blocks i h (w.fresh i in_f)
    | inr (inr ge) ↦ was.blocks i h (sym (w.after_it i ge) ∙ z)
  ];
  same = λ p h. elim (three f p) [
    | inl lt ↦ w.left p lt ∙ was.same p h
    | inr (inl in_f) ↦ absurd (was.blocks (p / 8) (block_of g p h) (w.fresh (p / 8) (block_of f p in_f)))
    | inr (inr ge) ↦ w.right p ge ∙ was.same p h
  ];
}

pub all_in : (buffer received after marked : List ℕ) (f : Fragment) (fs : List Fragment) → Wrote buffer received after marked f
    → Each (IsIn buffer received) fs → Each (IsIn after marked) fs
all_in buffer received after marked f [] w h = tt
all_in buffer received after marked f (g ∷ gs) w h = (old_in buffer received after marked f g w h.0, all_in buffer received after marked f gs w h.1)

pub step_new : (buffer received after marked : List ℕ) (f : Fragment) (fs : List Fragment) → Wrote buffer received after marked f
    → Holds buffer received fs → Holds after marked (f ∷ fs)
step_new buffer received after marked f fs w h = record {
  all = (new_in buffer received after marked f w, all_in buffer received after marked f fs w h.all);
  only = λ i nz. elim (three_blocks f i) [
    | inl lt ↦ inr (h.only i (λ z. nz (w.before i lt ∙ z)))
    | inr (inl in_f) ↦ inl in_f
    | inr (inr ge) ↦ inr (h.only i (λ z. nz (w.after_it i ge ∙ z)))
  ];
}

pub copy_in : (buffer received : List ℕ) (f : Fragment) → ((i : ℕ) → HasBlock f i → get_or received i 0 ≢ 0)
    → take (8 * f.first + length f.bytes - 8 * f.first) (drop (8 * f.first) buffer) ≡ f.bytes → IsIn buffer received f
copy_in buffer received f all same = record {
  blocks = all;
  same = λ p h.
      let high : p < 8 * f.first + (8 * f.first + length f.bytes - 8 * f.first) = omega arith in
      sym (in_range buffer (8 * f.first) (8 * f.first + length f.bytes - 8 * f.first) p h.0 high) ∙ ap (λ l. get_or l (p - 8 * f.first) 0) same;
}

pub step_copy : (buffer received : List ℕ) (f : Fragment) (fs : List Fragment) → IsIn buffer received f → Holds buffer received fs → Holds buffer received (f ∷ fs)
step_copy buffer received f fs is h = record { all = (is, h.all); only = λ i nz. inr (h.only i nz) }

-- a fragment of which no block was received is apart from those in the buffer
pub apart_each : (buffer received : List ℕ) (f : Fragment) (fs : List Fragment) → ((i : ℕ) → HasBlock f i → get_or received i 0 ≡ 0)
    → Each (IsIn buffer received) fs → Each (IsApart f) fs
apart_each buffer received f [] fresh is = tt
apart_each buffer received f (g ∷ gs) fresh is =
    (λ p in_f in_g. is.0.blocks (p / 8) (block_of g p in_g) (fresh (p / 8) (block_of f p in_f)), apart_each buffer received f gs fresh is.1)
