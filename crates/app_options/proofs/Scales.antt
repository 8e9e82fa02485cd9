-- What a shift count means, and windows that are told with one.
use Rattle.std.proofs.Common.{◌≡◌, ℕ, zero, suc, ◌+◌, ◌*◌, ◌/◌, ◌^◌, ◌<◌, ◌≤◌, Option, None, Some, is_some, option_map, unwrap_or, if◌then◌else◌, min, true, refl, arith}
use mathlib.Core.Logic.{inl, inr}
use Rattle.std.proofs.lemmas.Bool.{cases_lt}
use Rattle.std.proofs.lemmas.Nat.{div_below, mod_below, mul-le, pow-add, pow_pos, shr_split}
use Rattle.std.proofs.Math.Nat.{le_refl, pow-suc}
use Rattle.app_options.specs.Windows.{IsScale, field_of, halvings, scale_of, window_of}

-- A size of 16 bits is not halved, and a larger one is.
pub small : (n size : ℕ) → size < 65536 → halvings n size ≡ 0
unfolding halvings
small zero size h = refl
small (suc n) size h = grind arith

pub large : (n size : ℕ) → 65536 ≤ size → halvings (suc n) size ≡ 1 + halvings n (size / 2)
unfolding halvings
large n size h = grind arith

-- a bound holds with a scale more, for twice the size
twice : (scale size : ℕ) → size / 2 < 65536 * 2 ^ scale → size < 65536 * 2 ^ (1 + scale)
twice scale size h = omega (arith, pow-add 2 1 scale)

half : (scale size : ℕ) → 65536 * 2 ^ scale ≤ size / 2 → 65536 * 2 ^ suc scale ≤ size
half scale size h = omega (arith, pow-suc 2 scale)

most : (n size : ℕ) → halvings n size ≤ n
unfolding halvings
most zero size = omega arith
most (suc n) size = let ih : halvings n (size / 2) ≤ n = most n (size / 2) in grind arith

enough : (n size : ℕ) → halvings n size < n → size < 65536 * 2 ^ halvings n size
enough zero size h = absurd (omega arith)
enough (suc n) size h = elim (cases_lt size 65536) [
  | inl lt ↦ rw (small (suc n) size lt) (omega arith)
  | inr ge ↦
      let less : halvings n (size / 2) < n = omega (arith, large n size ge) in
      rw (large n size ge) (twice (halvings n (size / 2)) size (enough n (size / 2) less))
]

least : (n size smaller : ℕ) → smaller < halvings n size → 65536 * 2 ^ smaller ≤ size
unfolding halvings
least zero size smaller h = absurd (omega arith)
least (suc n) size zero h = grind arith
least (suc n) size (suc smaller) h = elim (cases_lt size 65536) [
  | inl lt ↦ absurd (omega (arith, small (suc n) size lt))
  | inr ge ↦
      let less : smaller < halvings n (size / 2) = omega (arith, large n size ge) in
      half smaller size (least n (size / 2) smaller less)
]

pub is_scale : (size : ℕ) → IsScale size (scale_of size)
unfolding scale_of
is_scale size = record { most = most 14 size; enough = enough 14 size; least = least 14 size }

-- What is told is at most the window.
told_at_most : (scale window : ℕ) → scale ≤ 14 → window_of (min 14 scale) (field_of scale window) ≤ window
told_at_most scale window h =
    let small : min 14 scale ≡ scale = omega arith in
    let part : min 65535 (min 65535 (window / 2 ^ scale)) * 2 ^ scale ≤ window / 2 ^ scale * 2 ^ scale =
    mul-le _ _ _ _ (omega arith) (le_refl (2 ^ scale)) in
    rw small (omega (arith, part, shr_split window scale))

-- less than a unit is lost
told_near : (scale window : ℕ) → scale ≤ 14 → window < 65536 * 2 ^ scale →
    window < window_of (min 14 scale) (field_of scale window) + 2 ^ scale
told_near scale window h g =
    let small : min 14 scale ≡ scale = omega arith in
    let field : window / 2 ^ scale < 65536 = div_below window (2 ^ scale) 65536 (pow_pos scale) g in
    let same : min 65535 (min 65535 (window / 2 ^ scale)) ≡ window / 2 ^ scale = omega arith in
    rw (small, same) (omega (arith, shr_split window scale, mod_below window (2 ^ scale) (pow_pos scale)))

-- each window of a ring can be told
pub tells : (size window : ℕ) → window ≤ size → size < 2 ^ 30 → window < 65536 * 2 ^ scale_of size
tells size window h g =
    let s : IsScale size (scale_of size) = is_scale size in
    elim (cases_lt (scale_of size) 14) [
      | inl lt ↦ omega (arith, s.enough lt)
      | inr ge ↦ let last : scale_of size ≡ 14 = omega (arith, s.most) in rw last (omega arith)
    ]

pub at_most : (own peer : Option ℕ) (size window : ℕ) → peer ≡ option_map (λ _. scale_of size) own →
    window_of (min 14 (unwrap_or peer 0)) (field_of (if is_some own then scale_of size else 0) window) ≤ window
at_most None peer size window e = rw e (told_at_most 0 window (omega arith))
at_most (Some _) peer size window e = rw e (told_at_most (scale_of size) window (is_scale size).most)

pub near : (own peer : Option ℕ) (size window : ℕ) → peer ≡ option_map (λ _. scale_of size) own → is_some own ≡ true →
    window ≤ size → size < 2 ^ 30 →
    let field : ℕ = field_of (if is_some own then scale_of size else 0) window in
    window < window_of (min 14 (unwrap_or peer 0)) field + 2 ^ scale_of size
near None peer size window e scaled h g = cc
near (Some _) peer size window e scaled h g =
    rw e (told_near (scale_of size) window (is_scale size).most (tells size window h g))
