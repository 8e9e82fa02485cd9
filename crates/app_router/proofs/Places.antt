-- The numbers that order the nodes, and the prefixes of these numbers.
use Rattle.std.proofs.Common.{ℕ, ◌≡◌, ◌↔◌, ◌∙◌, ◌+◌, ◌-◌, ◌*◌, ◌/◌, ◌^◌, ◌<◌, ◌≤◌, inl, inr, sym, ap, ap₂, subst, arith, nat_cmp}
use Rattle.std.specs.Ordering.{ordering_then}
use Rattle.std.specs.declared.cmp.Ordering.{Ordering}
use Rattle.std.specs.declared.cmp.Ordering.TheVariants.{Less, Equal, Greater}
use Rattle.std.proofs.lemmas.Bool.{cases_order}
use Rattle.std.proofs.lemmas.Nat.{mul-add-lt, pow-add, pow_pos, same_from_place, shr-shr, shr_below}
use Rattle.std.proofs.Math.Nat.{div-mul-le_self, le-div_iff_mul-le, mul-add-div_right, mul_assoc}
use Rattle.app_router.specs.Index.{place, rank}
use Rattle.app_router.specs.declared.index.Node.{Node}

-- ---- orders

cmp_less : (a b : ℕ) → a < b → nat_cmp a b ≡ Less
cmp_less a b h = grind (arith, h)

cmp_equal : (a b : ℕ) → a ≡ b → nat_cmp a b ≡ Equal
cmp_equal a b h = grind (arith, h)

cmp_greater : (a b : ℕ) → b < a → nat_cmp a b ≡ Greater
cmp_greater a b h = grind (arith, h)

-- the order of numbers with a high and a low part
pub then_cmp : (m a b x y : ℕ) → x < m → y < m → ordering_then (nat_cmp a b) (nat_cmp x y) ≡ nat_cmp (a * m + x) (b * m + y)
then_cmp m a b x y x_fits y_fits = elim (cases_order a b) [
  | inl same ↦ elim (cases_order x y) [
    | inl low ↦ ap₂ ordering_then (cmp_equal a b same) (cmp_equal x y low) ∙ sym (cmp_equal (a * m + x) (b * m + y) (ap₂ (λ a x. a * m + x) same low))
    | inr (inl low) ↦ ap₂ ordering_then (cmp_equal a b same) (cmp_less x y low)
        ∙ sym (cmp_less (a * m + x) (b * m + y) (let e : a * m ≡ b * m = ap (λ a. a * m) same in omega (arith, e, low)))
    | inr (inr low) ↦ ap₂ ordering_then (cmp_equal a b same) (cmp_greater x y low)
        ∙ sym (cmp_greater (a * m + x) (b * m + y) (let e : a * m ≡ b * m = ap (λ a. a * m) same in omega (arith, e, low)))
  ]
  | inr (inl high) ↦ ap (λ o. ordering_then o (nat_cmp x y)) (cmp_less a b high)
      ∙ sym (cmp_less (a * m + x) (b * m + y) (omega (arith, mul-add-lt a m x b high x_fits)))
  | inr (inr high) ↦ ap (λ o. ordering_then o (nat_cmp x y)) (cmp_greater a b high)
      ∙ sym (cmp_greater (a * m + x) (b * m + y) (omega (arith, mul-add-lt b m y a high y_fits)))
]

-- the order of numbers that are counted from the other end
pub turned_cmp : (m a b : ℕ) → a < m → b < m → nat_cmp b a ≡ nat_cmp (m - 1 - a) (m - 1 - b)
turned_cmp m a b a_fits b_fits = elim (cases_order a b) [
  | inl same ↦ cmp_equal b a (sym same) ∙ sym (cmp_equal (m - 1 - a) (m - 1 - b) (ap (λ a. m - 1 - a) same))
  | inr (inl less) ↦ cmp_greater b a less ∙ sym (cmp_greater (m - 1 - a) (m - 1 - b) (omega (arith, less, a_fits, b_fits)))
  | inr (inr more) ↦ cmp_less b a more ∙ sym (cmp_less (m - 1 - a) (m - 1 - b) (omega (arith, more, a_fits, b_fits)))
]

-- ---- prefixes

-- the first bits of a number with a high part
pub prefix_of : (n s v x : ℕ) → (v * 2 ^ (n + s) + x) / 2 ^ s ≡ v * 2 ^ n + x / 2 ^ s
prefix_of n s v x =
    let e : v * 2 ^ (n + s) ≡ v * 2 ^ n * 2 ^ s = ap (λ p. v * p) (pow-add 2 n s) ∙ sym (mul_assoc v (2 ^ n) (2 ^ s)) in
    ap (λ high. (high + x) / 2 ^ s) e ∙ mul-add-div_right (pow_pos s) (v * 2 ^ n) x

-- two numbers have the same prefix exactly if their high parts are the same, and the prefixes of their low parts
pub same_prefix : (n s v w x y : ℕ) → x < 2 ^ (n + s) → y < 2 ^ (n + s)
    → ((v ≡ w) × (x / 2 ^ s ≡ y / 2 ^ s)) ↔ ((v * 2 ^ (n + s) + x) / 2 ^ s ≡ (w * 2 ^ (n + s) + y) / 2 ^ s)
same_prefix n s v w x y x_fits y_fits = (
  λ (high, low). prefix_of n s v x ∙ ap₂ (λ v x. v * 2 ^ n + x) high low ∙ sym (prefix_of n s w y),
  λ same. same_from_place v (x / 2 ^ s) w (y / 2 ^ s) (2 ^ n) (shr_below x n s x_fits) (shr_below y n s y_fits)
      (sym (prefix_of n s v x) ∙ same ∙ prefix_of n s w y),
)

-- the first 64 bits of a number of 128, or fewer
pub first_word : (n h l : ℕ) → n ≤ 64 → l < 2 ^ 64 → (h * 2 ^ 64 + l) / 2 ^ (128 - n) ≡ h / 2 ^ (64 - n)
first_word n h l few l_fits =
    let e : 128 - n ≡ 64 + (64 - n) = omega (arith, few) in
    let high : (h * 2 ^ 64 + l) / 2 ^ 64 ≡ h = omega (arith, l_fits) in
    ap (λ s. (h * 2 ^ 64 + l) / 2 ^ s) e ∙ sym (shr-shr (h * 2 ^ 64 + l) 64 (64 - n)) ∙ ap (λ v. v / 2 ^ (64 - n)) high

-- numbers of 128 bits have the same prefix of more than 64 exactly if they have the same first word and the rest is the same in the second
pub both_words : (n h k l m : ℕ) → 64 < n → l < 2 ^ 64 → m < 2 ^ 64
    → ((h ≡ k) × (l / 2 ^ (128 - n) ≡ m / 2 ^ (128 - n))) ↔ ((h * 2 ^ 64 + l) / 2 ^ (128 - n) ≡ (k * 2 ^ 64 + m) / 2 ^ (128 - n))
both_words n h k l m many l_fits m_fits =
    let s = 128 - n in
    let e : 64 - s + s ≡ 64 = omega (arith, many) in
    let P : ℕ → Type 0 = λ w. l < 2 ^ w → m < 2 ^ w → ((h ≡ k) × (l / 2 ^ s ≡ m / 2 ^ s)) ↔ ((h * 2 ^ w + l) / 2 ^ s ≡ (k * 2 ^ w + m) / 2 ^ s) in
    subst P e (same_prefix (64 - s) s h k l m) l_fits m_fits

-- a number between two with one prefix has it too
pub between : (d x y z : ℕ) → 0 < d → x ≤ y → y ≤ z → x / d ≡ z / d → y / d ≡ x / d
between d x y z pos low high same =
    let up : x / d ≤ y / d = (le-div_iff_mul-le pos).1 (omega (arith, div-mul-le_self x d, low)) in
    let down : y / d ≤ z / d = (le-div_iff_mul-le pos).1 (omega (arith, div-mul-le_self y d, high)) in
    omega (arith, up, down, same)

-- numbers with one prefix have one shorter prefix
pub shorter_prefix : (s t x y : ℕ) → s ≤ t → x / 2 ^ s ≡ y / 2 ^ s → x / 2 ^ t ≡ y / 2 ^ t
shorter_prefix s t x y le same =
    let e : t ≡ s + (t - s) = omega (arith, le) in
    ap (λ t. x / 2 ^ t) e ∙ sym (shr-shr x s (t - s)) ∙ ap (λ v. v / 2 ^ (t - s)) same ∙ shr-shr y s (t - s) ∙ ap (λ t. y / 2 ^ t) (sym e)

-- blocks of one version share a prefix exactly if their places do
pub same_block : (n : ℕ) (a b : Node) (x y : ℕ) → x ≡ a.high * 2 ^ 64 + a.low → y ≡ b.high * 2 ^ 64 + b.low → x < 2 ^ 128 → y < 2 ^ 128
    → ((a.version ≡ b.version) × (x / 2 ^ (128 - n) ≡ y / 2 ^ (128 - n))) ↔ (place a / 2 ^ (128 - n) ≡ place b / 2 ^ (128 - n))
same_block n a b x y x_is y_is x_fits y_fits =
    let s = 128 - n in
    let e : 128 - s + s ≡ 128 = omega arith in
    let P : ℕ → Type 0 = λ k. x < 2 ^ k → y < 2 ^ k
    → ((a.version ≡ b.version) × (x / 2 ^ s ≡ y / 2 ^ s)) ↔ ((a.version * 2 ^ k + x) / 2 ^ s ≡ (b.version * 2 ^ k + y) / 2 ^ s) in
    let Q : ℕ → ℕ → Type 0 = λ x y. ((a.version ≡ b.version) × (x / 2 ^ s ≡ y / 2 ^ s))
    ↔ ((a.version * 2 ^ 128 + x) / 2 ^ s ≡ (b.version * 2 ^ 128 + y) / 2 ^ s) in
    let whole : Q x y = subst P e (same_prefix (128 - s) s a.version b.version x y) x_fits y_fits in (
      λ both. ap (λ x. (a.version * 2 ^ 128 + x) / 2 ^ s) (sym x_is) ∙ whole.0 both ∙ ap (λ y. (b.version * 2 ^ 128 + y) / 2 ^ s) y_is,
      λ same. whole.1 (ap (λ x. (a.version * 2 ^ 128 + x) / 2 ^ s) x_is ∙ same ∙ ap (λ y. (b.version * 2 ^ 128 + y) / 2 ^ s) (sym y_is)),
    )

-- the order of the nodes
pub rank_cmp : (a b : Node) → a.high < 2 ^ 64 → b.high < 2 ^ 64 → a.low < 2 ^ 64 → b.low < 2 ^ 64
    → a.prefix_len < 2 ^ 8 → b.prefix_len < 2 ^ 8 → a.route < 2 ^ 32 → b.route < 2 ^ 32
    → ordering_then (nat_cmp a.version b.version) (ordering_then (nat_cmp a.high b.high) (ordering_then (nat_cmp a.low b.low)
    (ordering_then (nat_cmp a.prefix_len b.prefix_len) (nat_cmp b.route a.route)))) ≡ nat_cmp (rank a) (rank b)
rank_cmp a b a_high b_high a_low b_low a_len b_len a_route b_route =
    let rest : Node → ℕ = λ n. 2 ^ 32 - 1 - n.route in
    let by_len : Node → ℕ = λ n. n.prefix_len * 2 ^ 32 + rest n in
    let by_low : Node → ℕ = λ n. n.low * 2 ^ 40 + by_len n in
    let by_high : Node → ℕ = λ n. n.high * 2 ^ 104 + by_low n in
    let whole : (n : Node) → n.version * 2 ^ 168 + by_high n ≡ rank n = λ n. omega arith in
    ap (λ o. ordering_then (nat_cmp a.version b.version) (ordering_then (nat_cmp a.high b.high) (ordering_then (nat_cmp a.low b.low)
    (ordering_then (nat_cmp a.prefix_len b.prefix_len) o)))) (turned_cmp (2 ^ 32) a.route b.route a_route b_route)
    ∙ ap (λ o. ordering_then (nat_cmp a.version b.version) (ordering_then (nat_cmp a.high b.high) (ordering_then (nat_cmp a.low b.low) o)))
    (then_cmp (2 ^ 32) a.prefix_len b.prefix_len (rest a) (rest b) (omega arith) (omega arith))
    ∙ ap (λ o. ordering_then (nat_cmp a.version b.version) (ordering_then (nat_cmp a.high b.high) o))
    (then_cmp (2 ^ 40) a.low b.low (by_len a) (by_len b) (omega (arith, a_len)) (omega (arith, b_len)))
    ∙ ap (λ o. ordering_then (nat_cmp a.version b.version) o)
    (then_cmp (2 ^ 104) a.high b.high (by_low a) (by_low b) (omega (arith, a_low, a_len)) (omega (arith, b_low, b_len)))
    ∙ then_cmp (2 ^ 168) a.version b.version (by_high a) (by_high b) (omega (arith, a_high, a_low, a_len)) (omega (arith, b_high, b_low, b_len))
    ∙ ap₂ nat_cmp (whole a) (whole b)

-- numbers that differ decide an order, and equal ones leave it to the next
pub ahead : (a b : ℕ) (next : Ordering) → ¬ (a ≡ b) → nat_cmp a b ≡ ordering_then (nat_cmp a b) next
ahead a b next differ = elim (cases_order a b) [
  | inl same ↦ absurd (differ same)
  | inr (inl less) ↦ cmp_less a b less ∙ sym (ap (λ o. ordering_then o next) (cmp_less a b less))
  | inr (inr more) ↦ cmp_greater a b more ∙ sym (ap (λ o. ordering_then o next) (cmp_greater a b more))
]

pub level : (a b : ℕ) (next : Ordering) → a ≡ b → next ≡ ordering_then (nat_cmp a b) next
level a b next same = sym (ap (λ o. ordering_then o next) (cmp_equal a b same))

-- nodes in order have their places in order
pub place_from_rank : (a b : Node) → a.prefix_len < 2 ^ 8 → b.prefix_len < 2 ^ 8 → rank a ≤ rank b → place a ≤ place b
place_from_rank a b a_len b_len le = omega (arith, a_len, b_len, le)
