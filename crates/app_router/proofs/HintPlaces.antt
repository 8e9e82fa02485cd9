-- The places in the hints of the nodes of one version.
use Rattle.std.proofs.Common.{ℕ, zero, suc, ◌≡◌, ◌≢◌, ◌∙◌, ◌⊎◌, ◌+◌, ◌-◌, ◌*◌, ◌%◌, ◌^◌, ◌<◌, ◌≤◌, nat_lt, Bool, true, false, if◌then◌else◌, List, inl, inr, bit_and, get_or, length, max, min, mul-le-mul_right, set, sym, ap, subst, arith, get_or-set_other, get_or-set_same}
use Rattle.std.proofs.Math.ListN.{get_or-map}
use Rattle.std.proofs.lemmas.Bool.{cases_lt}
use Rattle.std.proofs.lemmas.Bool.Decides.{nat_tests}
use Rattle.std.proofs.lemmas.Grind.{common_steps}
use Rattle.app_router.proofs.Links.{AreUnmarkedAlike, alike_length, unmarked_alike}
use Rattle.app_router.specs.Hints.{IsBegin, IsUnhinted, high_at, hint_at, part_at, part_count, part_of, place_in}
use Rattle.app_router.specs.Index.{node_at, node_with, unmarked}
use Rattle.app_router.specs.declared.index.Node.{Node}

-- ---- nodes that are the same but for their hints

pub same_len : (xs ys : List Node) → AreUnmarkedAlike xs ys → length xs ≡ length ys
same_len xs ys same = alike_length xs ys (unmarked_alike xs ys same)

pub same_high : (xs ys : List Node) (k : ℕ) → AreUnmarkedAlike xs ys → high_at xs k ≡ high_at ys k
same_high xs ys k same =
    let d = node_with 0 0 0 0 in
    let at : unmarked (node_at xs k) ≡ unmarked (node_at ys k) =
    sym (get_or-map unmarked xs k d) ∙ ap (λ l. get_or l k (unmarked d)) same ∙ get_or-map unmarked ys k d in
    ap (λ (n : Node). n.high) at

pub same_version : (xs ys : List Node) (k : ℕ) → AreUnmarkedAlike xs ys → (node_at xs k).version ≡ (node_at ys k).version
same_version xs ys k same =
    let d = node_with 0 0 0 0 in
    let at : unmarked (node_at xs k) ≡ unmarked (node_at ys k) =
    sym (get_or-map unmarked xs k d) ∙ ap (λ l. get_or l k (unmarked d)) same ∙ get_or-map unmarked ys k d in
    ap (λ (n : Node). n.version) at

pub same_part : (xs ys : List Node) (k : ℕ) → AreUnmarkedAlike xs ys → part_at xs k ≡ part_at ys k
same_part xs ys k same =
    ap (λ (n : ℕ). part_of (part_count n) (high_at xs k)) (same_len xs ys same) ∙ ap (part_of (part_count (length ys))) (same_high xs ys k same)

-- another hint
pub hint_set : (xs : List Node) (i hint : ℕ) (node : Node) → i < length xs → hint_at (set xs i (record node { hint = hint })) i ≡ hint
hint_set xs i hint node within = ap (λ (n : Node). n.hint) (get_or-set_same xs i (record node { hint = hint }) (node_with 0 0 0 0) within)

pub hint_other : (xs : List Node) (i k : ℕ) (new : Node) → k ≢ i → hint_at (set xs i new) k ≡ hint_at xs k
hint_other xs i k new apart = ap (λ (n : Node). n.hint) (get_or-set_other xs i k new (node_with 0 0 0 0) apart)

-- ---- the parts of nodes in order

part_ordered : (xs : List Node) (i j : ℕ) → IsUnhinted xs → i ≤ j → j < length xs → part_at xs i ≤ part_at xs j
part_ordered xs i j u le below =
    let highs = u.ordered i j le below in
    let scaled : high_at xs i * part_count (length xs) ≤ high_at xs j * part_count (length xs) = mul-le-mul_right (part_count (length xs)) highs in
    omega (arith, scaled)

pub begin_alike : (xs ys : List Node) (p k : ℕ) → AreUnmarkedAlike xs ys → IsBegin xs p k → IsBegin ys p k
begin_alike xs ys p k same b =
    let len = same_len xs ys same in
    let within = b.within in
    record {
      within = omega (arith, within, len);
      before = λ i less below. subst (λ (n : ℕ). n < p) (same_part xs ys i same) (b.before i less (omega (arith, below, len)));
      others = λ i le below. subst (λ (n : ℕ). p ≤ n) (same_part xs ys i same) (b.others i le (omega (arith, below, len)));
    }

-- ---- the last node of each part

-- of the first n nodes, the last one of this part is before index h; 0 if there is none
pub record IsLast (nodes : List Node) (p n h : ℕ) : Type 0 where
  pub few : h ≤ n
  pub all : (k : ℕ) → k < n → part_at nodes k ≡ p → k < h
  pub is : 0 < h → part_at nodes (h - 1) ≡ p

-- each hint of a part tells its last node of the first n
abbrev pub AreLast : List Node → ℕ → Type 0
AreLast nodes n = (p : ℕ) → p < part_count (length nodes) → IsLast nodes p n (hint_at nodes (p + 1))

pub last_alike : (xs ys : List Node) (p n h : ℕ) → AreUnmarkedAlike xs ys → IsLast xs p n h → IsLast ys p n h
last_alike xs ys p n h same l = record {
  few = l.few;
  all = λ k less is. l.all k less (same_part xs ys k same ∙ is);
  is = λ some. sym (same_part xs ys (h - 1) same) ∙ l.is some;
}

pub last_none : (nodes : List Node) → IsUnhinted nodes → AreLast nodes 0
last_none nodes u p within =
    let zero : hint_at nodes (p + 1) ≡ 0 = u.none (p + 1) (omega (arith, within)) in
    record {
      few = omega (arith, zero);
      all = λ k less. absurd (omega (arith, less));
      is = λ some. absurd (omega (arith, some, zero));
    }

-- one node more
pub last_more : (xs ys : List Node) (i : ℕ) → AreUnmarkedAlike xs ys → i < length xs → AreLast xs i → hint_at ys (part_at xs i + 1) ≡ i + 1
    → ((k : ℕ) → k ≢ part_at xs i + 1 → hint_at ys k ≡ hint_at xs k) → AreLast ys (i + 1)
last_more xs ys i same below last set others p within =
    let len = same_len xs ys same in
    let q = part_at xs i in
    let old = last p (subst (λ (n : ℕ). p < part_count n) (sym len) within) in
    elim (equal_or p q) [
      | inl is ↦
          let hint : hint_at ys (p + 1) ≡ i + 1 = ap (λ (n : ℕ). hint_at ys (n + 1)) is ∙ set in
          subst (IsLast ys p (i + 1)) (sym hint) (record {
            few = omega arith;
            all = λ k less at. less;
            is = λ some. subst (λ (n : ℕ). part_at ys n ≡ p) (index i) (sym (same_part xs ys i same) ∙ sym is);
          })
      | inr apart ↦
          let hint : hint_at ys (p + 1) ≡ hint_at xs (p + 1) = others (p + 1) (λ e. apart (omega (arith, e))) in
          let few = old.few in
          subst (IsLast ys p (i + 1)) (sym hint) (record {
            few = omega (arith, few);
            all = λ k less at. elim (cases_lt k i) [
              | inl earlier ↦ old.all k earlier (same_part xs ys k same ∙ at)
              | inr later ↦
                  let here : k ≡ i = omega (arith, less, later) in
                  absurd (apart (sym (same_part xs ys k same ∙ at) ∙ ap (part_at xs) here))
            ];
            is = λ some. sym (same_part xs ys (hint_at xs (p + 1) - 1) same) ∙ old.is some;
          })
    ]
  where
    index : (i : ℕ) → i ≡ i + 1 - 1
    index i = omega arith

    equal_or : (a c : ℕ) → (a ≡ c) ⊎ (a ≢ c)
    equal_or a c = elim (cases_lt a c) [
      | inl less ↦ inr (λ e. omega (arith, e, less))
      | inr le ↦ elim (cases_lt c a) [ inl more ↦ inr (λ e. omega (arith, e, more)) | inr ge ↦ inl (omega (arith, le, ge)) ]
    ]

-- where the next part begins
pub begin_more : (xs ys : List Node) (p low h m : ℕ) → IsUnhinted xs → AreUnmarkedAlike xs ys → IsBegin ys p low → IsLast ys p (length ys) h
    → ((m ≡ h) × (low ≤ h)) ⊎ ((m ≡ low) × (h ≤ low)) → IsBegin ys (p + 1) m
begin_more xs ys p low h m u same b l (inl (is, le)) = subst (IsBegin ys (p + 1)) (sym is) (at-hint h le l)
  where
    before-suc : (h : ℕ) → suc h - 1 ≡ h
    before-suc h = omega arith

    at-hint : (h : ℕ) → low ≤ h → IsLast ys p (length ys) h → IsBegin ys (p + 1) h
    at-hint zero le l = record {
      within = omega arith;
      before = λ i less. absurd (omega (arith, less));
      others = λ i from below. let p_at = b.others i (omega (arith, le)) below in elim (cases_lt p (part_at ys i)) [
        | inl more ↦ omega (arith, more)
        | inr other ↦ absurd (let none = l.all i below (omega (arith, p_at, other)) in omega (arith, none))
      ];
    }
    at-hint (suc h) le l = record {
      within = l.few;
      before = λ i less below.
          let few = l.few in
          let len = same_len xs ys same in
          let order = part_ordered xs i h u (omega (arith, less)) (omega (arith, few, len)) in
          let last : part_at ys h ≡ p = subst (λ (n : ℕ). part_at ys n ≡ p) (before-suc h) (l.is (omega arith)) in
          let one = same_part xs ys i same in
          let two = same_part xs ys h same in
          omega (arith, order, last, one, two);
      others = λ i from below. let p_at = b.others i (omega (arith, le, from)) below in elim (cases_lt p (part_at ys i)) [
        | inl more ↦ omega (arith, more)
        | inr other ↦ absurd (let before = l.all i below (omega (arith, p_at, other)) in omega (arith, before, from))
      ];
    }
begin_more xs ys p low h m u same b l (inr (is, le)) = subst (IsBegin ys (p + 1)) (sym is) (record {
  within = b.within;
  before = λ i less below. let p_at = b.before i less below in omega (arith, p_at);
  others = λ i from below. let p_at = b.others i from below in elim (cases_lt p (part_at ys i)) [
    | inl more ↦ omega (arith, more)
    | inr other ↦ absurd (let before = l.all i below (omega (arith, p_at, other)) in omega (arith, before, from, le))
  ];
})

-- ---- the place in a hint

pub place_is : (len low bits : ℕ) → low ≤ len → bits % 2 ^ 25 ≡ 0 → (0 < bits → len < 2 ^ 25) → place_in len (low + bits) ≡ low
place_is len low bits within whole few = elim (cases_lt len (2 ^ 25)) [
  | inl small ↦
      let is : nat_lt len (2 ^ 25) ≡ true = grind (arith, nat_tests) in
      let rest : (low + bits) % 2 ^ 25 ≡ low = omega (arith, small, within, whole) in
      ap (λ (b : Bool). if b then (low + bits) % 2 ^ 25 else low + bits) is ∙ rest
  | inr large ↦
      let not : nat_lt len (2 ^ 25) ≡ false = grind (arith, nat_tests) in
      let none : bits ≡ 0 = elim (cases_lt 0 bits) [ inl some ↦ absurd (let less = few some in omega (arith, less, large)) | inr never ↦ omega (arith, never) ] in
      ap (λ (b : Bool). if b then (low + bits) % 2 ^ 25 else low + bits) not ∙ omega (arith, none)
]

-- the larger of two places, neither of which is past the end
pub larger : (h low len most m : ℕ) → low ≤ len → h ≤ len → most ≡ max h low → m ≡ min most len → ((m ≡ h) × (low ≤ h)) ⊎ ((m ≡ low) × (h ≤ low))
larger h low len most m within few is cut = elim (cases_lt h low) [
  | inl less ↦ inr (omega (arith, is, cut, less, within), omega (arith, less))
  | inr le ↦ inl (omega (arith, is, cut, le, few), le)
]

-- ---- a search

-- the bits of a hint that are a place
pub masked : (len h m : ℕ) → h < 2 ^ 32 → (len < 2 ^ 25 → m ≡ 2 ^ 25 - 1) → (2 ^ 25 ≤ len → m ≡ 2 ^ 32 - 1) → bit_and h m ≡ place_in len h
masked len h m fits small large = elim (cases_lt len (2 ^ 25)) [
  | inl less ↦
      let is : nat_lt len (2 ^ 25) ≡ true = grind (arith, nat_tests) in
      let low : bit_and h 33554431 ≡ h % 2 ^ 25 = grind (arith, common_steps) in
      ap (bit_and h) (small less) ∙ low ∙ sym (ap (λ (b : Bool). if b then h % 2 ^ 25 else h) is)
  | inr le ↦
      let not : nat_lt len (2 ^ 25) ≡ false = grind (arith, nat_tests) in
      let all : bit_and h 4294967295 ≡ h = grind (arith, common_steps, fits) in
      ap (bit_and h) (large le) ∙ all ∙ sym (ap (λ (b : Bool). if b then h % 2 ^ 25 else h) not)
]
