-- The links of the nodes, one node at a time.
use Rattle.std.proofs.Common.{ℕ, ◌≡◌, ◌∙◌, ◌+◌, ◌-◌, ◌<◌, ◌≤◌, List, inl, inr, get_or, length, map, set, sym, ap, subst, arith, get_or-set_other, get_or-set_same}
use Rattle.std.specs.List.Sorted.{IsNonDecreasingBy}
use Rattle.std.proofs.Math.ListN.{get_or-map}
use Rattle.std.proofs.Math.Seq.{map-set_same}
use Rattle.std.proofs.lemmas.Bool.{cases_lt}
use Rattle.std.proofs.lemmas.List.{length-map}
use Rattle.std.proofs.lemmas.Simd.{map-map}
use Rattle.app_router.specs.Index.{AreLinked, Encloses, IsLink, IsNearest, node_at, node_with, place, rank, unlinked, unmarked}
use Rattle.app_router.specs.declared.index.Node.{Node}

-- lists with the same nodes but for their links
abbrev pub AreAlike : List Node → List Node → Type 0
AreAlike xs ys = map unlinked xs ≡ map unlinked ys

pub alike_at : (xs ys : List Node) (k : ℕ) (d : Node) → AreAlike xs ys → unlinked (get_or xs k d) ≡ unlinked (get_or ys k d)
alike_at xs ys k d alike = sym (get_or-map unlinked xs k d) ∙ ap (λ l. get_or l k (unlinked d)) alike ∙ get_or-map unlinked ys k d

pub alike_length : (xs ys : List Node) → AreAlike xs ys → length xs ≡ length ys
alike_length xs ys alike = sym (length-map xs unlinked) ∙ ap length alike ∙ length-map ys unlinked

-- they have their places in order alike
pub alike_places : (xs ys : List Node) → AreAlike xs ys → IsNonDecreasingBy place xs → IsNonDecreasingBy place ys
alike_places xs ys alike sorted i j d le below =
    let at : (k : ℕ) → place (get_or xs k d) ≡ place (get_or ys k d) = λ k. ap place (alike_at xs ys k d alike) in
    omega (arith, sorted i j d le (omega (arith, below, alike_length xs ys alike)), at i, at j)

pub alike_ranks : (xs ys : List Node) → AreAlike xs ys → IsNonDecreasingBy rank xs → IsNonDecreasingBy rank ys
alike_ranks xs ys alike sorted i j d le below =
    let at : (k : ℕ) → rank (get_or xs k d) ≡ rank (get_or ys k d) = λ k. ap rank (alike_at xs ys k d alike) in
    subst (λ n. n ≤ rank (get_or ys j d)) (at i) (subst (λ n. rank (get_or xs i d) ≤ n) (at j) (sorted i j d le (omega (arith, below, alike_length xs ys alike))))

-- and the same nodes enclose each other
alike_enclose : (xs ys : List Node) (j k : ℕ) → AreAlike xs ys → Encloses (node_at xs j) (node_at xs k) → Encloses (node_at ys j) (node_at ys k)
alike_enclose xs ys j k alike encloses =
    let d = node_with 0 0 0 0 in
    let E : Node → Node → Type 0 = λ a b. Encloses a b in
    subst (λ n. E n (unlinked (node_at ys k))) (alike_at xs ys j d alike) (subst (λ n. E (unlinked (node_at xs j)) n) (alike_at xs ys k d alike) encloses)

alike_link : (xs ys : List Node) (k above : ℕ) → AreAlike xs ys → IsLink xs k above → IsLink ys k above
alike_link xs ys k above alike link = record {
  before = link.before;
  encloses = λ some. alike_enclose xs ys (above - 1) k alike (link.encloses some);
  nearest = λ j from below encloses. link.nearest j from below (alike_enclose ys xs j k (sym alike) encloses);
}

-- the node at a place with another link and no hint changes nothing else
pub alike_set : (xs : List Node) (i above : ℕ) (node : Node) → node ≡ node_at xs i → AreAlike (set xs i (record node { above = above; hint = 0 })) xs
alike_set xs i above node is = map-set_same unlinked xs i (record node { above = above; hint = 0 }) (node_with 0 0 0 0) (ap unlinked is)

-- one more link
pub links_more : (xs : List Node) (i above : ℕ) (node : Node) → i < length xs → node ≡ node_at xs i → AreLinked xs i
    → above ≤ i → (0 < above → Encloses (node_at xs (above - 1)) node) → IsNearest xs above i node
    → AreLinked (set xs i (record node { above = above; hint = 0 })) (i + 1)
links_more xs i above node within is linked before encloses nearest k below =
    let ys = set xs i (record node { above = above; hint = 0 }) in
    let alike : AreAlike xs ys = sym (alike_set xs i above node is) in
    let d = node_with 0 0 0 0 in
    elim (cases_lt k i) [
      | inl earlier ↦
          let same : node_at ys k ≡ node_at xs k = get_or-set_other xs i k (record node { above = above; hint = 0 }) d (omega (arith, earlier)) in
          subst (λ n. IsLink ys k n) (ap (λ (n : Node). n.above) (sym same)) (alike_link xs ys k (node_at xs k).above alike (linked k earlier))
      | inr later ↦
          let at : i ≡ k = omega (arith, later, below) in
          let written : node_at ys i ≡ record node { above = above; hint = 0 } = get_or-set_same xs i (record node { above = above; hint = 0 }) d within in
          let link : IsLink xs i above = record {
            before = before;
            encloses = λ some. subst (λ n. Encloses (node_at xs (above - 1)) n) is (encloses some);
            nearest = λ j from less. subst (λ n. ¬ Encloses (node_at xs j) n) is (nearest j from less);
          } in
          subst (λ k. IsLink ys k (node_at ys k).above) at
          (subst (λ n. IsLink ys i n) (ap (λ (n : Node). n.above) (sym written)) (alike_link xs ys i above alike link))
    ]

-- ---- hints

-- lists with the same nodes but for their hints
abbrev pub AreUnmarkedAlike : List Node → List Node → Type 0
AreUnmarkedAlike xs ys = map unmarked xs ≡ map unmarked ys

pub unmarked_alike : (xs ys : List Node) → AreUnmarkedAlike xs ys → AreAlike xs ys
unmarked_alike xs ys same = sym (map-map unlinked unmarked xs) ∙ ap (map unlinked) same ∙ map-map unlinked unmarked ys

-- they have the same links
pub unmarked_linked : (xs ys : List Node) (n : ℕ) → AreUnmarkedAlike xs ys → AreLinked xs n → AreLinked ys n
unmarked_linked xs ys n same linked k below =
    let d = node_with 0 0 0 0 in
    let at : unmarked (node_at xs k) ≡ unmarked (node_at ys k) =
    sym (get_or-map unmarked xs k d) ∙ ap (λ l. get_or l k (unmarked d)) same ∙ get_or-map unmarked ys k d in
    subst (λ n. IsLink ys k n) (ap (λ (n : Node). n.above) at) (alike_link xs ys k (node_at xs k).above (unmarked_alike xs ys same) (linked k below))

-- another hint changes nothing else
pub unmarked_set : (xs : List Node) (i hint : ℕ) (node : Node) → node ≡ node_at xs i → AreUnmarkedAlike (set xs i (record node { hint = hint })) xs
unmarked_set xs i hint node is = map-set_same unmarked xs i (record node { hint = hint }) (node_with 0 0 0 0) (ap unmarked is)
