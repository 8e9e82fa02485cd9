-- The node that a search finds is that of the chosen block.
use Rattle.std.proofs.Common.{ℕ, ◌≡◌, ◌∙◌, ◌+◌, ◌-◌, ◌^◌, ◌<◌, ◌≤◌, ◌⊎◌, ◌++◌, ◌∷◌, [], All, List, inl, inr, drop, get_or, length, map, take, sym, ap, subst, arith}
use Rattle.std.specs.List.Sorted.{IsNonDecreasingBy}
use Rattle.std.proofs.Math.ListN.{get_or-map as get_or-map_at}
use Rattle.std.proofs.lemmas.Bool.{cases_lt}
use Rattle.std.proofs.lemmas.List.{drop_more, get_or-drop, get_or-map, get_or-take, get_or_default, length-drop, length-map, length-take, take-append-drop}
use Rattle.app_router.proofs.Elements.{block_node, node_block}
use Rattle.app_router.proofs.Finds.{IsNodeOf, better, beyond}
use Rattle.app_router.specs.Index.{AreLinked, Encloses, IsChosenAt, IsIndex, IsNearest, IsSplit, block_at, block_of, node_at, node_with, place, rank, target_of}
use Rattle.app_router.specs.Route.{IsChosen, Leads}
use Rattle.app_router.specs.declared.index.Node.{Node}
use Rattle.app_router.specs.declared.route.Route.{Route}
use Rattle.ip_wire.specs.IpAddress.{IsAddress}
use Rattle.ip_wire.specs.IpCidr.{IsIn, block_prefix_len}
use Rattle.ip_wire.specs.declared.IpAddress.{IpAddress}
use Rattle.ip_wire.specs.declared.IpCidr.{IpCidr}

-- what a search over an index found: one more than the place of the last node that encloses the address, or 0
pub record Finds (nodes : List Node) (addr : IpAddress) (start found : ℕ) : Type 0 where
  pub octets : IsAddress addr
  pub following : (k : ℕ) → start ≤ k → k < length nodes → place (target_of addr) < place (node_at nodes k)
  pub low : start ≤ length nodes
  pub within : found ≤ start
  pub encloses : 0 < found → Encloses (node_at nodes (found - 1)) (target_of addr)
  pub nearest : IsNearest nodes found start (target_of addr)

-- no node after it is that of a block that contains the address
outside : (nodes : List Node) (addr : IpAddress) (start found : ℕ) → Finds nodes addr start found → (block : IpCidr) (i k : ℕ) → found ≤ k → k < length nodes
    → IsNodeOf block i (node_at nodes k) → ¬ IsIn block addr
outside nodes addr start found f block i k above below of member = elim (cases_lt k start) [
  | inl before ↦ f.nearest k above before (omega (arith, of.len_fits), (of.leads addr f.octets).0 member)
  | inr after ↦ beyond block i (node_at nodes k) addr of f.octets (f.following k after below) member
]

-- no block contains the address if nothing was found
pub nothing : (blocks : List IpCidr) (nodes : List Node) (addr : IpAddress) (start found : ℕ) → IsIndex blocks nodes → Finds nodes addr start found → found ≡ 0
    → All (λ block. ¬ IsIn block addr) blocks
nothing blocks nodes addr start found index f none i d below =
    let node = block_node blocks index.made nodes i index.filled index.moved below in
    let apart : ¬ IsIn (block_at blocks i) addr = outside nodes addr start found f (block_at blocks i) i node.0 (omega (arith, none)) node.1 node.2 in
    subst (λ block. ¬ IsIn block addr) (get_or_default blocks i _ d below) apart

-- another block that contains the address has a shorter prefix, or the same length and a later place
abbrev IsWorse : List IpCidr → ℕ → ℕ → Type 0
IsWorse blocks i j = (block_prefix_len (block_at blocks j) < block_prefix_len (block_at blocks i))
    ⊎ ((block_prefix_len (block_at blocks j) ≡ block_prefix_len (block_at blocks i)) × (i ≤ j))

worse : (blocks : List IpCidr) (nodes : List Node) (addr : IpAddress) (start found i j : ℕ) → IsIndex blocks nodes → Finds nodes addr start found → 0 < found
    → i < length blocks → IsNodeOf (block_at blocks i) i (node_at nodes (found - 1)) → j < length blocks → IsIn (block_at blocks j) addr → IsWorse blocks i j
worse blocks nodes addr start found i j index f some i_within of j_within member =
    let q = found - 1 in
    let node = block_node blocks index.made nodes j index.filled index.moved j_within in
    let k = node.0 in
    let other : IsNodeOf (block_at blocks j) j (node_at nodes k) = node.2 in
    elim (cases_lt k found) [
      | inr above ↦ absurd (outside nodes addr start found f (block_at blocks j) j k above node.1 other member)
      | inl before ↦
          let up : rank (node_at nodes k) ≤ rank (node_at nodes q) =
          index.sorted k q (node_with 0 0 0 0) (omega (arith, before)) (omega (arith, some, f.within, f.low)) in
          let a_route : (node_at nodes k).route < 2 ^ 32 = omega (arith, other.route_is, j_within, index.count) in
          let b_route : (node_at nodes q).route < 2 ^ 32 = omega (arith, of.route_is, i_within, index.count) in
          elim (better (node_at nodes k) (node_at nodes q) (place (target_of addr)) a_route b_route up ((other.leads addr f.octets).0 member)
          (f.encloses some).1 of.aligned (omega (arith, other.len_fits)) (omega (arith, of.len_fits))) [
            | inl less ↦ inl (omega (arith, less, other.len, of.len))
            | inr (same, earlier) ↦ inr (sym other.len ∙ same ∙ of.len, omega (arith, earlier, other.route_is, of.route_is))
          ]
    ]

pub chosen : (blocks : List IpCidr) (nodes : List Node) (addr : IpAddress) (start found : ℕ) → IsIndex blocks nodes → Finds nodes addr start found → 0 < found
    → IsChosenAt blocks addr (node_at nodes (found - 1)).route
chosen blocks nodes addr start found index f some =
    let q = found - 1 in
    let node = node_block blocks index.made nodes q index.filled index.moved (omega (arith, some, f.within, f.low)) in
    let i = node.0 in
    let of : IsNodeOf (block_at blocks i) i (node_at nodes q) = node.2 in
    let all : (j : ℕ) → j < length blocks → IsIn (block_at blocks j) addr → IsWorse blocks i j =
    λ j j_within member. worse blocks nodes addr start found i j index f some node.1 of j_within member in
    subst (IsChosenAt blocks addr) (sym of.route_is) (record {
      within = node.1;
      leads = (of.leads addr f.octets).1 (f.encloses some).1;
      shorter = λ j before member. elim (all j (omega (arith, before, node.1)) member) [
        | inl less ↦ less
        | inr (same, later) ↦ absurd (omega (arith, before, later))
      ];
      no_longer = λ j after j_within member. elim (all j j_within member) [
        | inl less ↦ omega (arith, less)
        | inr (same, later) ↦ omega (arith, same)
      ];
    })

-- what the search for the address and the climb tell
pub finds : (nodes : List Node) (addr : IpAddress) (target : Node) (start found : ℕ) → target ≡ target_of addr → IsAddress addr → IsNonDecreasingBy place nodes
    → AreLinked nodes (length nodes) → start ≤ length nodes → IsSplit nodes start start target → found ≤ start
    → (0 < found → Encloses (node_at nodes (found - 1)) target)
    → (IsNonDecreasingBy place nodes → AreLinked nodes start → ((k : ℕ) → k < start → place (node_at nodes k) ≤ place target)
    → IsNearest nodes found start target)
    → Finds nodes addr start found
finds nodes addr target start found is octets sorted linked low split within encloses nearest = record {
  octets = octets;
  following = λ k after below. subst (λ t. place t < place (node_at nodes k)) is (split.1 k after below);
  low = low;
  within = within;
  encloses = λ some. subst (λ t. Encloses (node_at nodes (found - 1)) t) is (encloses some);
  nearest = subst (λ t. IsNearest nodes found start t) is (nearest sorted (λ k below. linked k (omega (arith, below, low))) split.0);
}

-- ---- routes

-- no route leads to an address that no block contains
pub none_leads : (routes : List Route) (addr : IpAddress) → All (λ block. ¬ IsIn block addr) (map block_of routes) → All (λ route. ¬ Leads addr route) routes
none_leads routes addr none k d below leads =
    none k (block_of d) (subst (λ n. k < n) (sym (length-map routes block_of)) below)
    (subst (λ block. IsIn block addr) (sym (get_or-map_at block_of routes k d)) leads)

-- the route at the place of the chosen block is chosen
pub route_chosen : (routes : List Route) (addr : IpAddress) (i : ℕ) (route : Route) → IsChosenAt (map block_of routes) addr i → route ≡ get_or routes i route
    → IsChosen routes addr route
route_chosen routes addr i route c is =
    let blocks = map block_of routes in
    let within : i < length routes = subst (λ n. i < n) (length-map routes block_of) c.within in
    let at : (j : ℕ) (d : Route) → j < length routes → block_at blocks j ≡ (get_or routes j d).block =
    λ j d below. get_or-map block_of routes j d (block_at [] 0) below in
    let here : block_at blocks i ≡ route.block = at i route within ∙ ap (λ (r : Route). r.block) (sym is) in
    let len : block_prefix_len (block_at blocks i) ≡ block_prefix_len route.block = ap block_prefix_len here in
    record {
      before = take i routes;
      after = drop (i + 1) routes;
      listed = sym (take-append-drop i routes) ∙ ap (λ l. take i routes ++ l) (drop_more routes i route within)
          ∙ ap (λ r. take i routes ++ r ∷ drop (i + 1) routes) (sym is);
      leads = subst (λ block. IsIn block addr) here c.leads;
      shorter = λ j d below leads.
          let before : j < i = omega (arith, below, length-take i routes) in
          let same = at j d (omega (arith, before, within)) ∙ ap (λ (r : Route). r.block) (sym (get_or-take i routes j d before)) in
          let less = c.shorter j before (subst (λ block. IsIn block addr) (sym same) leads) in
          omega (arith, less, len, ap block_prefix_len same);
      no_longer = λ j d below leads.
          let inside : i + 1 + j < length routes = omega (arith, below, length-drop (i + 1) routes) in
          let same = at (i + 1 + j) d inside ∙ ap (λ (r : Route). r.block) (sym (get_or-drop (i + 1) routes j d)) in
          let le = c.no_longer (i + 1 + j) (omega arith) (subst (λ n. i + 1 + j < n) (sym (length-map routes block_of)) inside)
          (subst (λ block. IsIn block addr) (sym same) leads) in
          omega (arith, le, len, ap block_prefix_len same);
    }
