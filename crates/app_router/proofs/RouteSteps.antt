-- The choice of a route, one route at a time.
use Rattle.std.proofs.Common.{◌≡◌, ◌∙◌, ◌+◌, ◌<◌, ◌≤◌, ◌++◌, ◌∷◌, [], inl, inr, ℕ, List, All, MatchOption, Option, None, Some, length, get_or, take, refl, sym, subst, ap, append_assoc, arith}
use Rattle.std.proofs.lemmas.List.{take_more}
use Rattle.std.proofs.lemmas.List.Elements.{All-append, All-cons, All-more, All-nil, All-push, All-weaker}
use Rattle.app_router.specs.Route.{IsBetter, IsChosen, Leads}
use Rattle.app_router.specs.declared.route.Route.{Route}
use Rattle.ip_wire.specs.IpCidr.{block_prefix_len}
use Rattle.ip_wire.specs.declared.IpAddress.{IpAddress}

-- the route that is chosen from a list
abbrev pub Chosen : List Route → IpAddress → Option Route → Type 0
Chosen routes addr chosen = MatchOption chosen (All (λ route. ¬ Leads addr route) routes) (IsChosen routes addr)

-- a route whose block contains the address has at most, or less than, this prefix length
abbrev IsWithin : IpAddress → ℕ → Route → Type 0
IsWithin addr n other = Leads addr other → block_prefix_len other.block ≤ n

abbrev IsBelow : IpAddress → ℕ → Route → Type 0
IsBelow addr n other = Leads addr other → block_prefix_len other.block < n

-- a chosen route stays chosen against one whose prefix is not longer
stays : (former : List Route) (addr : IpAddress) (route next : Route) → IsChosen former addr route → IsWithin addr (block_prefix_len route.block) next
    → IsChosen (former ++ next ∷ []) addr route
stays former addr route next c within = record {
  before = c.before;
  after = c.after ++ next ∷ [];
  listed = ap (λ l. l ++ next ∷ []) c.listed ∙ append_assoc c.before (route ∷ c.after) (next ∷ []);
  leads = c.leads;
  shorter = c.shorter;
  no_longer = All-push (IsWithin addr (block_prefix_len route.block)) c.after next c.no_longer within;
}

-- the last route is chosen if the prefixes of the others are shorter
last : (former : List Route) (addr : IpAddress) (next : Route) → Leads addr next → All (IsBelow addr (block_prefix_len next.block)) former
    → IsChosen (former ++ next ∷ []) addr next
last former addr next leads below = record {
  before = former;
  after = [];
  listed = refl;
  leads = leads;
  shorter = below;
  no_longer = All-nil (IsWithin addr (block_prefix_len next.block));
}

-- all prefixes are shorter than one that is longer than the chosen one
below_longer : (former : List Route) (addr : IpAddress) (route : Route) (n : ℕ) → IsChosen former addr route → block_prefix_len route.block < n
    → All (IsBelow addr n) former
below_longer former addr route n c longer =
    let P = IsBelow addr n in
    let m = block_prefix_len route.block in
    let before : All P c.before = All-weaker (IsBelow addr m) P (λ other h leads. let less = h leads in omega (arith, less, longer)) c.before c.shorter in
    let after : All P c.after = All-weaker (IsWithin addr m) P (λ other h leads. let less = h leads in omega (arith, less, longer)) c.after c.no_longer in
    subst (All P) (sym c.listed) (All-append P c.before (route ∷ c.after) before (All-cons P route c.after (λ _. longer) after))

-- a route whose block does not contain the address changes nothing
pub passed : (routes : List Route) (addr : IpAddress) (i : ℕ) (next : Route) (chosen : Option Route) → i < length routes → next ≡ get_or routes i next
    → ¬ Leads addr next → Chosen (take i routes) addr chosen → Chosen (take (i + 1) routes) addr chosen
passed routes addr i next None h is apart c = All-more (λ route. ¬ Leads addr route) routes i next h c (subst (λ r. ¬ Leads addr r) is apart)
passed routes addr i next (Some route) h is apart c =
    let more : take (i + 1) routes ≡ take i routes ++ next ∷ [] = take_more routes i next h ∙ ap (λ r. take i routes ++ r ∷ []) (sym is) in
    subst (λ l. IsChosen l addr route) (sym more) (stays (take i routes) addr route next c (λ leads. absurd (apart leads)))

-- of the chosen route and another that contains the address, the better one is chosen
pub taken : (routes : List Route) (addr : IpAddress) (i : ℕ) (next : Route) (chosen : Option Route) (result : Route) → i < length routes → next ≡ get_or routes i next
    → Leads addr next → Chosen (take i routes) addr chosen → MatchOption chosen (result ≡ next) (IsBetter next result) → IsChosen (take (i + 1) routes) addr result
taken routes addr i next None result h is leads c better =
    let more : take (i + 1) routes ≡ take i routes ++ next ∷ [] = take_more routes i next h ∙ ap (λ r. take i routes ++ r ∷ []) (sym is) in
    let below : All (IsBelow addr (block_prefix_len next.block)) (take i routes) =
    All-weaker (λ route. ¬ Leads addr route) (IsBelow addr (block_prefix_len next.block)) (λ other apart there. absurd (apart there)) (take i routes) c in
    subst (λ r. IsChosen (take (i + 1) routes) addr r) (sym better) (subst (λ l. IsChosen l addr next) (sym more) (last (take i routes) addr next leads below))
taken routes addr i next (Some former) result h is leads c (inl (same, within)) =
    let more : take (i + 1) routes ≡ take i routes ++ next ∷ [] = take_more routes i next h ∙ ap (λ r. take i routes ++ r ∷ []) (sym is) in
    subst (λ r. IsChosen (take (i + 1) routes) addr r) (sym same) (subst (λ l. IsChosen l addr former) (sym more) (stays (take i routes) addr former next c (λ _. within)))
taken routes addr i next (Some former) result h is leads c (inr (same, longer)) =
    let more : take (i + 1) routes ≡ take i routes ++ next ∷ [] = take_more routes i next h ∙ ap (λ r. take i routes ++ r ∷ []) (sym is) in
    subst (λ r. IsChosen (take (i + 1) routes) addr r) (sym same)
    (subst (λ l. IsChosen l addr next) (sym more) (last (take i routes) addr next leads (below_longer (take i routes) addr former (block_prefix_len next.block) c longer)))
