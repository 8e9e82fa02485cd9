-- The route that is chosen by the index of the blocks.
use Rattle.std.proofs.Common.{ℕ, ℤ, pos, negsuc, ◌≡◌, ◌∙◌, ◌-ℤ◌, ◌<◌, ◌≤◌, All, IsSomeAnd, List, MatchOption, Option, None, Some, ap, arith, inl, inr, length, map, slice_index_or, subst, subst₂, sym}
use Rattle.app_router.specs.Index as index
use Rattle.app_router.specs.Index.{IsChosenAt}
use Rattle.app_router.specs.Table.{IsAnswer}
use Rattle.ip_wire.specs.IpCidr.{IsIn, block_prefix_len}
use Rattle.ip_wire.specs.declared.IpAddress.{IpAddress}
use Rattle.ip_wire.specs.declared.IpCidr.{IpCidr}
use Rattle.c_structs.specs.Addresses.{ip_of}
use Rattle.c_structs.specs.declared.types.Addr.{Addr}
use Rattle.c_routing.proofs.RouteLists.{listed-at, prefix-with, same-length}
use Rattle.c_routing.specs.Routes.{Chooses, IsChosen, Leads, destinations, route_at}
use Rattle.c_routing.specs.declared.routes.Route.{Route}

leads-in : (route : Route) (block : IpCidr) (addr : Addr) (ip : IpAddress) → destinations route ≡ Some block → ip_of addr ≡ Some ip → Leads addr route → IsIn block ip
leads-in route block addr ip is at leads =
    subst (λ o. IsSomeAnd o (IsIn block)) at (subst (λ o. IsSomeAnd o (λ b. IsSomeAnd (ip_of addr) (IsIn b))) is leads)

in-leads : (route : Route) (block : IpCidr) (addr : Addr) (ip : IpAddress) → destinations route ≡ Some block → ip_of addr ≡ Some ip → IsIn block ip → Leads addr route
in-leads route block addr ip is at inside =
    subst (λ o. IsSomeAnd o (λ b. IsSomeAnd (ip_of addr) (IsIn b))) (sym is) (subst (λ o. IsSomeAnd o (IsIn block)) (sym at) inside)

prefix-of : (route : Route) (block : IpCidr) → destinations route ≡ Some block → block_prefix_len block ≡ route.block.prefix_len
prefix-of route block is = prefix-with route.block.prefix_len (ip_of route.block.addr) block is

-- the block of the route at a place, and its prefix
block-at : (routes : List Route) (blocks : List IpCidr) (i : ℕ) → map destinations routes ≡ map Some blocks → i < length routes
    → destinations (route_at routes i) ≡ Some (index.block_at blocks i)
block-at routes blocks i listed within = listed-at routes blocks i _ listed within

prefix-at : (routes : List Route) (blocks : List IpCidr) (i : ℕ) → map destinations routes ≡ map Some blocks → i < length routes
    → block_prefix_len (index.block_at blocks i) ≡ (route_at routes i).block.prefix_len
prefix-at routes blocks i listed within = prefix-of (route_at routes i) _ (block-at routes blocks i listed within)

chosen-at : (routes : List Route) (blocks : List IpCidr) (addr : Addr) (ip : IpAddress) (i : ℕ) → map destinations routes ≡ map Some blocks → ip_of addr ≡ Some ip
    → i < length routes → IsChosenAt blocks ip i → IsChosen routes addr i
chosen-at routes blocks addr ip i listed at here it = record {
  within = here;
  leads = in-leads (route_at routes i) _ addr ip (block-at routes blocks i listed here) at it.leads;
  shorter = λ j before leads.
      let there : j < length routes = omega (arith, before, here) in
      subst₂ (λ m n. m < n) (prefix-at routes blocks j listed there) (prefix-at routes blocks i listed here)
      (it.shorter j before (leads-in (route_at routes j) _ addr ip (block-at routes blocks j listed there) at leads));
  no_longer = λ j following there leads.
      subst₂ (λ m n. m ≤ n) (prefix-at routes blocks j listed there) (prefix-at routes blocks i listed here)
      (it.no_longer j following (subst (λ n. j < n) (same-length routes blocks listed) there) (leads-in (route_at routes j) _ addr ip (block-at routes blocks j listed there) at leads));
}

none-leads : (routes : List Route) (blocks : List IpCidr) (addr : Addr) (ip : IpAddress) → map destinations routes ≡ map Some blocks → ip_of addr ≡ Some ip
    → All (λ block. ¬ IsIn block ip) blocks → All (λ route. ¬ Leads addr route) routes
none-leads routes blocks addr ip listed at none i d within leads =
    none i _ (subst (λ n. i < n) (same-length routes blocks listed) within) (leads-in (slice_index_or routes i d) _ addr ip (listed-at routes blocks i d listed within) at leads)

-- what is found for the blocks is found for the routes
pub found-route : (routes : List Route) (blocks : List IpCidr) (addr : Addr) (ip : IpAddress) (found : Option ℕ) → map destinations routes ≡ map Some blocks
    → ip_of addr ≡ Some ip → MatchOption found (All (λ block. ¬ IsIn block ip) blocks) (IsChosenAt blocks ip)
    → MatchOption found (All (λ route. ¬ Leads addr route) routes) (IsChosen routes addr)
found-route routes blocks addr ip None listed at none = none-leads routes blocks addr ip listed at none
found-route routes blocks addr ip (Some i) listed at it =
    chosen-at routes blocks addr ip i listed at (subst (λ n. i < n) (sym (same-length routes blocks listed)) it.within) it

-- the number of what is found is returned
pub numbered : (routes : List Route) (addr : Addr) (found : Option ℕ) (answer : ℤ) → MatchOption found (All (λ route. ¬ Leads addr route) routes) (IsChosen routes addr)
    → MatchOption found (answer ≡ negsuc 0) (λ i. answer ≡ pos i) → Chooses routes addr answer
numbered routes addr None answer none is = inr (is, none)
numbered routes addr (Some i) answer chosen is = inl (i, is, chosen)

-- the number of the answer of a table, less one, is returned
pub answered : (routes : List Route) (blocks : List IpCidr) (addr : Addr) (ip : IpAddress) (answer : ℕ) (result : ℤ) → map destinations routes ≡ map Some blocks
    → ip_of addr ≡ Some ip → IsAnswer blocks ip answer → result ≡ pos answer -ℤ pos 1 → Chooses routes addr result
answered routes blocks addr ip answer result listed at (inl (zero, none)) is =
    let minus : result ≡ negsuc 0 = is ∙ ap (λ n. pos n -ℤ pos 1) zero in
    inr (minus, none-leads routes blocks addr ip listed at none)
answered routes blocks addr ip answer result listed at (inr (i, more, it)) is =
    let place : result ≡ pos i = grind (arith, is, more) in
    inl (i, place, chosen-at routes blocks addr ip i listed at (subst (λ n. i < n) (sym (same-length routes blocks listed)) it.within) it)
