-- Routes and their blocks.
use Rattle.std.proofs.Common.{ℕ, ℤ, pos, ◌||◌, ◌∷◌, ◌++◌, [], MatchOption, ap₂, drop, is_none, take, ◌≡◌, ◌∙◌, ◌+◌, ◌<◌, ◌≤◌, ◌&&◌, ◌^◌, Bool, true, false, List, Option, None, Some, ap, arith, get_or-set_other, get_or-set_same, if◌then◌else◌, inl, inr, length, map, nat_le, nat_lt, refl, slice_index_or, slice_set, subst, sym}
use Rattle.std.proofs.lemmas.Bool.{cases_lt}
use Rattle.std.proofs.lemmas.List.{get_or-map, length-map}
use Rattle.std.proofs.Math.Seq.{drop-append_seam, take-append_seam}
use Rattle.std.specs.List.{list_any}
use Rattle.std.specs.Option.{option_and_then}
use Rattle.app_router.specs.Index.{IsBlock, IsFilled, IsIndex, block_at, node_at, node_of}
use Rattle.app_router.specs.declared.index.Node.{Node}
use Rattle.ip_wire.specs.IpCidr.{block_prefix_len}
use Rattle.ip_wire.specs.declared.IpAddress.{IpAddress}
use Rattle.ip_wire.specs.declared.IpAddress.TheVariants.{Ipv4, Ipv6}
use Rattle.ip_wire.specs.declared.IpCidr.{IpCidr}
use Rattle.c_structs.specs.Addresses.{block_with}
use Rattle.c_structs.specs.Written.{failure_code, max_len}
use Rattle.c_structs.specs.declared.failures.Failure.TheVariants as failure
use Rattle.c_routing.proofs.Tables.{in_bounds-itself}
use Rattle.c_routing.specs.Routes.{Indexes, IsIndexOf, WritesIndex, destinations, index_failure}
use Rattle.c_routing.specs.declared.routes.Route.{Route}

-- ---- lists

pub same-length : (routes : List Route) (blocks : List IpCidr) → map destinations routes ≡ map Some blocks → length routes ≡ length blocks
same-length routes blocks listed = sym (length-map routes destinations) ∙ ap length listed ∙ length-map blocks Some

-- the block of a route is at its place in the list of blocks
pub listed-at : (routes : List Route) (blocks : List IpCidr) (i : ℕ) (none : Route) → map destinations routes ≡ map Some blocks → i < length routes
    → destinations (slice_index_or routes i none) ≡ Some (block_at blocks i)
listed-at routes blocks i none listed within =
    sym (get_or-map destinations routes i none None within) ∙ ap (λ l. slice_index_or l i None) listed
    ∙ get_or-map Some blocks i _ None (subst (λ n. i < n) (same-length routes blocks listed) within)

-- ---- blocks

chosen : (fits : Bool) (c b : IpCidr) → (if fits then Some c else None) ≡ Some b → c ≡ b
chosen true c b is = cc
chosen false c b is = absurd (cc)

pub prefix-with : (n : ℕ) (addr : Option IpAddress) (b : IpCidr) → option_and_then (block_with n) addr ≡ Some b → block_prefix_len b ≡ n
prefix-with n None b is = absurd (cc)
prefix-with n (Some (Ipv4 octets)) b is = ap block_prefix_len (sym (chosen (nat_le n 32) _ b is))
prefix-with n (Some (Ipv6 octets)) b is = ap block_prefix_len (sym (chosen (nat_le n 128) _ b is))

-- ---- nodes

-- the first nodes are those of the first blocks
abbrev pub IsFilledTo : List IpCidr → List Node → ℕ → Type 0
IsFilledTo blocks nodes n = (i : ℕ) → i < n → IsBlock (block_at blocks i) × (node_at nodes i ≡ node_of (block_at blocks i) i)

-- the next node is that of the next block
filled-more : (routes : List Route) (blocks : List IpCidr) (nodes : List Node) (i : ℕ) (none : Route) (block : IpCidr)
    → map destinations routes ≡ map Some blocks → i < length routes → i < length nodes → destinations (slice_index_or routes i none) ≡ Some block
    → IsBlock block → IsFilledTo blocks nodes i → IsFilledTo blocks (slice_set nodes i (node_of block i)) (i + 1)
filled-more routes blocks nodes i none block listed within room is valid filled k below = elim (cases_lt k i) [
  | inl less ↦ let (other, old) = filled k less in (other, get_or-set_other nodes i k (node_of block i) _ (λ same. absurd (omega (arith, less, same))) ∙ old)
  | inr following ↦
      let same : i ≡ k = omega (arith, below, following) in
      let at : Some block ≡ Some (block_at blocks i) = sym is ∙ listed-at routes blocks i none listed within in
      let here : block ≡ block_at blocks i = cc in
      subst (λ n. IsBlock (block_at blocks n) × (node_at (slice_set nodes i (node_of block i)) n ≡ node_of (block_at blocks n) n)) same
      (subst IsBlock here valid, get_or-set_same nodes i (node_of block i) _ room ∙ ap (λ b. node_of b i) here)
]

pub filled-step : (routes : List Route) (blocks : List IpCidr) (nodes new : List Node) (i : ℕ) (none : Route) (found : Option IpCidr) (block : IpCidr) (node : Node)
    → map destinations routes ≡ map Some blocks → i < length routes → i < length nodes → found ≡ destinations (slice_index_or routes i none)
    → found ≡ Some block → node ≡ node_of block i → IsBlock block → new ≡ slice_set nodes i node → IsFilledTo blocks nodes i → IsFilledTo blocks new (i + 1)
filled-step routes blocks nodes new i none found block node listed within room at is made valid changed filled =
    subst (λ l. IsFilledTo blocks l (i + 1)) (sym (changed ∙ ap (λ n. slice_set nodes i n) made))
    (filled-more routes blocks nodes i none block listed within room (sym at ∙ is) valid filled)

pub filled : (routes : List Route) (blocks : List IpCidr) (nodes : List Node) → map destinations routes ≡ map Some blocks → length nodes ≡ length routes
    → IsFilledTo blocks nodes (length routes) → IsFilled blocks nodes
filled routes blocks nodes listed same all = record {
  len = same ∙ same-length routes blocks listed;
  each = λ i within. all i (subst (λ n. i < n) (sym (same-length routes blocks listed)) within);
}

-- a route without a block is not in such a list
pub no-block : (routes : List Route) (blocks : List IpCidr) (i : ℕ) (none : Route) (found : Option IpCidr) → map destinations routes ≡ map Some blocks
    → i < length routes → found ≡ destinations (slice_index_or routes i none) → ¬ (found ≡ None)
no-block routes blocks i none found listed within is empty = let at = listed-at routes blocks i none listed within in absurd (cc)

-- ---- lists in which every route has a block

first-listed : (destination : Option IpCidr) (rest : Bool) → (is_none destination || rest) ≡ false
    → (block : IpCidr) × (destination ≡ Some block) × (rest ≡ false)
first-listed None rest is = absurd (cc)
first-listed (Some block) rest is = (block, refl, is)

all-listed : (routes : List Route) → list_any (λ route. is_none (destinations route)) routes ≡ false
    → (blocks : List IpCidr) × (map destinations routes ≡ map Some blocks)
all-listed [] none = ([], refl)
all-listed (route ∷ routes) none =
    let (block, is, others) = first-listed (destinations route) (list_any (λ r. is_none (destinations r)) routes) none in
    let (blocks, listed) = all-listed routes others in
    (block ∷ blocks, ap₂ (λ o l. o ∷ l) is listed)

no-failure : (a b c : Bool) → (if a then Some failure.NoVersion else if b then Some failure.BadPrefix else if c then None else Some failure.NoRoom) ≡ None → (b ≡ false) × (c ≡ true)
no-failure true b c is = absurd (cc)
no-failure false true c is = absurd (cc)
no-failure false false true is = (refl, refl)
no-failure false false false is = absurd (cc)

-- a list with room for its index is not too long
room-bounds : (count room : ℕ) → (nat_le count room && nat_le room max_len && nat_lt count (2 ^ 32)) ≡ true → count ≤ max_len
room-bounds count room has = grind arith

-- the index of such a list is written
pub written : (routes : List Route) (old made : List Node) (answer : ℤ) → index_failure routes (length old) ≡ None → length made ≡ length routes
    → ((blocks : List IpCidr) → map destinations routes ≡ map Some blocks → IsIndex blocks made) → answer ≡ pos (length routes)
    → Indexes routes old (made ++ drop (length routes) old) answer
written routes old made answer none same index is =
    let (blocked, room) = no-failure _ _ _ none in
    let fits = room-bounds (length routes) (length old) room in
    let (blocks, listed) = all-listed routes (subst (λ l. list_any (λ route. is_none (destinations route)) l ≡ false) (in_bounds-itself routes fits) blocked) in
    let front : take (length routes) (made ++ drop (length routes) old) ≡ made = subst (λ n. take n (made ++ drop (length routes) old) ≡ made) same (take-append_seam made _) in
    let following : drop (length routes) (made ++ drop (length routes) old) ≡ drop (length routes) old =
    subst (λ n. drop n (made ++ drop (length routes) old) ≡ drop (length routes) old) same (drop-append_seam made _) in
    subst (λ o. MatchOption o (WritesIndex routes old (made ++ drop (length routes) old) answer) (λ why. (answer ≡ failure_code why) × (made ++ drop (length routes) old ≡ old))) (sym none) (record {
      count = is;
      index = subst (IsIndexOf routes) (sym front) (record { blocks = blocks; listed = listed; index = index blocks listed });
      following = following;
    })
