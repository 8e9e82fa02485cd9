-- One route is chosen, and a source has one fault.
use Rattle.std.proofs.Common.{ℕ, ℤ, pos, negsuc, ◌≡◌, ◌≤◌, ◌∙◌, All, List, MatchOption, Option, None, Some, inl, inr, arith, ap, drop, length, refl, subst, sym, take_all}
use Rattle.std.proofs.lemmas.Bool.{cases_order}
use Rattle.app_router.proofs.RoutesOnce.{one_fault}
use Rattle.app_router.specs.Source.{ChecksSource}
use Rattle.app_router.specs.declared.index.Node.{Node}
use Rattle.app_router.specs.declared.source.SourceFault.{SourceFault}
use Rattle.ip_wire.specs.declared.IpAddress.{IpAddress}
use Rattle.c_routing.proofs.Tables.{in_bounds-itself}
use Rattle.c_routing.specs.Lengths.{in_bounds}
use Rattle.c_routing.specs.Rejections.{rejection_code, source_code}
use Rattle.c_routing.specs.Routes.{Chooses, Indexes, IsChosen, IsIndexOf, Leads, WritesIndex, index_failure, route_at}
use Rattle.c_routing.specs.Sources.{ChecksAddr, IsBack}
use Rattle.c_routing.specs.declared.rejections.Rejection.TheVariants as rejection
use Rattle.c_routing.specs.declared.routes.Route.{Route}
use Rattle.c_structs.specs.Addresses.{ip_of}
use Rattle.c_structs.specs.Written.{failure_code, max_len}
use Rattle.c_structs.specs.declared.failures.Failure.{Failure}
use Rattle.c_structs.specs.declared.types.Addr.{Addr}

-- ---- the chosen route

route-once : (routes : List Route) (addr : Addr) (i j : ℕ) → IsChosen routes addr i → IsChosen routes addr j → i ≡ j
route-once routes addr i j a b = elim (cases_order i j) [
  | inl same ↦ same
  | inr (inl less) ↦ absurd (let x = b.shorter i less a.leads in let y = a.no_longer j less b.within b.leads in omega (arith, x, y))
  | inr (inr more) ↦ absurd (let x = a.shorter j more b.leads in let y = b.no_longer i more a.within a.leads in omega (arith, x, y))
]

led : (routes : List Route) (addr : Addr) (i : ℕ) → All (λ route. ¬ Leads addr route) routes → ¬ IsChosen routes addr i
led routes addr i none a = none i _ a.within a.leads

pub chooses_once : (routes : List Route) (addr : Addr) (a b : ℤ) → Chooses routes addr a → Chooses routes addr b → a ≡ b
chooses_once routes addr a b (inl (i, is, v)) (inl (j, also, w)) = is ∙ ap pos (route-once routes addr i j v w) ∙ sym also
chooses_once routes addr a b (inl (i, is, v)) (inr (minus, none)) = absurd (led routes addr i none v)
chooses_once routes addr a b (inr (minus, none)) (inl (j, is, w)) = absurd (led routes addr j none w)
chooses_once routes addr a b (inr (minus, none)) (inr (also, never)) = minus ∙ sym also

-- ---- the index

-- The same is returned, and nothing is written after so many elements. After a failure all elements are the same.
pub record IsSame {A : Type 0} (count : ℕ) (new other : List A) (a b : ℤ) : Type 0 where
  pub returned : a ≡ b
  pub following : drop count new ≡ drop count other
  pub failed : (n : ℕ) → a ≡ negsuc n → new ≡ other

-- by a call that writes so many elements and returns their number, or fails and writes nothing
pub written_once : {A : Type 0} (count : ℕ) (why : Option Failure) (old new other : List A) (a b : ℤ) (Writes : List A → ℤ → Type 0)
    → ((list : List A) (answer : ℤ) → Writes list answer → (answer ≡ pos count) × (drop count list ≡ drop count old))
    → MatchOption why (Writes new a) (λ w. (a ≡ failure_code w) × (new ≡ old))
    → MatchOption why (Writes other b) (λ w. (b ≡ failure_code w) × (other ≡ old)) → IsSame count new other a b
written_once count None old new other a b Writes told v w =
    let (is, following) = told new a v in
    let (also, same) = told other b w in
    record {
      returned = is ∙ sym also;
      following = following ∙ sym same;
      failed = λ n minus. let apart : pos count ≡ negsuc n = sym is ∙ minus in absurd (cc);
    }
written_once count (Some why) old new other a b Writes told (is, stays) (also, same) = record {
  returned = is ∙ sym also;
  following = ap (drop count) (stays ∙ sym same);
  failed = λ n _. stays ∙ sym same;
}

pub indexes_once : (routes : List Route) (old new other : List Node) (a b : ℤ) → Indexes routes old new a → Indexes routes old other b
    → IsSame (length routes) new other a b
indexes_once routes old new other a b =
    written_once (length routes) (index_failure routes (length old)) old new other a b (WritesIndex routes old) (λ list answer v. (v.count, v.following))

all-nodes : (routes : List Route) (why : Option Failure) (old new : List Node) (n : ℕ)
    → MatchOption why (WritesIndex routes old new (pos n)) (λ w. (pos n ≡ failure_code w) × (new ≡ old)) → length new ≡ length routes → IsIndexOf routes new
all-nodes routes None old new n v long = subst (IsIndexOf routes) (take_all (length routes) new (omega (arith, long))) v.index
all-nodes routes (Some why) old new n (is, stays) long = absurd (cc)

-- an index that fills all nodes is the index of these nodes
pub filled : (routes : List Route) (old new : List Node) (n : ℕ) → length routes ≤ max_len → length new ≡ length routes → Indexes routes old new (pos n)
    → IsIndexOf routes (in_bounds new)
filled routes old new n fits long v =
    let nodes = in_bounds-itself new (omega (arith, long, fits)) in
    subst (IsIndexOf routes) (sym nodes) (all-nodes routes (index_failure routes (length old)) old new n v long)

-- ---- sources

back-once : (routes : List Route) (addr : Addr) (a b : Option ℕ) → IsBack routes addr a → IsBack routes addr b → a ≡ b
back-once routes addr None None v w = refl
back-once routes addr None (Some n) none (i, chosen, is) = absurd (led routes addr i none chosen)
back-once routes addr (Some n) None (i, chosen, is) none = absurd (led routes addr i none chosen)
back-once routes addr (Some n) (Some m) (i, chosen, is) (j, again, also) =
    ap Some (sym is ∙ ap (λ k. (route_at routes k).interface) (route-once routes addr i j chosen again) ∙ also)

-- what is returned for a source that may have no version
abbrev Checks : List Route → Addr → ℕ → ℤ → Option IpAddress → Type 0
Checks routes src interface answer ip = MatchOption ip (answer ≡ pos (rejection_code rejection.Martian))
    (λ addr. (back : Option ℕ) × IsBack routes src back × ((fault : Option SourceFault) × ChecksSource addr interface back fault × (answer ≡ pos (source_code fault))))

check-once : (routes : List Route) (src : Addr) (interface : ℕ) (ip : Option IpAddress) (a b : ℤ) → Checks routes src interface a ip → Checks routes src interface b ip
    → a ≡ b
check-once routes src interface None a b is also = is ∙ sym also
check-once routes src interface (Some addr) a b (back, to, (fault, v, is)) (way, back_to, (why, w, also)) =
    let same : back ≡ way = back-once routes src back way to back_to in
    let one : fault ≡ why = one_fault addr interface way fault why (subst (λ x. ChecksSource addr interface x fault) same v) w in
    is ∙ ap (λ f. pos (source_code f)) one ∙ sym also

pub checks_once : (routes : List Route) (src : Addr) (interface : ℕ) (a b : ℤ) → ChecksAddr routes src interface a → ChecksAddr routes src interface b → a ≡ b
checks_once routes src interface a b v w = check-once routes src interface (ip_of src) a b v w
