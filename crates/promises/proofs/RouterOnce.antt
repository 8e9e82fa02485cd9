-- A router has one answer.
use Rattle.std.proofs.Common.{ℕ, ◌≡◌, ◌∙◌, ◌<◌, ◌≤◌, ◌++◌, ◌∷◌, [], All, IfErr, IfOk, List, MatchOption, OnErr, Option, None, Some, Result, Ok, Err, arith, ap, drop, get_or, map, refl, suc, subst, sym}
use Rattle.std.proofs.lemmas.Option.{none-some, same_Some}
use Rattle.app_host.proofs.MessagesOnce.{error-once}
use Rattle.app_host.specs.Message.{Gives, values_of}
use Rattle.app_host.specs.declared.interface.Interface.{Interface}
use Rattle.app_host.specs.declared.message.MessageFrame.{MessageFrame}
use Rattle.app_router.proofs.ForwardOnce.{forwarded-no_fault, forwarded-once}
use Rattle.app_router.proofs.RoutesOnce.{one_block, one_fault}
use Rattle.app_router.specs.Forward.{IsForwarded, fault_of}
use Rattle.app_router.specs.IcmpProblem.{Tells, message_of}
use Rattle.app_router.specs.Index.{IsChosenAt, IsIndex, block_of}
use Rattle.app_router.specs.Route.{IsChosen, Leads}
use Rattle.app_router.specs.Source.{ChecksSource, IsBack}
use Rattle.app_router.specs.declared.index.Node.{Node}
use Rattle.app_router.specs.declared.problem.Problem.{Problem}
use Rattle.app_router.specs.declared.route.Route.{Route}
use Rattle.app_router.specs.declared.source.SourceFault.{SourceFault}
use Rattle.ip_wire.specs.IpCidr.{IsIn, block_prefix_len}
use Rattle.ip_wire.specs.Types.{EthernetAddress, IpRepr}
use Rattle.ip_wire.specs.declared.HeaderFault.{HeaderFault}
use Rattle.ip_wire.specs.declared.IpAddress.{IpAddress}
use Rattle.ip_wire.specs.declared.IpCidr.{IpCidr}

-- ---- frames that are forwarded

forward-results : (old copy new other : List ℕ) (src dst : EthernetAddress) (a b : Result IpRepr HeaderFault) → old ≡ copy
    → IfOk a (IsForwarded old new src dst) → IfErr a (λ fault. fault_of old ≡ Some fault) → OnErr a (new ≡ old)
    → IfOk b (IsForwarded copy other src dst) → IfErr b (λ fault. fault_of copy ≡ Some fault) → OnErr b (other ≡ copy) → (a ≡ b) × (new ≡ other)
forward-results old copy new other src dst (Ok h) (Ok k) e f r u g s v =
    let t = forwarded-once old new other src dst h k f (subst (λ o. IsForwarded o other src dst k) (sym e) g) in (ap Ok t.1, t.0)
forward-results old copy new other src dst (Ok h) (Err y) e f r u g s v = absurd (none-some y (sym (forwarded-no_fault old new src dst h f) ∙ ap fault_of e ∙ s))
forward-results old copy new other src dst (Err x) (Ok k) e f r u g s v =
    absurd (none-some x (sym (forwarded-no_fault old other src dst k (subst (λ o. IsForwarded o other src dst k) (sym e) g)) ∙ r))
forward-results old copy new other src dst (Err x) (Err y) e f r u g s v = (ap Err (same_Some x y (sym r ∙ ap fault_of e ∙ s)), u ∙ e ∙ sym v)

pub forward_returned : (old copy new other : List ℕ) (src dst : EthernetAddress) (a b : Result IpRepr HeaderFault) → old ≡ copy
    → IfOk a (IsForwarded old new src dst) → IfErr a (λ fault. fault_of old ≡ Some fault) → OnErr a (new ≡ old)
    → IfOk b (IsForwarded copy other src dst) → IfErr b (λ fault. fault_of copy ≡ Some fault) → OnErr b (other ≡ copy) → a ≡ b
forward_returned old copy new other src dst a b e f r u g s v = (forward-results old copy new other src dst a b e f r u g s v).0

pub forward_frame : (old copy new other : List ℕ) (src dst : EthernetAddress) (a b : Result IpRepr HeaderFault) → old ≡ copy
    → IfOk a (IsForwarded old new src dst) → IfErr a (λ fault. fault_of old ≡ Some fault) → OnErr a (new ≡ old)
    → IfOk b (IsForwarded copy other src dst) → IfErr b (λ fault. fault_of copy ≡ Some fault) → OnErr b (other ≡ copy) → new ≡ other
forward_frame old copy new other src dst a b e f r u g s v = (forward-results old copy new other src dst a b e f r u g s v).1

-- ---- routes

-- an element after a list is not before it
in-rest : (P : Route → Type 0) (n : List Route) (b : Route) (q : List Route) → All P (n ++ b ∷ q) → P b
in-rest P [] b q h = h 0 b (omega arith)
in-rest P (y ∷ n) b q h = in-rest P n b q (λ k d below. h (suc k) d (omega (arith, below)))

split-once : (addr : IpAddress) (a b : Route) → Leads addr a → Leads addr b → (m n p q : List Route) → m ++ a ∷ p ≡ n ++ b ∷ q
    → All (λ o. Leads addr o → block_prefix_len o.block < block_prefix_len a.block) m → All (λ o. Leads addr o → block_prefix_len o.block ≤ block_prefix_len a.block) p
    → All (λ o. Leads addr o → block_prefix_len o.block < block_prefix_len b.block) n → All (λ o. Leads addr o → block_prefix_len o.block ≤ block_prefix_len b.block) q
    → a ≡ b
split-once addr a b x y [] [] p q e h i j k = ap (λ l. get_or l 0 a) e
split-once addr a b x y [] (t ∷ n) p q e h i j k =
    let head : a ≡ t = ap (λ l. get_or l 0 a) e in
    let rest : p ≡ n ++ b ∷ q = ap (drop 1) e in
    let less : block_prefix_len a.block < block_prefix_len b.block = subst (λ (o : Route). Leads addr o → block_prefix_len o.block < block_prefix_len b.block) (sym head) (j 0 t (omega arith)) x in
    let most : block_prefix_len b.block ≤ block_prefix_len a.block =
    in-rest (λ o. Leads addr o → block_prefix_len o.block ≤ block_prefix_len a.block) n b q (subst (All (λ o. Leads addr o → block_prefix_len o.block ≤ block_prefix_len a.block)) rest i) y in
    absurd (omega (arith, less, most))
split-once addr a b x y (s ∷ m) [] p q e h i j k =
    let head : s ≡ b = ap (λ l. get_or l 0 s) e in
    let rest : m ++ a ∷ p ≡ q = ap (drop 1) e in
    let less : block_prefix_len b.block < block_prefix_len a.block = subst (λ (o : Route). Leads addr o → block_prefix_len o.block < block_prefix_len a.block) head (h 0 s (omega arith)) y in
    let most : block_prefix_len a.block ≤ block_prefix_len b.block =
    in-rest (λ o. Leads addr o → block_prefix_len o.block ≤ block_prefix_len b.block) m a p (subst (All (λ o. Leads addr o → block_prefix_len o.block ≤ block_prefix_len b.block)) (sym rest) k) x in
    absurd (omega (arith, less, most))
split-once addr a b x y (s ∷ m) (t ∷ n) p q e h i j k =
    split-once addr a b x y m n p q (ap (drop 1) e) (λ l d below. h (suc l) d (omega (arith, below))) i (λ l d below. j (suc l) d (omega (arith, below))) k

route-once : (routes : List Route) (addr : IpAddress) (a b : Route) → IsChosen routes addr a → IsChosen routes addr b → a ≡ b
route-once routes addr a b x y =
    split-once addr a b x.leads y.leads x.before y.before x.after y.after (sym x.listed ∙ y.listed) x.shorter x.no_longer y.shorter y.no_longer

led : (routes : List Route) (addr : IpAddress) (a : Route) → All (λ route. ¬ Leads addr route) routes → ¬ IsChosen routes addr a
led routes addr a none x = in-rest (λ o. ¬ Leads addr o) x.before a x.after (subst (All (λ route. ¬ Leads addr route)) x.listed none) x.leads

pub one_route : (routes : List Route) (addr : IpAddress) (a b : Option Route) → MatchOption a (All (λ route. ¬ Leads addr route) routes) (IsChosen routes addr)
    → MatchOption b (All (λ route. ¬ Leads addr route) routes) (IsChosen routes addr) → a ≡ b
one_route routes addr (Some a) (Some b) x y = ap Some (route-once routes addr a b x y)
one_route routes addr (Some a) None x y = absurd (led routes addr a y x)
one_route routes addr None (Some b) x y = absurd (led routes addr b x y)
one_route routes addr None None x y = refl

pub index_route : (routes : List Route) (nodes : List Node) (addr : IpAddress) (a b : Option Route) → IsIndex (map block_of routes) nodes
    → (IsIndex (map block_of routes) nodes → MatchOption a (All (λ route. ¬ Leads addr route) routes) (IsChosen routes addr))
    → (IsIndex (map block_of routes) nodes → MatchOption b (All (λ route. ¬ Leads addr route) routes) (IsChosen routes addr)) → a ≡ b
index_route routes nodes addr a b index x y = one_route routes addr a b (x index) (y index)

-- ---- places

place-led : (blocks : List IpCidr) (addr : IpAddress) (i : ℕ) → All (λ block. ¬ IsIn block addr) blocks → ¬ IsChosenAt blocks addr i
place-led blocks addr i none a = none i _ a.within a.leads

place-once : (blocks : List IpCidr) (addr : IpAddress) (a b : Option ℕ) → MatchOption a (All (λ block. ¬ IsIn block addr) blocks) (IsChosenAt blocks addr)
    → MatchOption b (All (λ block. ¬ IsIn block addr) blocks) (IsChosenAt blocks addr) → a ≡ b
place-once blocks addr (Some i) (Some j) x y = ap Some (one_block blocks addr i j x y)
place-once blocks addr (Some i) None x y = absurd (place-led blocks addr i y x)
place-once blocks addr None (Some j) x y = absurd (place-led blocks addr j x y)
place-once blocks addr None None x y = refl

pub one_place : (nodes : List Node) (addr : IpAddress) (a b : Option ℕ)
    → ((blocks : List IpCidr) → IsIndex blocks nodes → MatchOption a (All (λ block. ¬ IsIn block addr) blocks) (IsChosenAt blocks addr))
    → ((blocks : List IpCidr) → IsIndex blocks nodes → MatchOption b (All (λ block. ¬ IsIn block addr) blocks) (IsChosenAt blocks addr))
    → (blocks : List IpCidr) → IsIndex blocks nodes → a ≡ b
one_place nodes addr a b x y blocks index = place-once blocks addr a b (x blocks index) (y blocks index)

-- ---- sources

back-once : (routes : List Route) (addr : IpAddress) (a b : Option ℕ) → IsBack routes addr a → IsBack routes addr b → a ≡ b
back-once routes addr None None v w = refl
back-once routes addr None (Some n) none (route, chosen, is) = absurd (led routes addr route none chosen)
back-once routes addr (Some n) None (route, chosen, is) none = absurd (led routes addr route none chosen)
back-once routes addr (Some n) (Some m) (r, chosen, is) (s, again, also) =
    ap Some (sym is ∙ ap (λ (o : Route). o.interface) (route-once routes addr r s chosen again) ∙ also)

pub one_back : (routes : List Route) (src : IpAddress) (interface : ℕ) (a b : Option SourceFault)
    → (back : Option ℕ) × IsBack routes src back × ChecksSource src interface back a → (back : Option ℕ) × IsBack routes src back × ChecksSource src interface back b → a ≡ b
one_back routes src interface a b (back, to, v) (way, back_to, w) =
    one_fault src interface way a b (subst (λ o. ChecksSource src interface o a) (back-once routes src back way to back_to) v) w

pub index_fault : (routes : List Route) (nodes : List Node) (src : IpAddress) (interface : ℕ) (a b : Option SourceFault) → IsIndex (map block_of routes) nodes
    → (IsIndex (map block_of routes) nodes → (back : Option ℕ) × IsBack routes src back × ChecksSource src interface back a)
    → (IsIndex (map block_of routes) nodes → (back : Option ℕ) × IsBack routes src back × ChecksSource src interface back b) → a ≡ b
index_fault routes nodes src interface a b index x y = one_back routes src interface a b (x index) (y index)

-- ---- errors

pub one_error : (ours : Interface) (frame : List ℕ) (problem : Problem) (a b : Option MessageFrame) → Gives (Tells ours frame problem) a → Gives (Tells ours frame problem) b
    → MatchOption a (b ≡ None) (λ f. MatchOption b ⊥ (λ g. (f.header ≡ g.header) × (values_of f ≡ values_of g)))
one_error ours frame problem (Some f) (Some g) (_, (v, _, e)) (_, (w, _, k)) =
    error-once ours frame (message_of problem) f.header g.header (values_of f) (values_of g) (v, e) (w, k)
one_error ours frame problem (Some f) None (_, told) never = never f.header (values_of f) told
one_error ours frame problem None (Some g) never (_, told) = absurd (never g.header (values_of g) told)
one_error ours frame problem None None x y = refl
