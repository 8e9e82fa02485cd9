-- The hints of an index, from those of the nodes of either version.
use Rattle.std.proofs.Common.{ℕ, ◌≡◌, ◌≢◌, ◌∙◌, ◌⊎◌, ◌+◌, ◌-◌, ◌*◌, ◌/◌, ◌%◌, ◌^◌, ◌==◌, ◌<◌, ◌≤◌, Bool, true, false, List, ◌++◌, below_more, get_or-set_same, inl, inr, length, map, refl, set, take, drop, sym, ap, subst, arith}
use Rattle.std.proofs.lemmas.Bool.{eqb-true}
use Rattle.std.proofs.lemmas.List.{get_or-append-add, get_or-drop, get_or-take, get_or_append_left, get_or_default, length-drop, length-take-le}
use Rattle.std.proofs.Math.Nat.{div-mul-le_self}
use Rattle.std.specs.List.Sorted.{IsNonDecreasingBy, IsPartitionPoint, IsPartitionedBy, IsPermutation}
use Rattle.app_router.proofs.Elements.{block_for}
use Rattle.app_router.proofs.Finds.{first_bits-lt}
use Rattle.app_router.proofs.HintPlaces.{hint_other, same_high, same_len, same_version}
use Rattle.app_router.proofs.Links.{AreAlike, AreUnmarkedAlike, alike_at, alike_length, alike_places}
use Rattle.app_router.specs.Hints.{HasPlaces, IsBegin, IsHinted, IsInOrder, IsUnhinted, high_at, hint_at, part_at, part_count, part_of, place_in}
use Rattle.app_router.specs.Index.{IsBlock, IsFilled, block_at, first_bits, node_at, node_of, node_with, place, unlinked, version_number}
use Rattle.app_router.specs.declared.index.Node.{Node}
use Rattle.ip_wire.specs.IpCidr.{block_address, block_prefix_len}
use Rattle.ip_wire.specs.declared.IpAddress.{IpAddress}
use Rattle.ip_wire.specs.declared.IpAddress.TheVariants as ip
use Rattle.ip_wire.specs.declared.IpCidr.{IpCidr}

-- ---- the nodes of one version

-- whether a node is of IPv4
abbrev pub is_ipv4 : Node → Bool
is_ipv4 node = node.version == 4

pub parted : (nodes : List Node) → IsInOrder nodes → IsPartitionedBy is_ipv4 nodes
parted nodes o i j d le below four =
    let z = node_with 0 0 0 0 in
    let one = get_or_default nodes j d z below in
    let two = get_or_default nodes i d z (omega (arith, le, below)) in
    let known : (node_at nodes j).version ≡ 4 = eqb-true (node_at nodes j).version 4 (subst (λ n. is_ipv4 n ≡ true) one four) in
    subst (λ n. is_ipv4 n ≡ true) (sym two) (ap (λ v. v == 4) (o.ipv4_first i j le below known))

-- the nodes before this index are of IPv4, the others are not
pub record IsBorder (nodes : List Node) (n : ℕ) : Type 0 where
  pub within : n ≤ length nodes
  pub ipv4 : (k : ℕ) → k < n → (node_at nodes k).version ≡ 4
  pub ipv6 : (k : ℕ) → n ≤ k → k < length nodes → (node_at nodes k).version ≢ 4

pub border : (nodes : List Node) (n : ℕ) → n ≤ length nodes → IsPartitionPoint (λ y. is_ipv4 y ≡ true) (λ y. is_ipv4 y ≡ false) nodes n → IsBorder nodes n
border nodes n within (before, others) =
    let z = node_with 0 0 0 0 in
    record {
      within = within;
      ipv4 = λ k less. eqb-true (node_at nodes k).version 4 (before k z (omega arith) less);
      ipv6 = λ k from below e. let off = others k z from below in let on : is_ipv4 (node_at nodes k) ≡ true = ap (λ v. v == 4) e in absurd (cc);
    }

pub front_unhinted : (nodes : List Node) (n : ℕ) → IsInOrder nodes → IsBorder nodes n → IsUnhinted (take n nodes)
front_unhinted nodes n o b =
    let z = node_with 0 0 0 0 in
    let within = b.within in
    let size : length (take n nodes) ≡ n = length-take-le n nodes within in
    let at : (k : ℕ) → k < n → node_at (take n nodes) k ≡ node_at nodes k = λ k less. get_or-take n nodes k z less in
    let hints : (k : ℕ) → k < n → hint_at (take n nodes) k ≡ hint_at nodes k = λ k less. ap (λ (n : Node). n.hint) (at k less) in
    let highs : (k : ℕ) → k < n → high_at (take n nodes) k ≡ high_at nodes k = λ k less. ap (λ (n : Node). n.high) (at k less) in
    record {
      ordered = λ i j le below.
          let last : j < n = omega (arith, below, size) in
          let first : i < n = omega (arith, le, last) in
          let order = o.ordered i j le (omega (arith, last, within)) (λ e. b.ipv4 j last, λ e. b.ipv4 i first) in
          let one = highs i first in
          let two = highs j last in
          omega (arith, order, one, two);
      none = λ k below.
          let less : k < n = omega (arith, below, size) in
          hints k less ∙ o.none k (omega (arith, less, within));
    }

pub back_unhinted : (nodes : List Node) (n : ℕ) → IsInOrder nodes → IsBorder nodes n → IsUnhinted (drop n nodes)
back_unhinted nodes n o b =
    let z = node_with 0 0 0 0 in
    let size : length (drop n nodes) ≡ length nodes - n = length-drop n nodes in
    let at : (k : ℕ) → node_at (drop n nodes) k ≡ node_at nodes (n + k) = λ k. get_or-drop n nodes k z in
    let hints : (k : ℕ) → hint_at (drop n nodes) k ≡ hint_at nodes (n + k) = λ k. ap (λ (n : Node). n.hint) (at k) in
    let highs : (k : ℕ) → high_at (drop n nodes) k ≡ high_at nodes (n + k) = λ k. ap (λ (n : Node). n.high) (at k) in
    record {
      ordered = λ i j le below.
          let last : n + j < length nodes = omega (arith, below, size) in
          let never = λ (k : ℕ) (less : n + k < length nodes) (e : (node_at nodes (n + k)).version ≡ 4). b.ipv6 (n + k) (omega arith) less e in
          let order = o.ordered (n + i) (n + j) (omega (arith, le)) last (λ e. absurd (never i (omega (arith, le, last)) e), λ e. absurd (never j last e)) in
          let one = highs i in
          let two = highs j in
          omega (arith, order, one, two);
      none = λ k below. hints k ∙ o.none (n + k) (omega (arith, below, size));
    }

-- ---- the whole index

-- nodes with the same first bits, and the same hints but for the first one, have the same places
pub places_kept : (xs ys : List Node) → length xs ≡ length ys → ((k : ℕ) → k < length xs → high_at xs k ≡ high_at ys k)
    → ((k : ℕ) → 0 < k → k < length xs → hint_at xs k ≡ hint_at ys k) → HasPlaces xs → HasPlaces ys
places_kept xs ys size highs hints has many p le =
    let n = length xs in
    let counts : part_count (length ys) ≡ part_count n = ap part_count (sym size) in
    let b = has (omega (arith, size, many)) p (omega (arith, le, counts)) in
    let hint = hints (p + 1) (omega arith) (omega (arith, le, counts, many, size)) in
    let place : place_in n (hint_at xs (p + 1)) ≡ place_in (length ys) (hint_at ys (p + 1)) =
    ap (place_in n) hint ∙ ap (λ (k : ℕ). place_in k (hint_at ys (p + 1))) size
    in
    let part : (i : ℕ) → i < n → part_at xs i ≡ part_at ys i =
    λ i below. ap (part_of (part_count n)) (highs i below) ∙ ap (λ (c : ℕ). part_of c (high_at ys i)) (sym counts)
    in
    let within = b.within in
    subst (IsBegin ys p) place (record {
      within = omega (arith, within, size);
      before = λ i less below. let at = b.before i less (omega (arith, below, size)) in let same = part i (omega (arith, below, size)) in omega (arith, at, same);
      others = λ i from below. let at = b.others i from (omega (arith, below, size)) in let same = part i (omega (arith, below, size)) in omega (arith, at, same);
    })

-- the nodes of both versions with their hints, and the first hint
pub hinted : (old front back new : List Node) (n : ℕ) → IsBorder old n → AreUnmarkedAlike front (take n old) → AreUnmarkedAlike back (drop n old)
    → AreUnmarkedAlike new (front ++ back) → AreUnmarkedAlike new old → hint_at new 0 ≡ n → ((k : ℕ) → k ≢ 0 → hint_at new k ≡ hint_at (front ++ back) k)
    → HasPlaces front → HasPlaces back → IsHinted new
hinted old front back new n b first second whole same hint others has_front has_back =
    let z = node_with 0 0 0 0 in
    let within = b.within in
    let size : length new ≡ length old = same_len new old same in
    let front_len : length front ≡ n = same_len front (take n old) first ∙ length-take-le n old within in
    let back_len : length back ≡ length old - n = same_len back (drop n old) second ∙ length-drop n old in
    let left : (k : ℕ) → k < n → node_at (front ++ back) k ≡ node_at front k = λ k less. get_or_append_left front back z k (omega (arith, less, front_len)) in
    let right : (k : ℕ) → node_at (front ++ back) (n + k) ≡ node_at back k =
    λ k. ap (λ (m : ℕ). node_at (front ++ back) (m + k)) (sym front_len) ∙ get_or-append-add front back k z in
    let places_front : HasPlaces (take n new) = places_kept front (take n new) (front_len ∙ sym (length-take-le n new (omega (arith, within, size))))
    (λ k below. let less : k < n = omega (arith, below, front_len) in
    sym (ap (λ (m : Node). m.high) (get_or-take n new k z less) ∙ same_high new (front ++ back) k whole ∙ ap (λ (m : Node). m.high) (left k less)))
    (λ k some below. let less : k < n = omega (arith, below, front_len) in
    sym (ap (λ (m : Node). m.hint) (get_or-take n new k z less) ∙ others k (λ e. omega (arith, e, some)) ∙ ap (λ (m : Node). m.hint) (left k less)))
    has_front in
    let places_back : HasPlaces (drop n new) = places_kept back (drop n new) (back_len ∙ ap (λ (m : ℕ). m - n) (sym size) ∙ sym (length-drop n new))
    (λ k below. sym (ap (λ (m : Node). m.high) (get_or-drop n new k z) ∙ same_high new (front ++ back) (n + k) whole ∙ ap (λ (m : Node). m.high) (right k)))
    (λ k some below. sym (ap (λ (m : Node). m.hint) (get_or-drop n new k z) ∙ others (n + k) (λ e. omega (arith, e, some)) ∙ ap (λ (m : Node). m.hint) (right k)))
    has_back in
    record {
      within = omega (arith, hint, within, size);
      ipv4 = λ k less. same_version new old k same ∙ b.ipv4 k (omega (arith, less, hint));
      ipv6 = λ k from below e. b.ipv6 k (omega (arith, from, hint)) (omega (arith, below, size)) (sym (same_version new old k same) ∙ e);
      ipv4_places = subst (λ (m : ℕ). HasPlaces (take m new)) (sym hint) places_front;
      ipv6_places = subst (λ (m : ℕ). HasPlaces (drop m new)) (sym hint) places_back;
    }

-- ---- the nodes of blocks, with links

-- one node more without a hint
pub unhinted_more : (xs : List Node) (i above : ℕ) (node : Node) → i < length xs → ((k : ℕ) → k < i → hint_at xs k ≡ 0)
    → (k : ℕ) → k < i + 1 → hint_at (set xs i (record node { above = above; hint = 0 })) k ≡ 0
unhinted_more xs i above node within none =
    let ys = set xs i (record node { above = above; hint = 0 }) in
    below_more (λ k. hint_at ys k ≡ 0) i
    (λ k less. hint_other xs i k (record node { above = above; hint = 0 }) (λ e. omega (arith, e, less)) ∙ none k less)
    (ap (λ (n : Node). n.hint) (get_or-set_same xs i (record node { above = above; hint = 0 }) (node_with 0 0 0 0) within))

-- the numbers of a node fit
pub record HasNumbers (node : Node) : Type 0 where
  pub version : (node.version ≡ 4) ⊎ (node.version ≡ 6)
  pub high : node.high < 2 ^ 64
  pub low : node.low < 2 ^ 64

pub version-is : (addr : IpAddress) → (version_number addr ≡ 4) ⊎ (version_number addr ≡ 6)
version-is (ip.Ipv4 octets) = inl refl
version-is (ip.Ipv6 octets) = inr refl

pub has_numbers : (block : IpCidr) (i : ℕ) (node : Node) → IsBlock block → unlinked node ≡ node_of block i → HasNumbers node
has_numbers block i node valid is =
    let bits = first_bits (block_address block) / 2 ^ (128 - block_prefix_len block) * 2 ^ (128 - block_prefix_len block) in
    let fits : bits < 2 ^ 128 =
    let most = div-mul-le_self (first_bits (block_address block)) (2 ^ (128 - block_prefix_len block)) in
    let all = first_bits-lt (block_address block) valid.0 in
    omega (arith, most, all)
    in
    let high : node.high ≡ bits / 2 ^ 64 = ap (λ (n : Node). n.high) is in
    let low : node.low ≡ bits % 2 ^ 64 = ap (λ (n : Node). n.low) is in
    let version : node.version ≡ version_number (block_address block) = ap (λ (n : Node). n.version) is in
    record {
      version = elim (version-is (block_address block)) [ inl e ↦ inl (version ∙ e) | inr e ↦ inr (version ∙ e) ];
      high = omega (arith, high, fits);
      low = omega (arith, low);
    }

pub in_order : (blocks : List IpCidr) (made sorted nodes : List Node) → IsFilled blocks made → IsPermutation (map unlinked made) (map unlinked sorted)
    → IsNonDecreasingBy place sorted → AreAlike nodes sorted → ((k : ℕ) → k < length nodes → hint_at nodes k ≡ 0) → IsInOrder nodes
in_order blocks made sorted nodes filled moved ordered alike none =
    let z = node_with 0 0 0 0 in
    let size : length nodes ≡ length sorted = alike_length nodes sorted alike in
    let places : (i j : ℕ) → i ≤ j → j < length nodes → place (node_at nodes i) ≤ place (node_at nodes j) =
    λ i j le below. alike_places sorted nodes (sym alike) ordered i j z le below in
    let numbers : (k : ℕ) → k < length nodes → HasNumbers (node_at nodes k) =
    λ k below.
    let found = block_for blocks made sorted k filled moved (omega (arith, below, size)) in
    has_numbers (block_at blocks found.0) found.0 (node_at nodes k) (filled.each found.0 found.1).0 (alike_at nodes sorted k z alike ∙ found.2)
    in
    record {
      ipv4_first = λ i j le below four.
          let a = numbers i (omega (arith, le, below)) in
          let b = numbers j below in
          let order = places i j le below in
          let high = b.high in
          let low = b.low in
          elim a.version [ inl e ↦ e | inr e ↦ absurd (omega (arith, order, four, e, high, low)) ];
      ordered = λ i j le below same.
          let a = numbers i (omega (arith, le, below)) in
          let b = numbers j below in
          let order = places i j le below in
          let low = b.low in
          let versions : (node_at nodes i).version ≡ (node_at nodes j).version = elim a.version [
            | inl e ↦ e ∙ sym (same.0 e)
            | inr e ↦ elim b.version [ inl f ↦ absurd (let g = same.1 f in omega (arith, e, g)) | inr f ↦ e ∙ sym f ]
          ] in
          omega (arith, order, versions, low);
      none = none;
    }
