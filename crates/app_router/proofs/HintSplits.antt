-- The places in the hints of a part are around its addresses.
use Rattle.std.proofs.Common.{ℕ, ◌≡◌, ◌∙◌, ◌+◌, ◌-◌, ◌*◌, ◌/◌, ◌%◌, ◌^◌, ◌<◌, ◌≤◌, List, inl, inr, ap, arith, length, mul-le-mul_right, mul-lt-mul_of_pos_right, subst, sym, take, drop}
use Rattle.std.proofs.lemmas.Bool.{cases_lt}
use Rattle.std.proofs.lemmas.List.{get_or-drop, get_or-take, length-drop, length-take-le}
use Rattle.app_router.proofs.Elements.{block_for}
use Rattle.app_router.proofs.Finds.{first_bits-lt}
use Rattle.app_router.proofs.HintOrder.{HasNumbers, has_numbers, version-is}
use Rattle.app_router.specs.Hints.{HasPlaces, IsBegin, IsHinted, high_at, hint_at, offset_by, part_count, part_for, part_of, place_in, places_of}
use Rattle.app_router.specs.Index.{IsIndex, IsSplit, block_at, first_bits, node_at, node_with, target_of, version_number}
use Rattle.ip_wire.specs.IpAddress.{IsAddress}
use Rattle.ip_wire.specs.declared.IpAddress.{IpAddress}
use Rattle.ip_wire.specs.declared.IpCidr.{IpCidr}
use Rattle.app_router.specs.declared.index.Node.{Node}

-- each number of 64 bits is in a part
part_below : (count x : ℕ) → 0 < count → x < 2 ^ 64 → part_of count x < count
part_below count x some fits =
    let less : x * count < 2 ^ 64 * count = mul-lt-mul_of_pos_right fits some in
    omega (arith, less)

-- nodes with smaller first bits are in no later part
part_mono : (count x y : ℕ) → x ≤ y → part_of count x ≤ part_of count y
part_mono count x y le =
    let more : x * count ≤ y * count = mul-le-mul_right count le in
    omega (arith, more)

-- the places of a part are in order, and its numbers are between them
pub record IsAround (nodes : List Node) (x low high : ℕ) : Type 0 where
  pub order : low ≤ high
  pub within : high ≤ length nodes
  pub before : (k : ℕ) → k < low → high_at nodes k < x
  pub following : (k : ℕ) → high ≤ k → k < length nodes → x < high_at nodes k

pub places_around : (nodes : List Node) (target : Node) → HasPlaces nodes → 12 < length nodes → target.high < 2 ^ 64
    → IsAround nodes target.high (places_of nodes (part_for nodes target)).0 (places_of nodes (part_for nodes target)).1
places_around nodes target has many fits =
    let count = part_count (length nodes) in
    let some : 0 < count = omega (arith, many) in
    let p = part_for nodes target in
    let below : p < count = part_below count target.high some fits in
    let low = (places_of nodes p).0 in
    let high = (places_of nodes p).1 in
    let first : IsBegin nodes p low = has many p (omega (arith, below)) in
    let two : p + 1 + 1 ≡ p + 2 = omega arith in
    let last : IsBegin nodes (p + 1) high = subst (λ (k : ℕ). IsBegin nodes (p + 1) (place_in (length nodes) (hint_at nodes k))) two (has many (p + 1) (omega (arith, below))) in
    let in_low = first.within in
    let in_high = last.within in
    record {
      order = elim (cases_lt high low) [
        | inr le ↦ le
        | inl less ↦
            let one = first.before high less (omega (arith, less, in_low)) in
            let two = last.others high (omega arith) (omega (arith, less, in_low)) in
            absurd (omega (arith, one, two))
      ];
      within = in_high;
      before = λ k less.
          let part = first.before k less (omega (arith, less, in_low)) in
          elim (cases_lt (high_at nodes k) target.high) [
            | inl is ↦ is
            | inr le ↦ absurd (let more = part_mono count target.high (high_at nodes k) le in omega (arith, part, more))
          ];
      following = λ k from inside.
          let part = last.others k from inside in
          elim (cases_lt target.high (high_at nodes k)) [
            | inl is ↦ is
            | inr le ↦ absurd (let more = part_mono count (high_at nodes k) target.high le in omega (arith, part, more))
          ];
    }

-- ---- the nodes of an index

pub index_numbers : (blocks : List IpCidr) (nodes : List Node) → IsIndex blocks nodes → (k : ℕ) → k < length nodes → HasNumbers (node_at nodes k)
index_numbers blocks nodes index k below =
    let found = block_for blocks index.made nodes k index.filled index.moved below in
    has_numbers (block_at blocks found.0) found.0 (node_at nodes k) (index.filled.each found.0 found.1).0 found.2

pub target_numbers : (addr : IpAddress) (target : Node) → IsAddress addr → target ≡ target_of addr → HasNumbers target
target_numbers addr target valid is =
    let fits = first_bits-lt addr valid in
    let high : target.high ≡ first_bits addr / 2 ^ 64 = ap (λ (n : Node). n.high) is in
    let low : target.low ≡ first_bits addr % 2 ^ 64 = ap (λ (n : Node). n.low) is in
    let version : target.version ≡ version_number addr = ap (λ (n : Node). n.version) is in
    record {
      version = elim (version-is addr) [ inl e ↦ inl (version ∙ e) | inr e ↦ inr (version ∙ e) ];
      high = omega (arith, high, fits);
      low = omega (arith, low);
    }

-- the places of a part are around an address of IPv4 among all nodes
pub record IsSplitBy (nodes : List Node) (low high : ℕ) (target : Node) : Type 0 where
  pub order : low ≤ high
  pub within : high ≤ length nodes
  pub split : IsSplit nodes low high target

pub ipv4_split : (nodes : List Node) (target : Node) → IsHinted nodes → ((k : ℕ) → k < length nodes → HasNumbers (node_at nodes k)) → HasNumbers target → target.version ≡ 4
    → 12 < length (take (hint_at nodes 0) nodes)
    → IsSplitBy nodes (places_of (take (hint_at nodes 0) nodes) (part_for (take (hint_at nodes 0) nodes) target)).0
    (places_of (take (hint_at nodes 0) nodes) (part_for (take (hint_at nodes 0) nodes) target)).1 target
ipv4_split nodes target hinted numbers t four many =
    let z = node_with 0 0 0 0 in
    let n = hint_at nodes 0 in
    let part = take n nodes in
    let inside = hinted.within in
    let size : length part ≡ n = length-take-le n nodes inside in
    let a = places_around part target hinted.ipv4_places many t.high in
    let order = a.order in
    let within = a.within in
    let low = (places_of part (part_for part target)).0 in
    let high = (places_of part (part_for part target)).1 in
    let same : (k : ℕ) → k < n → high_at part k ≡ high_at nodes k = λ k less. ap (λ (m : Node). m.high) (get_or-take n nodes k z less) in
    let t_low = t.low in
    let t_high = t.high in
    record {
      order = order;
      within = omega (arith, within, size, inside);
      split = (
        λ k less.
            let early : k < n = omega (arith, less, order, within, size) in
            let smaller = a.before k less in
            let is = same k early in
            let version = hinted.ipv4 k early in
            let fits = (numbers k (omega (arith, early, inside))).low in
            omega (arith, smaller, is, version, fits, four),
        λ k from below. elim (cases_lt k n) [
          | inl early ↦
              let larger = a.following k from (omega (arith, early, size)) in
              let is = same k early in
              let version = hinted.ipv4 k early in
              omega (arith, larger, is, version, four, t_low)
          | inr later ↦ elim (numbers k below).version [
            | inl e ↦ absurd (hinted.ipv6 k later below e)
            | inr e ↦ omega (arith, e, four, t_low, t_high)
          ]
        ],
      );
    }

-- a node of IPv6
six : (nodes : List Node) (k : ℕ) → IsHinted nodes → ((k : ℕ) → k < length nodes → HasNumbers (node_at nodes k)) → hint_at nodes 0 ≤ k → k < length nodes → (node_at nodes k).version ≡ 6
six nodes k hinted numbers from below = elim (numbers k below).version [ inl e ↦ absurd (hinted.ipv6 k from below e) | inr e ↦ e ]

-- the same for an address of IPv6
pub ipv6_split : (nodes : List Node) (target : Node) → IsHinted nodes → ((k : ℕ) → k < length nodes → HasNumbers (node_at nodes k)) → HasNumbers target → target.version ≡ 6
    → 12 < length (drop (hint_at nodes 0) nodes) → length nodes < 2 ^ 64
    → IsSplitBy nodes (offset_by (hint_at nodes 0) (places_of (drop (hint_at nodes 0) nodes) (part_for (drop (hint_at nodes 0) nodes) target))).0
    (offset_by (hint_at nodes 0) (places_of (drop (hint_at nodes 0) nodes) (part_for (drop (hint_at nodes 0) nodes) target))).1 target
ipv6_split nodes target hinted numbers t version many fits =
    let z = node_with 0 0 0 0 in
    let n = hint_at nodes 0 in
    let part = drop n nodes in
    let inside = hinted.within in
    let size : length part ≡ length nodes - n = length-drop n nodes in
    let a = places_around part target hinted.ipv6_places many t.high in
    let order = a.order in
    let within = a.within in
    let low = (places_of part (part_for part target)).0 in
    let high = (places_of part (part_for part target)).1 in
    let low_is : (n + low) % 2 ^ 64 ≡ n + low = omega (arith, order, within, size, fits, inside) in
    let high_is : (n + high) % 2 ^ 64 ≡ n + high = omega (arith, within, size, fits, inside) in
    let same : (k : ℕ) → n ≤ k → high_at part (k - n) ≡ high_at nodes k =
    λ k from. let at : n + (k - n) ≡ k = omega (arith, from) in ap (λ (m : Node). m.high) (get_or-drop n nodes (k - n) z) ∙ ap (high_at nodes) at in
    let t_low = t.low in
    let plain : IsSplitBy nodes (n + low) (n + high) target = record {
      order = omega (arith, order);
      within = omega (arith, within, size, inside);
      split = (
        λ k less.
            let below : k < length nodes = omega (arith, less, order, within, size, inside) in
            let k_low = (numbers k below).low in
            let k_high = (numbers k below).high in
            elim (cases_lt k n) [
              | inl early ↦ let four = hinted.ipv4 k early in omega (arith, four, version, k_low, k_high)
              | inr later ↦
                  let smaller = a.before (k - n) (omega (arith, less, later)) in
                  let is = same k later in
                  let here = six nodes k hinted numbers later below in
                  omega (arith, smaller, is, here, version, k_low)
            ],
        λ k from below.
            let later : n ≤ k = omega (arith, from) in
            let larger = a.following (k - n) (omega (arith, from)) (omega (arith, below, later, size)) in
            let is = same k later in
            let here = six nodes k hinted numbers later below in
            omega (arith, larger, is, here, version, t_low),
      );
    } in
    subst (λ (m : ℕ). IsSplitBy nodes m ((n + high) % 2 ^ 64) target) (sym low_is) (subst (λ (m : ℕ). IsSplitBy nodes (n + low) m target) (sym high_is) plain)
