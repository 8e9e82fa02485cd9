-- The addresses of a range of a table have one answer, as no block begins or ends between them.
use Rattle.std.proofs.Common.{ℕ, ◌≡◌, ◌≢◌, ◌↔◌, ◌∙◌, ◌+◌, ◌-◌, ◌*◌, ◌/◌, ◌%◌, ◌^◌, ◌<◌, ◌≤◌, ◌⊎◌, inl, inr, List, length, refl, sym, ap, subst, arith}
use Rattle.std.specs.Int.{bytes_high_first}
use Rattle.std.specs.List.Sorted.{IsNonDecreasingBy, IsPermutation}
use Rattle.std.proofs.Math.Nat.{div-eq_of_lt-le, div-mul-le_self, lt-div-mul-add, mul_assoc}
use Rattle.std.proofs.lemmas.Bool.{cases_lt, cases_order}
use Rattle.std.proofs.lemmas.List.{get_or_default}
use Rattle.std.proofs.lemmas.List.Elements.{Contains-get_or}
use Rattle.std.proofs.lemmas.List.Sorted.{Contains-permutation, IsPermutation-sym}
use Rattle.std.proofs.lemmas.Nat.{pow-add, pow_pos}
use Rattle.app_router.proofs.Elements.{block_for, node_for}
use Rattle.app_router.proofs.Finds.{agrees, number_of-lt, raised}
use Rattle.app_router.specs.Index.{IsBlock, IsChosenAt, IsIndex, block_at, node_at, node_of, unlinked}
use Rattle.app_router.specs.Table.{AreRanges, Answers, IsAnswer, IsBeside, IsBounded, IsStart, IsUndivided, Spares, SparesNode, answer_of, range_at, start_of}
use Rattle.app_router.specs.declared.index.Node.{Node}
use Rattle.ip_wire.proofs.ByteLists.{AreBytes-bytes_high_first}
use Rattle.ip_wire.specs.Bytes.{IsByteArray}
use Rattle.ip_wire.specs.IpCidr.{IsIn}
use Rattle.ip_wire.specs.Prefix.{number_of}
use Rattle.ip_wire.specs.declared.IpAddress.{IpAddress}
use Rattle.ip_wire.specs.declared.IpAddress.TheVariants as ip
use Rattle.ip_wire.specs.declared.IpCidr.{IpCidr}
use Rattle.ip_wire.specs.declared.IpCidr.TheVariants.{Ipv4, Ipv6}

-- ---- where blocks begin and end

-- no range begins after the first address, up to the second
abbrev IsGap : List ℕ → ℕ → ℕ → Type 0
IsGap ranges f a = (s : ℕ) → IsStart ranges s → (s ≤ f) ⊎ (a < s)

-- the numbers that have a quotient
quotient_is : (q x d : ℕ) → 0 < d → (q ≡ x / d) ↔ ((q * d ≤ x) × (x < q * d + d))
quotient_is q x d pos = (
  λ same. let e : q * d ≡ x / d * d = ap (λ q. q * d) same in (omega (arith, div-mul-le_self x d, e), omega (arith, lt-div-mul-add {a = x} pos, e)),
  λ both. let e : (q + 1) * d ≡ q * d + d = omega arith in sym (div-eq_of_lt-le {k = q} d both.0 (omega (arith, both.1, e))),
)

-- a block that neither begins nor ends between two addresses contains both or neither
same_quotient : (q d f a : ℕ) → 0 < d → f ≤ a → a < 2 ^ 32 → (q * d ≤ f) ⊎ (a < q * d) → ((q * d + d) % 2 ^ 32 ≤ f) ⊎ (a < (q * d + d) % 2 ^ 32)
    → (q ≡ f / d) ↔ (q ≡ a / d)
same_quotient q d f a pos le fits begins ends =
    let of_f = quotient_is q f d pos in
    let of_a = quotient_is q a d pos in (
      λ same. let (low, high) = of_f.0 same in
          of_a.1 (omega (arith, low, le), elim ends [ inl before ↦ omega (arith, before, high, fits) | inr after ↦ omega (arith, after) ]),
      λ same. let (low, high) = of_a.0 same in
          of_f.1 (elim begins [ inl before ↦ before | inr after ↦ absurd (omega (arith, after, low)) ], omega (arith, high, le)),
    )

-- the first bits of the node of an IPv4 block
high_is : (x n : ℕ) → n ≤ 32 → x * 2 ^ 96 / 2 ^ (128 - n) * 2 ^ (128 - n) / 2 ^ 64 ≡ x / 2 ^ (32 - n) * 2 ^ (32 - n) * 2 ^ 32
high_is x n le =
    let s = 32 - n in
    let q = x / 2 ^ s in
    let e : 128 - n ≡ s + 96 = omega (arith, le) in
    let power : q * 2 ^ (128 - n) ≡ q * 2 ^ s * 2 ^ 96 = ap (λ k. q * 2 ^ k) e ∙ ap (λ p. q * p) (pow-add 2 s 96) ∙ sym (mul_assoc q (2 ^ s) (2 ^ 96)) in
    let high : q * 2 ^ s * 2 ^ 96 / 2 ^ 64 ≡ q * 2 ^ s * 2 ^ 32 = omega arith in
    ap (λ q. q * 2 ^ (128 - n) / 2 ^ 64) (raised x n le) ∙ ap (λ m. m / 2 ^ 64) power ∙ high

-- the address after its last
following_is : (h m n : ℕ) → n ≤ 32 → h ≡ m * 2 ^ 32 → (h + 2 ^ (64 - n)) % 2 ^ 64 / 2 ^ 32 ≡ (m + 2 ^ (32 - n)) % 2 ^ 32
following_is h m n le is =
    let e : 64 - n ≡ 32 - n + 32 = omega (arith, le) in
    let power : 2 ^ (64 - n) ≡ 2 ^ (32 - n) * 2 ^ 32 = ap (λ k. 2 ^ k) e ∙ pow-add 2 (32 - n) 32 in
    omega (arith, is, power)

-- the same of the block of a node, if no range begins between the addresses
alike : (block : IpCidr) (i : ℕ) (node : Node) (ranges f a : List ℕ) → IsBlock block → unlinked node ≡ node_of block i → IsBounded ranges node
    → IsByteArray 4 f → IsByteArray 4 a → number_of f ≤ number_of a → IsGap ranges (number_of f) (number_of a)
    → IsIn block (ip.Ipv4 f) ↔ IsIn block (ip.Ipv4 a)
alike (Ipv6 block) i node ranges f a valid is bounded are_f are_a le gap = (λ member. member, λ member. member)
alike (Ipv4 block) i node ranges f a (are, fits) is bounded are_f are_a le gap =
    let n = block.prefix_len in
    let d = 2 ^ (32 - n) in
    let m = number_of block.address / d * d in
    let high : node.high ≡ m * 2 ^ 32 = ap (λ (node : Node). node.high) is ∙ high_is (number_of block.address) n fits in
    let len : node.prefix_len ≡ n = ap (λ (node : Node). node.prefix_len) is in
    let starts = bounded (ap (λ (node : Node). node.version) is) in
    let first : IsStart ranges m = subst (IsStart ranges) (omega (arith, high)) starts.0 in
    let following : IsStart ranges ((m + d) % 2 ^ 32) =
    subst (IsStart ranges) (ap (λ n. (node.high + 2 ^ (64 - n)) % 2 ^ 64 / 2 ^ 32) len ∙ following_is node.high m n fits high) starts.1 in
    let same = same_quotient (number_of block.address / d) d (number_of f) (number_of a) (pow_pos (32 - n)) le (number_of-lt 4 a are_a) (gap m first) (gap _ following) in
    let of_f = agrees 4 n block.address f are are_f fits in
    let of_a = agrees 4 n block.address a are are_a fits in
    (λ member. of_a.1 (same.0 (of_f.0 member)), λ member. of_f.1 (same.1 (of_a.0 member)))

-- a node's block begins and ends where that of the list does
spared : (count p : ℕ) (block : IpCidr) (i : ℕ) (node : Node) → IsBlock block → unlinked node ≡ node_of block i → Spares count p block → SparesNode count p node
spared count p (Ipv6 block) i node valid is spares four =
    let six : node.version ≡ 6 = ap (λ (node : Node). node.version) is in
    absurd (omega (arith, six, four))
spared count p (Ipv4 block) i node (are, fits) is (begins, ends) four =
    let n = block.prefix_len in
    let d = 2 ^ (32 - n) in
    let m = number_of block.address / d * d in
    let high : node.high ≡ m * 2 ^ 32 = ap (λ (node : Node). node.high) is ∙ high_is (number_of block.address) n fits in
    let len : node.prefix_len ≡ n = ap (λ (node : Node). node.prefix_len) is in
    let first : m ≡ node.high / 2 ^ 32 = omega (arith, high) in
    let following : (node.high + 2 ^ (64 - node.prefix_len)) % 2 ^ 64 / 2 ^ 32 ≡ (m + d) % 2 ^ 32 =
    ap (λ n. (node.high + 2 ^ (64 - n)) % 2 ^ 64 / 2 ^ 32) len ∙ following_is node.high m n fits high in
    (subst (IsBeside count p) first begins, subst (IsBeside count p) (sym following) ends)

-- no block of an index begins or ends in a part that none of its list divides
pub spared_by_all : (blocks : List IpCidr) (nodes : List Node) (count p : ℕ) → IsIndex blocks nodes → IsUndivided blocks count p
    → (k : ℕ) → k < length nodes → SparesNode count p (node_at nodes k)
spared_by_all blocks nodes count p index undivided k below =
    let found = block_for blocks index.made nodes k index.filled index.moved below in
    let i = found.0 in
    spared count p (block_at blocks i) i (node_at nodes k) (index.filled.each i found.1).0 found.2 (undivided i found.1)

-- address 0 is within no part
zero_beside : (count p bound : ℕ) → bound ≡ 0 → IsBeside count p (start_of bound)
zero_beside count p bound is = subst (λ b. IsBeside count p (start_of b)) (sym is) (inl (omega arith))

-- the two bounds of a node
pub bounds_beside : (count p first following : ℕ) (node : Node) → SparesNode count p node
    → (node.version ≡ 4 → (first ≡ node.high) × (following ≡ (node.high + 2 ^ (64 - node.prefix_len)) % 2 ^ 64))
    → (node.version ≢ 4 → (first ≡ 0) × (following ≡ 0)) → IsBeside count p (start_of first) × IsBeside count p (start_of following)
bounds_beside count p first following node spares ipv4 other =
    let none : (first ≡ 0) × (following ≡ 0) → IsBeside count p (start_of first) × IsBeside count p (start_of following) =
    λ zeros. (zero_beside count p first zeros.0, zero_beside count p following zeros.1) in
    elim (cases_order node.version 4) [
      | inl four ↦ let is = ipv4 four in
          (subst (IsBeside count p) (ap start_of (sym is.0)) (spares four).0, subst (IsBeside count p) (ap start_of (sym is.1)) (spares four).1)
      | inr (inl low) ↦ none (other (λ e. omega (arith, e, low)))
      | inr (inr high) ↦ none (other (λ e. omega (arith, e, high)))
    ]

-- ---- answers

-- two addresses that are in the same blocks have one answer
same_answer : (blocks : List IpCidr) (f a : IpAddress) (answer : ℕ) → ((i : ℕ) → i < length blocks → IsIn (block_at blocks i) f ↔ IsIn (block_at blocks i) a)
    → IsAnswer blocks f answer → IsAnswer blocks a answer
same_answer blocks f a answer same (inl (is, none)) =
    inl (is, λ k d below. subst (λ block. ¬ IsIn block a) (get_or_default blocks k _ d below) (λ member. none k _ below ((same k below).1 member)))
same_answer blocks f a answer same (inr (i, is, c)) =
    let chosen : IsChosenAt blocks a i = record {
      within = c.within;
      leads = (same i c.within).0 c.leads;
      shorter = λ j before member. c.shorter j before ((same j (omega (arith, before, c.within))).1 member);
      no_longer = λ j after below member. c.no_longer j after below ((same j below).1 member);
    } in
    inr (i, is, chosen)

-- ---- ranges

-- after a sort no range begins between the first address of one and an address before the next
gap : (unsorted sorted : List ℕ) (k a : ℕ) → IsPermutation unsorted sorted → IsNonDecreasingBy (λ x. x) sorted → k < length sorted
    → a < start_of (range_at sorted (k + 1)) → IsGap unsorted (start_of (range_at sorted k)) a
gap unsorted sorted k a moved up below less s (i, inside, is) =
    let found = Contains-permutation unsorted sorted (range_at unsorted i) moved (Contains-get_or unsorted i _ inside) in
    let j = found.0 in
    let at : start_of (range_at sorted j) ≡ s = ap start_of (get_or_default sorted j _ _ found.1 ∙ found.2) ∙ is in
    elim (cases_lt k j) [
      | inl after ↦ let h = up (k + 1) j (2 ^ 64) (omega (arith, after)) found.1 in inr (omega (arith, h, less, at))
      | inr le ↦ let h = up j k (2 ^ 64) le below in inl (omega (arith, h, at))
    ]

-- if a range begins where each block begins and after its end, the answer for the first address of a range is that of the range
pub answered : (blocks : List IpCidr) (nodes : List Node) (unsorted sorted ranges : List ℕ) → IsIndex blocks nodes
    → ((k : ℕ) → k < length nodes → IsBounded unsorted (node_at nodes k)) → IsPermutation unsorted sorted → IsNonDecreasingBy (λ x. x) sorted
    → length ranges ≡ length sorted → ((k : ℕ) → start_of (range_at ranges k) ≡ start_of (range_at sorted k))
    → ((k : ℕ) → k < length ranges → Answers blocks (λ addr. addr ≡ start_of (range_at ranges k)) (answer_of (range_at ranges k)))
    → AreRanges blocks ranges
answered blocks nodes unsorted sorted ranges index bounded moved up len starts answers k below bytes are (low, high) =
    let start = start_of (range_at ranges k) in
    let fits : start < 2 ^ 32 = omega (arith, low, number_of-lt 4 bytes are) in
    let first = bytes_high_first 4 start in
    let are_first : IsByteArray 4 first = (refl, AreBytes-bytes_high_first 4 start) in
    let is : number_of first ≡ start = omega (arith, fits) in
    let apart : IsGap unsorted (number_of first) (number_of bytes) =
    subst (λ f. IsGap unsorted f (number_of bytes)) (sym (is ∙ starts k))
    (gap unsorted sorted k (number_of bytes) moved up (omega (arith, below, len)) (omega (arith, high, starts (k + 1)))) in
    let same : (i : ℕ) → i < length blocks → IsIn (block_at blocks i) (ip.Ipv4 first) ↔ IsIn (block_at blocks i) (ip.Ipv4 bytes) =
    λ i inside. let node = node_for blocks index.made nodes i index.filled index.moved inside in
    alike (block_at blocks i) i (node_at nodes node.0) unsorted first bytes (index.filled.each i inside).0 node.2 (bounded node.0 node.1)
    are_first are (omega (arith, is, low)) apart in
    same_answer blocks (ip.Ipv4 first) (ip.Ipv4 bytes) (answer_of (range_at ranges k)) same (answers k below first are_first is)

-- a sort keeps what is beside a part
pub beside_sorted : (unsorted sorted : List ℕ) (count p : ℕ) → IsPermutation unsorted sorted
    → ((k : ℕ) → k < length unsorted → IsBeside count p (start_of (range_at unsorted k)))
    → (k : ℕ) → k < length sorted → IsBeside count p (start_of (range_at sorted k))
beside_sorted unsorted sorted count p moved beside k below =
    let found = Contains-permutation sorted unsorted (range_at sorted k) (IsPermutation-sym unsorted sorted moved) (Contains-get_or sorted k _ below) in
    let j = found.0 in
    let at : range_at unsorted j ≡ range_at sorted k = get_or_default unsorted j _ _ found.1 ∙ found.2 in
    subst (λ r. IsBeside count p (start_of r)) at (beside j found.1)

-- if a range begins at 0, the first one after a sort does
pub first_sorted : (unsorted sorted : List ℕ) → IsPermutation unsorted sorted → IsNonDecreasingBy (λ x. x) sorted → 0 < length unsorted
    → start_of (range_at unsorted 0) ≡ 0 → start_of (range_at sorted 0) ≡ 0
first_sorted unsorted sorted moved up some first =
    let found = Contains-permutation unsorted sorted (range_at unsorted 0) moved (Contains-get_or unsorted 0 _ some) in
    let j = found.0 in
    let at : start_of (range_at sorted j) ≡ 0 = ap start_of (get_or_default sorted j _ _ found.1 ∙ found.2) ∙ first in
    let h = up 0 j (2 ^ 64) (omega arith) found.1 in
    omega (arith, h, at)
