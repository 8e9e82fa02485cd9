-- The rules for the addresses of a message.
use Rattle.std.proofs.Common.{ℕ, zero, suc, ◌≡◌, inl, inr, ◌==◌, ◌&&◌, Bool, true, false, List, Some, None, Decides, refl, arith}
use Rattle.std.proofs.lemmas.Bool.{cases_lt, false≢true}
use Rattle.std.proofs.lemmas.Bool.Decides.{Decides-eqb, nat_tests}
use Rattle.std.proofs.lemmas.Slice.Eq.{bytes_eq-Decides}
use Rattle.wire_addr.specs.Block.{Block, IsIn}
use Rattle.wire_addr.specs.Class.{ipv6_multicast, ipv6_solicited_node, ipv6_unspecified}
use Rattle.wire_addr.specs.Prefix.{AgreeFirst, bit_of}
use Rattle.wire_icmp.specs.Ndisc.{IsAllowed, agree_first, is_allowed, is_in}
use Rattle.wire_icmp.specs.declared.ndisc.repr.NdiscRepr.{NdiscRepr}
use Rattle.wire_icmp.specs.declared.ndisc.repr.NdiscRepr.TheVariants.{NeighborSolicit, NeighborAdvert}

agree_first-AgreeFirst : (n : ℕ) (xs ys : List ℕ) → Decides (agree_first n xs ys) (AgreeFirst n xs ys)
unfolding agree_first
agree_first-AgreeFirst zero xs ys = (λ t k lt. absurd (omega (arith, lt)), λ agree. refl)
agree_first-AgreeFirst (suc n) xs ys = by (bit_of xs n == bit_of ys n) (Decides-eqb (bit_of xs n) (bit_of ys n)) (agree_first n xs ys) (agree_first-AgreeFirst n xs ys)
  where
    by : (last : Bool) → Decides last (bit_of xs n ≡ bit_of ys n) → (front : Bool) → Decides front (AgreeFirst n xs ys)
        → Decides (last && front) (AgreeFirst (suc n) xs ys)
    by true is true are = (
      λ t k lt. elim (cases_lt k n) [
        | inl below ↦ are.0 refl k below
        | inr above ↦ let e : k ≡ n = omega (arith, lt, above) in rw e (is.0 refl)
      ],
      λ agree. refl,
    )
    by false is front are = (λ t. absurd (cc), λ agree. absurd (false≢true (is.1 (agree n (omega arith)))))
    by true is false are = (λ t. absurd (cc), λ agree. absurd (false≢true (are.1 (λ k lt. agree k (omega (arith, lt))))))

is_in-IsIn : (block : Block) (address : List ℕ) → Decides (is_in block address) (IsIn block address)
is_in-IsIn block address = agree_first-AgreeFirst block.prefix_len block.address address

-- the computed test is the rule
pub is_allowed-IsAllowed : (v : NdiscRepr) (src dst : List ℕ) → Decides (is_allowed v src dst) (IsAllowed v src dst)
is_allowed-IsAllowed (NeighborSolicit target None) src dst =
    let multicast = is_in-IsIn ipv6_multicast target in
    let group = is_in-IsIn ipv6_solicited_node dst in
    let unspecified = bytes_eq-Decides src ipv6_unspecified in
    grind (arith, nat_tests)
is_allowed-IsAllowed (NeighborSolicit target (Some lladdr)) src dst =
    let multicast = is_in-IsIn ipv6_multicast target in
    let group = is_in-IsIn ipv6_solicited_node dst in
    let unspecified = bytes_eq-Decides src ipv6_unspecified in
    grind (arith, nat_tests)
is_allowed-IsAllowed (NeighborAdvert flags target lladdr) src dst =
    let multicast = is_in-IsIn ipv6_multicast target in
    let group = is_in-IsIn ipv6_multicast dst in
    grind (arith, nat_tests)
