-- Relations that hold for only one value: netmasks, masked addresses, the ends of a block, and scopes.
use Rattle.std.proofs.Common.{◌≡◌, ◌↔◌, ℕ, suc, ◌+◌, ◌-◌, ◌*◌, ◌/◌, ◌%◌, inl, inr, Bool, true, false, IsTrue, List, get_or, arith, refl, sym, ◌∙◌, ap}
use Rattle.std.specs.Int.{bit_at}
use Rattle.std.proofs.lemmas.Bool.{cases_lt, false≢true}
use Rattle.std.proofs.lemmas.List.{ext_get_or}
use Rattle.std.proofs.lemmas.Nat.Bits.{same_from_bits_below}
use Rattle.wire_addr.specs.Block.{Block, IsGreatest, IsIn, IsLeast}
use Rattle.wire_addr.specs.Class.{HasScope, ipv6_global_unicast, ipv6_link_local, ipv6_multicast, ipv6_unique_local}
use Rattle.wire_addr.specs.Bytes.{IsByteArray}
use Rattle.wire_addr.specs.Prefix.{IsMasked, IsNetmask, bit_of, number_of}
use Rattle.wire_addr.specs.declared.ipv6_multicast_scope.Ipv6MulticastScope.{Ipv6MulticastScope}
use Rattle.wire_addr.proofs.Blocks.{bits_past}
use Rattle.wire_addr.proofs.Numbers.{bit_at-number_of}

-- bytes with the same bits are the same
same_bytes : (m : ℕ) (xs ys : List ℕ) → IsByteArray m xs → IsByteArray m ys → ((k : ℕ) → bit_of xs k ≡ bit_of ys k) → xs ≡ ys
same_bytes m xs ys are_xs are_ys same =
    ext_get_or 0 xs ys (are_xs.0 ∙ sym are_ys.0)
    (λ i below. same_from_bits_below 8 (get_or xs i 0) (get_or ys i 0) (are_xs.1 i) (are_ys.1 i)
    (λ b low.
    let place : (8 * i + (7 - b)) / 8 ≡ i = omega arith in
    let bit : 7 - (8 * i + (7 - b)) % 8 ≡ b = omega arith in
    sym (ap (λ p. bit_at (get_or xs p 0) (7 - (8 * i + (7 - b)) % 8)) place ∙ ap (λ q. bit_at (get_or xs i 0) q) bit)
    ∙ same (8 * i + (7 - b))
    ∙ ap (λ p. bit_at (get_or ys p 0) (7 - (8 * i + (7 - b)) % 8)) place ∙ ap (λ q. bit_at (get_or ys i 0) q) bit))

-- bytes with the same big-endian number are the same
same_number : (m : ℕ) (xs ys : List ℕ) → IsByteArray m xs → IsByteArray m ys → number_of xs ≡ number_of ys → xs ≡ ys
same_number m xs ys are_xs are_ys same = same_bytes m xs ys are_xs are_ys (λ k. elim (cases_lt k (8 * m)) [
  | inl inside ↦
      let place : suc (k + (8 * m - 1 - k)) ≡ 8 * m = omega arith in
      sym (bit_at-number_of m k (8 * m - 1 - k) xs are_xs place) ∙ ap (λ v. bit_at v (8 * m - 1 - k)) same
      ∙ bit_at-number_of m k (8 * m - 1 - k) ys are_ys place
  | inr past ↦ bits_past m xs k are_xs past ∙ sym (bits_past m ys k are_ys past)
])

-- a netmask has one prefix length
pub one_length : (n m : ℕ) (xs : List ℕ) → IsNetmask n xs → IsNetmask m xs → n ≡ m
one_length n m xs is_n is_m = grind arith

-- a prefix length has one netmask
pub one_netmask : (m n : ℕ) (xs ys : List ℕ) → IsByteArray m xs → IsByteArray m ys → IsNetmask n xs → IsNetmask n ys → xs ≡ ys
one_netmask m n xs ys are_xs are_ys is_xs is_ys = same_bytes m xs ys are_xs are_ys (λ k. elim (cases_lt k n) [
  | inl before ↦ is_xs.ones k before ∙ sym (is_ys.ones k before)
  | inr from ↦ is_xs.zeros k from ∙ sym (is_ys.zeros k from)
])

-- bytes have one form with zeros after their first n bits
pub one_masked : (m n : ℕ) (octets xs ys : List ℕ) → IsByteArray m xs → IsByteArray m ys → IsMasked n octets xs → IsMasked n octets ys → xs ≡ ys
one_masked m n octets xs ys are_xs are_ys is_xs is_ys = same_bytes m xs ys are_xs are_ys (λ k. elim (cases_lt k n) [
  | inl before ↦ sym (is_xs.kept k before) ∙ is_ys.kept k before
  | inr from ↦ is_xs.zeros k from ∙ sym (is_ys.zeros k from)
])

-- a block has one first address
pub one_least : (m : ℕ) (block : Block) (xs ys : List ℕ) → IsByteArray m xs → IsByteArray m ys → IsLeast m block xs → IsLeast m block ys → xs ≡ ys
one_least m block xs ys are_xs are_ys is_xs is_ys =
    same_number m xs ys are_xs are_ys (omega (arith, is_xs.least ys are_ys is_ys.member, is_ys.least xs are_xs is_xs.member))

-- and one last address
pub one_greatest : (m : ℕ) (block : Block) (xs ys : List ℕ) → IsByteArray m xs → IsByteArray m ys → IsGreatest m block xs → IsGreatest m block ys → xs ≡ ys
one_greatest m block xs ys are_xs are_ys is_xs is_ys =
    same_number m xs ys are_xs are_ys (omega (arith, is_xs.greatest ys are_ys is_ys.member, is_ys.greatest xs are_xs is_xs.member))

-- an address has one scope, whatever classes it is in
pub one_scope : (address : List ℕ) (a b : Ipv6MulticastScope) (multicast link_local unique_local global : Bool)
    → (IsTrue multicast ↔ IsIn ipv6_multicast address) → (IsTrue link_local ↔ IsIn ipv6_link_local address)
    → (IsTrue unique_local ↔ IsIn ipv6_unique_local address) → (IsTrue global ↔ IsIn ipv6_global_unicast address)
    → HasScope address a → HasScope address b → a ≡ b
one_scope address a b multicast link_local unique_local global is_multicast is_link_local is_unique_local is_global has_a has_b =
    by multicast link_local unique_local global is_multicast is_link_local is_unique_local is_global
  where
    outside : {P : Type 0} → IsTrue false ↔ P → ¬ P
    outside test member = false≢true (test.1 member)

    by : (m l u g : Bool) → (IsTrue m ↔ IsIn ipv6_multicast address) → (IsTrue l ↔ IsIn ipv6_link_local address)
        → (IsTrue u ↔ IsIn ipv6_unique_local address) → (IsTrue g ↔ IsIn ipv6_global_unicast address) → a ≡ b
    by true l u g im il iu ig = has_a.multicast (im.0 refl) ∙ sym (has_b.multicast (im.0 refl))
    by false true u g im il iu ig =
        has_a.link_local (outside im) (il.0 refl) ∙ sym (has_b.link_local (outside im) (il.0 refl))
    by false false true g im il iu ig =
        has_a.global (outside im) (outside il) (inl (iu.0 refl)) ∙ sym (has_b.global (outside im) (outside il) (inl (iu.0 refl)))
    by false false false true im il iu ig =
        has_a.global (outside im) (outside il) (inr (ig.0 refl)) ∙ sym (has_b.global (outside im) (outside il) (inr (ig.0 refl)))
    by false false false false im il iu ig =
        has_a.other (outside im) (outside il) (outside iu) (outside ig) ∙ sym (has_b.other (outside im) (outside il) (outside iu) (outside ig))
