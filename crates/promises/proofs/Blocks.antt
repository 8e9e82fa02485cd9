-- Blocks, masked addresses, and addresses that begin with the bytes of another.
use Rattle.std.proofs.Common.{◌≡◌, ◌↔◌, ◌++◌, ◌+◌, ◌*◌, ◌/◌, ◌%◌, ◌-◌, ◌<◌, ◌≤◌, ◌∙◌, ℕ, inl, inr, eqb, [], ◌∷◌, Bool, IsTrue, List, length, take, get_or, length-append, refl, sym, ap, subst, arith}
use Rattle.std.proofs.Math.ListN.{get_or-append}
use Rattle.std.proofs.lemmas.Bool.{cases_Bool, eqb-true}
use Rattle.std.proofs.lemmas.List.{get_or-append_right, get_or-take, length-take}
use Rattle.std.proofs.lemmas.Slice.Eq.{text_from_reads}
use Rattle.std.specs.Int.{bit_at}
use Rattle.std.specs.Prelude.{IsErr, None, Ok, Err, Result, Some}
use Rattle.ip_wire.specs.declared.Error.{Error}
use Rattle.ip_wire.specs.Block.{Block, IsIn}
use Rattle.ip_wire.specs.IpCidr.{IsIn as IsInEither, block_address}
use Rattle.ip_wire.specs.declared.IpCidr.{IpCidr}
use Rattle.ip_wire.specs.declared.IpCidr.TheVariants.{Ipv4, Ipv6}
use Rattle.ip_wire.specs.Class.{link_address}
use Rattle.ip_wire.specs.Hardware.{eui_64, eui_64_of}
use Rattle.ip_wire.specs.Prefix.{AgreeFirst, IsMasked, IsNetmask, bit_of}
use Rattle.ip_wire.specs.declared.HardwareAddress.{HardwareAddress}
use Rattle.ip_wire.specs.declared.HardwareAddress.TheVariants.{Ip, Ethernet}

-- two addresses are in one block exactly if they have one masked address
pub masked_in_block : (n : ℕ) (a b x y : List ℕ) (block : Block) (r : Bool) → block ≡ record { address = a; prefix_len = n }
    → (IsTrue r ↔ IsIn block b) → IsMasked n a x → IsMasked n b y
    → ((m : ℕ) → IsMasked m b x → IsMasked m b y → x ≡ y) → IsTrue r ↔ (x ≡ y)
masked_in_block n a b x y block r made test of_a of_b one =
    let is = subst (λ z. IsTrue r ↔ IsIn z b) made test in (
      λ t. one n (record { kept = λ k h. sym (is.0 t k h) ∙ of_a.kept k h; zeros = of_a.zeros }) of_b,
      λ same. is.1 (λ k h. of_a.kept k h ∙ ap (λ o. bit_of o k) same ∙ sym (of_b.kept k h)),
    )

-- a netmask of no bits makes no block
pub no_block : (r : Result Block Error) (n : ℕ) (addr mask : List ℕ) → n ≡ 0 → IsNetmask n mask
    → ((block : Block) → (r ≡ Ok block) ↔ ((block.address ≡ addr) × IsNetmask block.prefix_len mask × (1 ≤ block.prefix_len))) → IsErr r
no_block (Err e) n addr mask none is made = search
no_block (Ok block) n addr mask none is made =
    let (at, ones, some) = (made block).0 refl in
    let one_bit : bit_of mask 0 ≡ 1 = ones.ones 0 some in
    let zero_bit : bit_of mask 0 ≡ 0 = is.zeros 0 (omega arith) in
    let no : ⊥ = omega (arith, one_bit, zero_bit) in
    absurd no

-- bytes that begin with m bytes of others have their first bits
pub agree_front : (m : ℕ) (xs ys : List ℕ) → m ≤ length xs → AgreeFirst (8 * m) xs (take m xs ++ ys)
agree_front m xs ys len k h = ap (λ octet. bit_at octet (7 - k % 8)) (front (k / 8) (omega arith))
  where
    front : (j : ℕ) → j < m → get_or xs j 0 ≡ get_or (take m xs ++ ys) j 0
    front j below = sym (get_or-append (take m xs) ys 0 j (omega (arith, length-take m xs)) ∙ get_or-take m xs j 0 below)

-- the parts of the address of an interface
pub record Interface (prefix : Block) (hardware : HardwareAddress) (address : List ℕ) : Type 0 where
  pub identifier : List ℕ
  pub len : prefix.prefix_len ≡ 64
  pub has : eui_64_of hardware ≡ Some identifier
  pub size : length identifier ≡ 8
  pub joined : address ≡ take 8 prefix.address ++ identifier

pub interface : (prefix : Block) (hardware : HardwareAddress) (address : List ℕ) → length address ≡ 16 → length prefix.address ≡ 16
    → Some address ≡ link_address prefix hardware → Interface prefix hardware address
interface prefix Ip address sixteen whole made = absurd (cc)
interface prefix (Ethernet hardware) address sixteen whole made = elim (cases_Bool (eqb prefix.prefix_len 64)) [
  | inl y ↦
      let same : Some address ≡ Some (take 8 prefix.address ++ eui_64 hardware.0) = made ∙ rw y refl in
      let joined : address ≡ take 8 prefix.address ++ eui_64 hardware.0 = cc in
      record {
        identifier = eui_64 hardware.0;
        len = eqb-true prefix.prefix_len 64 y;
        has = refl;
        size = omega (arith, ap length joined ∙ length-append (take 8 prefix.address) (eui_64 hardware.0), length-take 8 prefix.address);
        joined = joined;
      }
  | inr n ↦
      let none : Some address ≡ None = made ∙ rw n refl in
      absurd (cc)
]

-- it is in the block of the prefix
pub interface_in_block : (prefix : Block) (hardware : HardwareAddress) (address : List ℕ) → length prefix.address ≡ 16 → Interface prefix hardware address → IsIn prefix address
interface_in_block prefix hardware address whole made =
    rw (made.joined, made.len) (agree_front 8 prefix.address made.identifier (omega (arith, whole)))

-- and ends in the identifier
pub interface_ends : (prefix : Block) (hardware : HardwareAddress) (a : List ℕ) → length prefix.address ≡ 16 → Interface prefix hardware a
    → Some (get_or a 8 0 ∷ get_or a 9 0 ∷ get_or a 10 0 ∷ get_or a 11 0 ∷ get_or a 12 0 ∷ get_or a 13 0 ∷ get_or a 14 0 ∷ get_or a 15 0 ∷ []) ≡ eui_64_of hardware
interface_ends prefix hardware a whole made = ap Some (sym (text_from_reads made.identifier _ made.size (at 0, (at 1, (at 2, (at 3, (at 4, (at 5, (at 6, (at 7, tt)))))))))) ∙ sym made.has
  where
    at : (i : ℕ) → get_or made.identifier i 0 ≡ get_or a (8 + i) 0
    at i = sym (ap (λ o. get_or o (8 + i) 0) made.joined ∙ get_or-append_right (take 8 prefix.address) made.identifier 8 (8 + i) 0 (omega (arith, length-take 8 prefix.address, whole)) (omega arith) ∙ ap (λ k. get_or made.identifier k 0) (let e : 8 + i - 8 ≡ i = omega arith in e))

-- the address of a block is in it
pub has_its_address : (block : IpCidr) → IsInEither block (block_address block)
has_its_address (Ipv4 block) = λ k below. refl
has_its_address (Ipv6 block) = λ k below. refl
