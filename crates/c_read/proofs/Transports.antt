-- Which numbers name a transport over IPv6, and which an extension header.
use Rattle.std.proofs.Common.{ℕ, zero, suc, ◌≡◌, ◌≤◌, ◌<◌, inl, inr, ◌/◌, ◌%◌, ◌^◌, ◌==◌, ◌&&◌, not, if◌then◌else◌, Bool, true, false, List, refl, subst, sym, arith}
use Rattle.std.proofs.lemmas.Bool.{cases_lt, eqb-true}
use Rattle.std.proofs.lemmas.Bool.Decides.{nat_tests}
use Rattle.ip_wire.specs.Protocol.{protocol_of}
use Rattle.ip_wire.specs.Types.{IpProtocol}
use Rattle.ip_wire.specs.declared.IpAddress.TheVariants as address
use Rattle.c_structs.specs.declared.types.FrameFields.{FrameFields}
use Rattle.c_read.specs.FrameFields.{is_ipv6_transport, with_transport_by}
use Rattle.wire_extensions.specs.Extension.{is_extension}

-- ---- transports

-- a transport is no extension header
pub transport-plain : (p : ℕ) → is_ipv6_transport p ≡ true → is_extension p ≡ false
transport-plain p is = by (p == 6) (p == 17) (p == 58) refl refl refl
  where
    by : (t u v : Bool) → (p == 6) ≡ t → (p == 17) ≡ u → (p == 58) ≡ v → is_extension p ≡ false
    by true u v k l m = subst (λ q. is_extension q ≡ false) (sym (eqb-true p 6 k)) refl
    by false true v k l m = subst (λ q. is_extension q ≡ false) (sym (eqb-true p 17 l)) refl
    by false false true k l m = subst (λ q. is_extension q ≡ false) (sym (eqb-true p 58 m)) refl
    by false false false k l m = let never : false ≡ true = rw (k, l, m) at is in absurd (cc)

either : (P : IpProtocol → Type 0) (b : Bool) (x y : IpProtocol) → (b ≡ true → P x) → (b ≡ false → P y) → P (if b then x else y)
either P true x y t f = t refl
either P false x y t f = f refl

-- a packet of another protocol has no transport
pub other-kept : (f : FrameFields) (p : ℕ) (src dst bytes : List ℕ) → is_ipv6_transport p ≡ false
    → with_transport_by f (protocol_of p) (address.Ipv6 src) (address.Ipv6 dst) bytes ≡ f
other-kept f p src dst bytes other =
    either Kept (p == 0) _ _ (λ e. refl) (λ e. either Kept (p == 1) _ _ (λ e. refl) (λ e. either Kept (p == 2) _ _ (λ e. refl)
    (λ e. either Kept (p == 6) _ _ (λ is. let never : true ≡ false = rw is at other in absurd (cc))
    (λ no. either Kept (p == 17) _ _ (λ is. let never : true ≡ false = rw (no, is) at other in absurd (cc))
    (λ nor. either Kept (p == 43) _ _ (λ e. refl) (λ e. either Kept (p == 44) _ _ (λ e. refl) (λ e. either Kept (p == 50) _ _ (λ e. refl)
    (λ e. either Kept (p == 51) _ _ (λ e. refl)
    (λ e. either Kept (p == 58) _ _ (λ is. let never : true ≡ false = rw (no, nor, is) at other in absurd (cc))
    (λ e. either Kept (p == 59) _ _ (λ e. refl) (λ e. either Kept (p == 60) _ _ (λ e. refl) (λ e. refl))))))))))))
  where
    Kept : IpProtocol → Type 0
    Kept q = with_transport_by f q (address.Ipv6 src) (address.Ipv6 dst) bytes ≡ f

-- ---- extension headers as bits of a number

abbrev pub bit : ℕ → Bool
bit p = 0x1008180000000001 / 2 ^ p % 2 == 1

abbrev agree : Bool → Bool → Bool
agree true b = b
agree false b = not b

agreed : (a b : Bool) → agree a b ≡ true → a ≡ b
agreed true true e = refl
agreed false false e = refl
agreed true false e = absurd (cc)
agreed false true e = absurd (cc)

both : (a b : Bool) → (a && b) ≡ true → (a ≡ true) × (b ≡ true)
both true b e = (refl, e)
both false b e = absurd (cc)

-- the bits of the numbers below n are those of extension headers
abbrev all : ℕ → Bool
all zero = true
all (suc n) = agree (bit n) (is_extension n) && all n

found : (n p : ℕ) → p < n → all n ≡ true → bit p ≡ is_extension p
found zero p h a = absurd (omega (arith, h))
found (suc n) p h a =
    let (last, others) = both (agree (bit n) (is_extension n)) (all n) a in
    elim (cases_lt p n) [
      | inl less ↦ found n p less others
      | inr not-less ↦
          let same : n ≡ p = omega (arith, h, not-less) in
          subst (λ q. bit q ≡ is_extension q) same (agreed (bit n) (is_extension n) last)
    ]

pub bit-found : (p : ℕ) → p ≤ 60 → bit p ≡ is_extension p
bit-found p h = found 61 p (omega (arith, h)) refl

-- no number above 60 is that of an extension header
pub past-last : (p : ℕ) → 60 < p → is_extension p ≡ false
past-last p h =
    let a : (p == 0) ≡ false = grind (arith, nat_tests) in
    let b : (p == 43) ≡ false = grind (arith, nat_tests) in
    let c : (p == 44) ≡ false = grind (arith, nat_tests) in
    let d : (p == 51) ≡ false = grind (arith, nat_tests) in
    let e : (p == 60) ≡ false = grind (arith, nat_tests) in
    rw (a, b, c, d, e) refl
