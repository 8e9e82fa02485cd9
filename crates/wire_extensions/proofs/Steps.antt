-- The steps of a chain of IPv6 extension headers.
use Rattle.std.proofs.Common.{ℕ, zero, suc, ◌≡◌, ◌≢◌, ◌∙◌, ◌≤◌, ◌+◌, ◌*◌, ◌-◌, ◌==◌, ◌&&◌, not, nat_lt, if◌then◌else◌, Bool, true, false, List, Option, Some, None, drop, length, refl, sym, subst, arith}
use Rattle.std.proofs.lemmas.Bool.{eqb-true}
use Rattle.std.proofs.lemmas.Bool.Decides.{nat_tests}
use Rattle.std.proofs.lemmas.List.{length-drop}
use Rattle.net_base.specs.Field.{field}
use Rattle.wire_ipv6.specs.Ipv6Fragment as fragment
use Rattle.wire_ipv6.specs.declared.ipv6fragment.repr.Ipv6FragmentRepr.{Ipv6FragmentRepr}
use Rattle.wire_extensions.specs.Chain.{after, begun, by_fault, by_fragment, chain_of, end_of, ends_at_part, extension_fault, is_part, stepped, walked}
use Rattle.wire_extensions.specs.Extension.{extension_len, is_extension}
use Rattle.wire_extensions.specs.declared.chain.Chain.{Chain}
use Rattle.wire_extensions.specs.declared.chain.ExtensionFault.{ExtensionFault}
use Rattle.wire_extensions.specs.declared.chain.ExtensionFault.TheVariants as fault

-- why the next header of a chain is rejected, if it is
abbrev pub fault_at : ℕ → List ℕ → Chain → Option ExtensionFault
fault_at len bytes c = extension_fault c.protocol (c.len == 0) (len - c.len) (drop c.len bytes)

-- the values of the next header, if it is a fragment header
abbrev pub values_at : List ℕ → Chain → Ipv6FragmentRepr
values_at bytes c = fragment.header_of (drop 2 (drop c.len bytes))

-- A step by its cases: no extension header; one that is rejected; the header of a fragment; that of an atomic fragment; another.
pub by-step : (P : Chain × Bool → Type 0) (len : ℕ) (bytes : List ℕ) (c : Chain)
    → (is_extension c.protocol ≡ false → P (c, false))
    → ((why : ExtensionFault) → is_extension c.protocol ≡ true → fault_at len bytes c ≡ Some why → P (record c { fault = Some why }, false))
    → (c.protocol ≡ 44 → fault_at len bytes c ≡ None → is_part (values_at bytes c) ≡ true → P (record c { fragment = Some (values_at bytes c) }, false))
    → (c.protocol ≡ 44 → fault_at len bytes c ≡ None → is_part (values_at bytes c) ≡ false
    → P (after (record c { fragment = Some (values_at bytes c) }) (drop c.len bytes), true))
    → (is_extension c.protocol ≡ true → (c.protocol == 44) ≡ false → fault_at len bytes c ≡ None → P (after c (drop c.len bytes), true))
    → P (stepped len bytes c)
unfolding stepped
by-step P len bytes c ended faulty parted atomic passed = by-extension (is_extension c.protocol) refl
  where
    rest : List ℕ
    rest = drop c.len bytes

    v : Ipv6FragmentRepr
    v = values_at bytes c

    by-part : (b : Bool) → is_part v ≡ b → c.protocol ≡ 44 → fault_at len bytes c ≡ None
        → P (if b then (record c { fragment = Some v }, false) else (after (record c { fragment = Some v }) rest, true))
    by-part true e is none = parted is none e
    by-part false e is none = atomic is none e

    by-number : (b : Bool) → (c.protocol == 44) ≡ b → is_extension c.protocol ≡ true → fault_at len bytes c ≡ None
        → P (if b then by_fragment c rest v else (after c rest, true))
    by-number true e is none = by-part (is_part v) refl (eqb-true c.protocol 44 e) none
    by-number false e is none = passed is e none

    by-fault : (o : Option ExtensionFault) → fault_at len bytes c ≡ o → is_extension c.protocol ≡ true → P (by_fault c rest o)
    by-fault (Some why) e is = faulty why is e
    by-fault None e is = by-number (c.protocol == 44) refl is e

    by-extension : (b : Bool) → is_extension c.protocol ≡ b → P (if b then by_fault c rest (fault_at len bytes c) else (c, false))
    by-extension true e = by-fault (fault_at len bytes c) refl e
    by-extension false e = ended e

-- what holds after a step: one thing if the chain goes on, another if it ends
abbrev pub Next : (Chain → Type 0) → (Chain → Type 0) → Chain → Bool → Type 0
Next G P c true = G c
Next G P c false = P c

ends-has : (G P : Chain → Type 0) (rest : Chain → Chain) (d : Chain) (b : Bool) → Next G P d b → ((e : Chain) → G e → P (rest e)) → P (if b then rest d else d)
ends-has G P rest d true h others = others d h
ends-has G P rest d false h others = h

-- what holds of a chain that goes on and is kept by each step gives what holds at the end
pub walked-has : (G P : Chain → Type 0) (len : ℕ) (bytes : List ℕ) → ((c : Chain) → G c → P c)
    → ((c : Chain) → G c → Next G P (stepped len bytes c).0 (stepped len bytes c).1) → (n : ℕ) (c : Chain) → G c → P (walked n len bytes c)
walked-has G P len bytes ends steps zero c g = ends c g
walked-has G P len bytes ends steps (suc n) c g =
    ends-has G P (λ d. walked n len bytes d) (stepped len bytes c).0 (stepped len bytes c).1 (steps c g) (λ d h. walked-has G P len bytes ends steps n d h)

-- ---- a header that is not rejected

one-test : (b : Bool) (x : ExtensionFault) (o : Option ExtensionFault) → (if b then Some x else o) ≡ None → (b ≡ false) × (o ≡ None)
one-test true x o e = absurd (cc)
one-test false x o e = (refl, e)

least-of : (m n : ℕ) → nat_lt m n ≡ false → n ≤ m
least-of m n e = grind (arith, nat_tests)

-- it is there as a whole, and was captured
pub whole-header : (protocol : ℕ) (first : Bool) (len : ℕ) (bytes : List ℕ) → extension_fault protocol first len bytes ≡ None
    → (8 ≤ length bytes) × (extension_len protocol bytes ≤ length bytes) × (extension_len protocol bytes ≤ len)
whole-header protocol first len bytes none =
    let a = one-test (nat_lt len 8) fault.TooShort _ none in
    let b = one-test (nat_lt (length bytes) 8) fault.HeaderCut _ a.1 in
    let c = one-test (nat_lt len (extension_len protocol bytes)) fault.TooShort _ b.1 in
    let d = one-test (nat_lt (length bytes) (extension_len protocol bytes)) fault.HeaderCut _ c.1 in
    (least-of (length bytes) 8 b.0, least-of (length bytes) (extension_len protocol bytes) d.0, least-of len (extension_len protocol bytes) c.0)

-- the chain after a header that is not rejected ends within the bytes
pub after-within : (len : ℕ) (bytes : List ℕ) (c : Chain) → c.len ≤ length bytes → fault_at len bytes c ≡ None
    → c.len + extension_len c.protocol (drop c.len bytes) ≤ length bytes
after-within len bytes c within none =
    let whole = (whole-header c.protocol (c.len == 0) (len - c.len) (drop c.len bytes) none).1 in
    let size = length-drop c.len bytes in
    omega (arith, whole, size, within)

-- so do its first eight bytes
header-within : (len : ℕ) (bytes : List ℕ) (c : Chain) → c.len ≤ length bytes → fault_at len bytes c ≡ None → c.len + 8 ≤ length bytes
header-within len bytes c within none =
    let whole = (whole-header c.protocol (c.len == 0) (len - c.len) (drop c.len bytes) none).0 in
    let size = length-drop c.len bytes in
    omega (arith, whole, size, within)

-- ---- what holds of a chain

pub none-some : {A B : Type 0} (a : A) → None ≡ Some a → B
none-some a e = absurd (cc)

same-some : {A : Type 0} (a b : A) → Some a ≡ Some b → a ≡ b
same-some a b e = cc

pub both-tests : {B : Type 0} (b : Bool) → b ≡ true → b ≡ false → B
both-tests b t f = absurd (cc)

-- A chain that goes on is within the bytes, has no rejected header, and no header of a fragment.
pub record IsGoing (bytes : List ℕ) (c : Chain) : Type 0 where
  pub within : c.len ≤ length bytes
  pub fault : c.fault ≡ None
  pub part : (v : Ipv6FragmentRepr) → c.fragment ≡ Some v → is_part v ≡ false

-- a fragment header that is there is none of a fragment
no-part : (o : Option Ipv6FragmentRepr) → ((v : Ipv6FragmentRepr) → o ≡ Some v → is_part v ≡ false) → ends_at_part o ≡ false
no-part None part = refl
no-part (Some v) part = part v refl

going-end : (bytes : List ℕ) (c : Chain) → IsGoing bytes c → end_of c ≤ length bytes
going-end bytes c g =
    let within = g.within in
    subst (λ (b : Bool). c.len + (if b then 8 else 0) ≤ length bytes) (sym (no-part c.fragment g.part)) (omega (arith, within))

part-end : (n len : ℕ) (b : Bool) → n + 8 ≤ len → n + (if b then 8 else 0) ≤ len
part-end n len true h = h
part-end n len false h = omega (arith, h)

-- A chain is within the bytes. The header that is rejected is an extension header. Only a fragment header that ends the
-- chain is that of a fragment.
pub record IsRight (bytes : List ℕ) (c : Chain) : Type 0 where
  pub within : c.len ≤ length bytes
  pub fault : (why : ExtensionFault) → c.fault ≡ Some why → is_extension c.protocol ≡ true
  pub part : (v : Ipv6FragmentRepr) → c.fragment ≡ Some v → is_part v ≡ true → (c.protocol ≡ 44) × (c.fault ≡ None)
  pub end : end_of c ≤ length bytes

going-right : (bytes : List ℕ) (c : Chain) → IsGoing bytes c → IsRight bytes c
going-right bytes c g = record {
  within = g.within;
  fault = λ why is. none-some why (sym g.fault ∙ is);
  part = λ v is part. both-tests (is_part v) part (g.part v is);
  end = going-end bytes c g;
}

pub step-right : (len : ℕ) (bytes : List ℕ) (c : Chain) → IsGoing bytes c → Next (IsGoing bytes) (IsRight bytes) (stepped len bytes c).0 (stepped len bytes c).1
step-right len bytes c g =
    by-step (λ s. Next (IsGoing bytes) (IsRight bytes) s.0 s.1) len bytes c
    (λ other. going-right bytes c g)
    (λ why is fault. record {
      within = g.within;
      fault = λ w e. is;
      part = λ v e part. both-tests (is_part v) part (g.part v e);
      end = going-end bytes c g;
    })
    (λ is none part. record {
      within = g.within;
      fault = λ w e. none-some w (sym g.fault ∙ e);
      part = λ v e p. (is, g.fault);
      end = part-end c.len (length bytes) (is_part (values_at bytes c)) (header-within len bytes c g.within none);
    })
    (λ is none whole. record {
      within = after-within len bytes c g.within none;
      fault = g.fault;
      part = λ v e. subst (λ u. is_part u ≡ false) (same-some (values_at bytes c) v e) whole;
    })
    (λ is other none. record { within = after-within len bytes c g.within none; fault = g.fault; part = g.part })

pub chain-right : (protocol len : ℕ) (bytes : List ℕ) → IsRight bytes (chain_of protocol len bytes)
unfolding chain_of
chain-right protocol len bytes =
    walked-has (IsGoing bytes) (IsRight bytes) len bytes (going-right bytes) (step-right len bytes) (suc (length bytes)) (begun protocol)
    (record { within = omega arith; fault = refl; part = λ v e. none-some v e })

-- ---- a chain grows

pub least-len : (protocol : ℕ) (bytes : List ℕ) → 8 ≤ extension_len protocol bytes
least-len protocol bytes = by (protocol == 44) (protocol == 51)
  where
    by : (a b : Bool) → 8 ≤ (if a then 8 else if b then 8 + 4 * field bytes 8 8 else 8 + 8 * field bytes 8 8)
    by true b = omega arith
    by false true = omega arith
    by false false = omega arith

pub grows : (len : ℕ) (bytes : List ℕ) (n : ℕ) (c : Chain) → c.len ≤ (walked n len bytes c).len
grows len bytes n c =
    walked-has (λ d. c.len ≤ d.len) (λ d. c.len ≤ d.len) len bytes (λ d g. g)
    (λ d g. by-step (λ s. Next (λ e. c.len ≤ e.len) (λ e. c.len ≤ e.len) s.0 s.1) len bytes d (λ other. g) (λ why number fault. g) (λ number none part. g)
    (λ number none atomic. omega (arith, g)) (λ number other none. omega (arith, g))) n c (omega arith)

-- ---- the whole chain

pub chain-walked : (protocol len : ℕ) (bytes : List ℕ) → chain_of protocol len bytes ≡ walked (suc (length bytes)) len bytes (begun protocol)
unfolding chain_of
chain-walked protocol len bytes = refl

-- one more step of a chain that goes on, and of one that ends
pub walked-on : (n m len : ℕ) (bytes : List ℕ) (c d : Chain) → n ≡ suc m → d ≡ (stepped len bytes c).0 → (stepped len bytes c).1 ≡ true → walked n len bytes c ≡ walked m len bytes d
walked-on n m len bytes c d is next on = rw (is, next, on) refl

pub walked-end : (n m len : ℕ) (bytes : List ℕ) (c d : Chain) → n ≡ suc m → d ≡ (stepped len bytes c).0 → (stepped len bytes c).1 ≡ false → walked n len bytes c ≡ d
walked-end n m len bytes c d is next off = rw (is, next, off) refl

-- ---- no extension header

pub chain-none : (protocol len : ℕ) (bytes : List ℕ) → is_extension protocol ≡ false → chain_of protocol len bytes ≡ begun protocol
unfolding chain_of stepped
chain-none protocol len bytes other = rw other refl
