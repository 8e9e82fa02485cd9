-- Extension headers that were not all captured.
use Rattle.std.proofs.Common.{ℕ, zero, suc, ◌≡◌, ◌∙◌, ◌≤◌, ◌<◌, ◌⊎◌, inl, inr, ◌+◌, ◌-◌, ◌==◌, ◌&&◌, not, nat_lt, if◌then◌else◌, Bool, true, false, List, ◌++◌, Option, Some, None, ap, drop, length, refl, subst, sym, arith}
use Rattle.std.specs.Bool.{⊤}
use Rattle.std.proofs.lemmas.Bool.{cases_lt}
use Rattle.std.proofs.lemmas.List.{drop-append-le}
use Rattle.ip_wire.specs.Field.{field}
use Rattle.ip_wire.specs.declared.Ipv6FragmentRepr.{Ipv6FragmentRepr}
use Rattle.wire_extensions.proofs.Steps.{IsGoing, IsRight, Next, by-step, grows, least-len, none-some, step-right}
use Rattle.c_read.proofs.CutBytes.{field-front, longer, lt-false, lt-true}
use Rattle.c_read.proofs.CutIpv4.{dropped}
use Rattle.wire_extensions.specs.Chain.{begun, by_fault, chain_of, entered, extension_fault, is_part, stepped, walked}
use Rattle.wire_extensions.specs.Extension.{extension_len, is_extension}
use Rattle.wire_extensions.specs.declared.chain.Chain.{Chain}
use Rattle.wire_extensions.specs.declared.chain.ExtensionFault.{ExtensionFault}
use Rattle.wire_extensions.specs.declared.chain.ExtensionFault.TheVariants as fault

-- ---- one header

-- the tests of a header, by its length, the bytes that are left and were captured, and what the other tests say
abbrev tests : ℕ → ℕ → ℕ → Option ExtensionFault → Option ExtensionFault
tests header len captured others =
    if nat_lt len 8 then Some fault.TooShort
    else if nat_lt captured 8 then Some fault.HeaderCut
    else if nat_lt len header then Some fault.TooShort
    else if nat_lt captured header then Some fault.HeaderCut
    else others

-- what a header is rejected for, if it is there as a whole
abbrev others : ℕ → Bool → List ℕ → Option ExtensionFault
others protocol first bytes =
    if (protocol == 43) && not (field bytes 24 8 == 0) then Some fault.HopsLeft
    else if (protocol == 0) && not first then Some fault.BadOrder
    else None

len-front : (protocol : ℕ) (bytes rest : List ℕ) → 8 ≤ length bytes → extension_len protocol (bytes ++ rest) ≡ extension_len protocol bytes
len-front protocol bytes rest h = rw (field-front bytes rest 8 8 (omega (arith, h))) refl

others-front : (protocol : ℕ) (first : Bool) (bytes rest : List ℕ) → 8 ≤ length bytes → others protocol first (bytes ++ rest) ≡ others protocol first bytes
others-front protocol first bytes rest h = rw (field-front bytes rest 24 8 (omega (arith, h))) refl

entered-front : (c : Chain) (bytes rest : List ℕ) → 8 ≤ length bytes → entered c (bytes ++ rest) ≡ entered c bytes
entered-front c bytes rest h =
    let front = drop 2 bytes in
    let size : length front ≡ length bytes - 2 = dropped 2 bytes in
    rw (
      drop-append-le 2 bytes rest (omega (arith, h)),
      field-front front rest 0 13 (omega (arith, size, h)),
      field-front front rest 15 1 (omega (arith, size, h)),
      field-front front rest 16 32 (omega (arith, size, h)),
      field-front bytes rest 8 8 (omega (arith, h)),
      field-front bytes rest 0 8 (omega (arith, h)),
    ) refl

-- the header was captured, or it ends after the captured bytes
abbrev IsCutHeader : ℕ → Bool → ℕ → List ℕ → List ℕ → Type 0
IsCutHeader protocol first len bytes rest =
    (extension_fault protocol first len bytes ≡ Some fault.HeaderCut) × (length bytes < extension_len protocol (bytes ++ rest))

abbrev IsSeenHeader : Chain → Bool → ℕ → List ℕ → List ℕ → Type 0
IsSeenHeader c first len bytes rest =
    by_fault c bytes (extension_fault c.protocol first len bytes) ≡ by_fault c (bytes ++ rest) (extension_fault c.protocol first len (bytes ++ rest))

header-front : (c : Chain) (first : Bool) (len : ℕ) (bytes rest : List ℕ) → len ≡ length (bytes ++ rest)
    → IsSeenHeader c first len bytes rest ⊎ IsCutHeader c.protocol first len bytes rest
header-front c first len bytes rest is =
    let all = bytes ++ rest in
    let size = longer bytes rest in
    let p = c.protocol in
    elim (cases_lt len 8) [
      | inl few ↦
          let a : extension_fault p first len bytes ≡ Some fault.TooShort = rw (lt-true len 8 few) refl in
          let b : extension_fault p first len all ≡ Some fault.TooShort = rw (lt-true len 8 few) refl in
          inl (ap (by_fault c bytes) a ∙ sym (ap (by_fault c all) b))
      | inr enough ↦ elim (cases_lt (length bytes) 8) [
        | inl few ↦
            let least = least-len p all in
            inr (rw (lt-false len 8 enough, lt-true (length bytes) 8 few) refl, omega (arith, few, least))
        | inr h ↦
            let same : extension_len p all ≡ extension_len p bytes = len-front p bytes rest h in
            let more : 8 ≤ length all = omega (arith, size, h) in
            elim (cases_lt len (extension_len p bytes)) [
              | inl short ↦
                  let a : extension_fault p first len bytes ≡ Some fault.TooShort = rw (lt-false len 8 enough, lt-false (length bytes) 8 h, lt-true len (extension_len p bytes) short) refl in
                  let b : extension_fault p first len all ≡ Some fault.TooShort =
                  ap (λ (n : ℕ). tests n len (length all) (others p first all)) same
                  ∙ rw (lt-false len 8 enough, lt-false (length all) 8 more, lt-true len (extension_len p bytes) short) refl in
                  inl (ap (by_fault c bytes) a ∙ sym (ap (by_fault c all) b))
              | inr fits ↦ elim (cases_lt (length bytes) (extension_len p bytes)) [
                | inl cut ↦
                    inr (
                      rw (lt-false len 8 enough, lt-false (length bytes) 8 h, lt-false len (extension_len p bytes) fits, lt-true (length bytes) (extension_len p bytes) cut) refl,
                      subst (λ (n : ℕ). length bytes < n) (sym same) cut,
                    )
                | inr whole ↦
                    let a : extension_fault p first len bytes ≡ others p first bytes =
                    rw (lt-false len 8 enough, lt-false (length bytes) 8 h, lt-false len (extension_len p bytes) fits, lt-false (length bytes) (extension_len p bytes) whole) refl in
                    let b : extension_fault p first len all ≡ others p first bytes =
                    ap (λ (n : ℕ). tests n len (length all) (others p first all)) same
                    ∙ rw (lt-false len 8 enough, lt-false (length all) 8 more, lt-false len (extension_len p bytes) fits, lt-false (length all) (extension_len p bytes) (omega (arith, size, whole))) refl
                    ∙ others-front p first bytes rest h in
                    inl (ap (by_fault c bytes) a ∙ seen (others p first bytes) h ∙ sym (ap (by_fault c all) b))
              ]
            ]
      ]
    ]
  where
    seen : (o : Option ExtensionFault) → 8 ≤ length bytes → by_fault c bytes o ≡ by_fault c (bytes ++ rest) o
    seen (Some why) h = refl
    seen None h = sym (entered-front c bytes rest h)

-- ---- one step

-- the chain at a header that was not captured as a whole
abbrev pub cut_at : Chain → Chain
cut_at c = record c { fault = Some fault.HeaderCut }

-- a step at a header that was cut, and the step of the whole packet
record StepsCut (len : ℕ) (bytes all : List ℕ) (c : Chain) : Type 0 where
  cut : stepped len bytes c ≡ (cut_at c, false)
  number : is_extension c.protocol ≡ true
  goes : (stepped len all c).1 ≡ true → length bytes < (stepped len all c).0.len
  ends : (stepped len all c).1 ≡ false → ((stepped len all c).0.len ≡ c.len) × ((stepped len all c).0.protocol ≡ c.protocol)

true-false : {B : Type 0} → true ≡ false → B
true-false e = absurd (cc)

false-true : {B : Type 0} → false ≡ true → B
false-true e = absurd (cc)

step-front : (len : ℕ) (bytes rest : List ℕ) (c : Chain) → len ≡ length (bytes ++ rest) → c.len ≤ length bytes
    → (stepped len bytes c ≡ stepped len (bytes ++ rest) c) ⊎ StepsCut len bytes (bytes ++ rest) c
unfolding stepped
step-front len bytes rest c is within = by (is_extension c.protocol) refl
  where
    all : List ℕ
    all = bytes ++ rest

    front : List ℕ
    front = drop c.len bytes

    cut : drop c.len all ≡ front ++ rest
    cut = drop-append-le c.len bytes rest within

    left : len - c.len ≡ length (front ++ rest)
    left = let a = longer bytes rest in let b = longer front rest in let d = dropped c.len bytes in omega (arith, is, a, b, d, within)

    whole : (b : Bool) → (if b then by_fault c (drop c.len all) (extension_fault c.protocol (c.len == 0) (len - c.len) (drop c.len all)) else (c, false))
        ≡ (if b then by_fault c (front ++ rest) (extension_fault c.protocol (c.len == 0) (len - c.len) (front ++ rest)) else (c, false))
    whole b = ap (λ (l : List ℕ). if b then by_fault c l (extension_fault c.protocol (c.len == 0) (len - c.len) l) else (c, false)) cut

    goes : (stepped len all c).1 ≡ true → length bytes < c.len + extension_len c.protocol (front ++ rest) → length bytes < (stepped len all c).0.len
    goes on few =
        by-step (λ s. s.1 ≡ true → length bytes < s.0.len) len all c (λ other e. false-true e) (λ why number fault e. false-true e) (λ number none part e. false-true e)
        (λ number none atomic e. subst (λ (l : List ℕ). length bytes < c.len + extension_len c.protocol l) (sym cut) few)
        (λ number other none e. subst (λ (l : List ℕ). length bytes < c.len + extension_len c.protocol l) (sym cut) few) on

    ends : (stepped len all c).1 ≡ false → ((stepped len all c).0.len ≡ c.len) × ((stepped len all c).0.protocol ≡ c.protocol)
    ends off =
        by-step (λ s. s.1 ≡ false → (s.0.len ≡ c.len) × (s.0.protocol ≡ c.protocol)) len all c (λ other e. (refl, refl)) (λ why number fault e. (refl, refl))
        (λ number none part e. (refl, refl)) (λ number none atomic e. true-false e) (λ number other none e. true-false e) off

    by : (b : Bool) → is_extension c.protocol ≡ b → (stepped len bytes c ≡ stepped len all c) ⊎ StepsCut len bytes all c
    by false other = inl (rw other refl)
    by true number = elim (header-front c (c.len == 0) (len - c.len) front rest left) [
      | inl same ↦ inl (rw number (same ∙ sym (whole true)))
      | inr (fault, few) ↦
          let size = dropped c.len bytes in
          inr (record {
            cut = rw (number, fault) refl;
            number = number;
            goes = λ on. goes on (omega (arith, few, size, within));
            ends = ends;
          })
    ]

-- ---- the chain

-- the chain of the captured bytes ends at a header that was cut; that of the whole packet goes past it, or ends there
pub record CutsChain (n : ℕ) (c d : Chain) : Type 0 where
  pub fault : c.fault ≡ Some fault.HeaderCut
  pub number : is_extension c.protocol ≡ true
  pub part : (v : Ipv6FragmentRepr) → c.fragment ≡ Some v → is_part v ≡ false
  pub order : c.len ≤ d.len
  pub missing : (n < d.len) ⊎ ((d.len ≡ c.len) × (is_extension d.protocol ≡ true))

-- a step that goes on passes a byte
passes : (len : ℕ) (bytes : List ℕ) (c : Chain) → (stepped len bytes c).1 ≡ true → c.len < (stepped len bytes c).0.len
passes len bytes c on =
    by-step (λ s. s.1 ≡ true → c.len < s.0.len) len bytes c (λ other e. false-true e) (λ why number fault e. false-true e) (λ number none part e. false-true e)
    (λ number none atomic e. let least = least-len c.protocol (drop c.len bytes) in omega (arith, least))
    (λ number other none e. let least = least-len c.protocol (drop c.len bytes) in omega (arith, least)) on

-- the chain at a header that was cut
cut-here : (n len : ℕ) (bytes all : List ℕ) (c : Chain) → IsGoing bytes c → StepsCut len bytes all c → CutsChain (length bytes) (cut_at c) (walked (suc n) len all c)
cut-here n len bytes all c g s = record {
  fault = refl;
  number = s.number;
  part = g.part;
  order = grows len all (suc n) c;
  missing = by (stepped len all c).1 refl;
}
  where
    by : (b : Bool) → (stepped len all c).1 ≡ b → let d = if b then walked n len all (stepped len all c).0 else (stepped len all c).0 in
        (length bytes < d.len) ⊎ ((d.len ≡ c.len) × (is_extension d.protocol ≡ true))
    by true on = let past = s.goes on in let more = grows len all n (stepped len all c).0 in inl (omega (arith, past, more))
    by false off = let (same, number) = s.ends off in inr (same, subst (λ (p : ℕ). is_extension p ≡ true) (sym number) s.number)

-- where the chain ends after a step
abbrev ends-by : ℕ → ℕ → List ℕ → Chain × Bool → Chain
ends-by n len bytes s = if s.1 then walked n len bytes s.0 else s.0

-- the chains of the captured bytes and of the whole packet
abbrev AreEqual : ℕ → Chain → Chain → Type 0
AreEqual n c d = (c ≡ d) ⊎ CutsChain n c d

going-past : (bytes : List ℕ) (c d : Chain) (b : Bool) → Next (IsGoing bytes) (IsRight bytes) d b → (b ≡ true → c.len < d.len)
    → Next (λ e. IsGoing bytes e × (c.len < e.len)) (λ e. ⊤) d b
going-past bytes c d true g past = (g, past refl)
going-past bytes c d false g past = tt

walk-by : (n m len : ℕ) (bytes rest : List ℕ) (c : Chain) → len ≡ length (bytes ++ rest) → IsGoing bytes c
    → ((d : Chain) → IsGoing bytes d → c.len < d.len → AreEqual (length bytes) (walked n len bytes d) (walked m len (bytes ++ rest) d))
    → AreEqual (length bytes) (walked (suc n) len bytes c) (walked (suc m) len (bytes ++ rest) c)
walk-by n m len bytes rest c is g others = elim (step-front len bytes rest c is g.within) [
  | inr s ↦ inr (subst (λ u. CutsChain (length bytes) (ends-by n len bytes u) (walked (suc m) len all c)) (sym s.cut) (cut-here m len bytes all c g s))
  | inl same ↦
      subst (λ u. AreEqual (length bytes) (ends-by n len bytes (stepped len bytes c)) (ends-by m len all u)) same
      (on (stepped len bytes c).0 (stepped len bytes c).1
      (going-past bytes c (stepped len bytes c).0 (stepped len bytes c).1 (step-right len bytes c g) (passes len bytes c)))
]
  where
    all : List ℕ
    all = bytes ++ rest

    on : (d : Chain) (b : Bool) → Next (λ e. IsGoing bytes e × (c.len < e.len)) (λ e. ⊤) d b
        → AreEqual (length bytes) (if b then walked n len bytes d else d) (if b then walked m len all d else d)
    on d true h = others d h.0 h.1
    on d false h = inl refl

cut-walk : (n m len : ℕ) (bytes rest : List ℕ) (c : Chain) → len ≡ length (bytes ++ rest) → IsGoing bytes c → length bytes < c.len + n → length (bytes ++ rest) < c.len + m
    → AreEqual (length bytes) (walked n len bytes c) (walked m len (bytes ++ rest) c)
cut-walk zero m len bytes rest c is g few more = absurd (let within = g.within in omega (arith, few, within))
cut-walk (suc n) zero len bytes rest c is g few more = absurd (let within = g.within in let size = longer bytes rest in omega (arith, more, within, size))
cut-walk (suc n) (suc m) len bytes rest c is g few more =
    walk-by n m len bytes rest c is g (λ d going past. cut-walk n m len bytes rest d is going (omega (arith, few, past)) (omega (arith, more, past)))

-- the chain of the captured bytes is that of the whole packet, or ends at a header that was cut
pub chain-front : (protocol len : ℕ) (bytes rest : List ℕ) → len ≡ length (bytes ++ rest)
    → (chain_of protocol len bytes ≡ chain_of protocol len (bytes ++ rest)) ⊎ CutsChain (length bytes) (chain_of protocol len bytes) (chain_of protocol len (bytes ++ rest))
unfolding chain_of
chain-front protocol len bytes rest is =
    cut-walk (suc (length bytes)) (suc (length (bytes ++ rest))) len bytes rest (begun protocol) is
    (record { within = omega arith; fault = refl; part = λ v e. none-some v e }) (omega arith) (omega arith)
