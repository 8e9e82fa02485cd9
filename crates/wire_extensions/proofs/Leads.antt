-- A chain of IPv6 extension headers that is stepped through leads to what follows them, and to nothing else.
use Rattle.std.proofs.Common.{ℕ, zero, suc, ◌≡◌, ◌∙◌, ◌≤◌, ◌<◌, ◌+◌, ◌*◌, ◌==◌, if◌then◌else◌, Bool, true, false, List, Option, Some, None, ap, drop, length, refl, subst, sym, arith}
use Rattle.std.proofs.lemmas.List.{drop-drop, length-drop}
use Rattle.std.proofs.lemmas.Bool.Decides.{nat_tests}
use Rattle.net_base.specs.Field.{field}
use Rattle.wire_ipv6.specs.declared.ipv6fragment.repr.Ipv6FragmentRepr.{Ipv6FragmentRepr}
use Rattle.wire_extensions.proofs.Steps.{IsGoing, IsRight, Next, by-step, fault_at, least-len, none-some, step-right, values_at}
use Rattle.wire_extensions.specs.Chain.{IsThrough, LeadsTo, after, begun, chain_of, ends, extension_fault, goes_on, is_part, walked}
use Rattle.wire_extensions.specs.Extension.{extension_len, is_extension}
use Rattle.wire_extensions.specs.declared.chain.Chain.{Chain}

-- the headers after a chain lead to where another one ends
abbrev Leads : List ℕ → Chain → Chain → Type 0
Leads bytes c d = LeadsTo d.protocol (drop d.len bytes) (c.len == 0) c.protocol (drop c.len bytes)

-- the headers after a chain lead to the end of the walk, if that has no rejected header and no fragment
abbrev Ends : List ℕ → Chain → Chain → Type 0
Ends bytes c d = IsThrough d → Leads bytes c d

true-false : {B : Type 0} (b : Bool) → b ≡ true → b ≡ false → B
true-false b t f = absurd (cc)

-- no header after the first is directly after the IPv6 header
later : (n m : ℕ) → 8 ≤ m → (n + m == 0) ≡ false
later n m h = grind (arith, nat_tests, h)

-- what follows a header, by the bytes from it on
after-leads : (bytes : List ℕ) (c d : Chain) (o : Option Ipv6FragmentRepr) → Leads bytes (after (record c { fragment = o }) (drop c.len bytes)) d
    → LeadsTo d.protocol (drop d.len bytes) false (field (drop c.len bytes) 0 8) (drop (extension_len c.protocol (drop c.len bytes)) (drop c.len bytes))
after-leads bytes c d o l =
    let size = extension_len c.protocol (drop c.len bytes) in
    let least = least-len c.protocol (drop c.len bytes) in
    subst (λ (rest : List ℕ). LeadsTo d.protocol (drop d.len bytes) false (field (drop c.len bytes) 0 8) rest) (sym (drop-drop size c.len bytes))
    (subst (λ (b : Bool). LeadsTo d.protocol (drop d.len bytes) b (field (drop c.len bytes) 0 8) (drop (c.len + size) bytes)) (later c.len size least) l)

-- the tests of a header, by the bytes that it begins
whole-tests : (bytes : List ℕ) (c : Chain) → fault_at (length bytes) bytes c ≡ None
    → extension_fault c.protocol (c.len == 0) (length (drop c.len bytes)) (drop c.len bytes) ≡ None
whole-tests bytes c none = ap (λ (n : ℕ). extension_fault c.protocol (c.len == 0) n (drop c.len bytes)) (length-drop c.len bytes) ∙ none

no-fragment : {B : Type 0} (p : ℕ) → p ≡ 44 → (p == 44) ≡ false → B
no-fragment p is not = let never : (44 == 44) ≡ false = subst (λ (k : ℕ). (k == 44) ≡ false) is not in absurd (cc)

step-leads : (n : ℕ) (bytes : List ℕ) (c : Chain) → IsGoing bytes c
    → ((d : Chain) → IsGoing bytes d → c.len < d.len → Ends bytes d (walked n (length bytes) bytes d)) → Ends bytes c (walked (suc n) (length bytes) bytes c)
step-leads n bytes c g others =
    by-step (λ s. Next (IsGoing bytes) (IsRight bytes) s.0 s.1 → Ends bytes c (if s.1 then walked n (length bytes) bytes s.0 else s.0)) (length bytes) bytes c
    (λ other h t. ends (c.len == 0) other)
    (λ why number fault h t. none-some why (sym t.fault))
    (λ is none part h t. true-false (is_part (values_at bytes c)) part (t.whole (values_at bytes c) refl))
    (λ is none whole h t. goes_on (c.len == 0) c.protocol rest (subst (λ p. is_extension p ≡ true) (sym is) refl) (whole-tests bytes c none) (λ e. whole)
    (after-leads bytes c (walked n (length bytes) bytes (after (record c { fragment = Some (values_at bytes c) }) rest)) (Some (values_at bytes c)) (others _ h past t)))
    (λ number other none h t. goes_on (c.len == 0) c.protocol rest number (whole-tests bytes c none) (λ e. no-fragment c.protocol e other)
    (after-leads bytes c (walked n (length bytes) bytes (after c rest)) c.fragment (others _ h past t)))
    (step-right (length bytes) bytes c g)
  where
    rest : List ℕ
    rest = drop c.len bytes

    past : c.len < c.len + extension_len c.protocol rest
    past = let least = least-len c.protocol rest in omega (arith, least)

walk-leads : (n : ℕ) (bytes : List ℕ) (c : Chain) → IsGoing bytes c → length bytes < c.len + n → Ends bytes c (walked n (length bytes) bytes c)
walk-leads zero bytes c g few = absurd (let within = g.within in omega (arith, few, within))
walk-leads (suc n) bytes c g few = step-leads n bytes c g (λ d going past. walk-leads n bytes d going (omega (arith, few, past)))

pub chain-leads : (protocol : ℕ) (bytes : List ℕ) → let c = chain_of protocol (length bytes) bytes in
    IsThrough c → LeadsTo c.protocol (drop c.len bytes) true protocol bytes
unfolding chain_of
chain-leads protocol bytes t =
    walk-leads (suc (length bytes)) bytes (begun protocol) (record { within = omega arith; fault = refl; part = λ v e. none-some v e }) (omega arith) t
