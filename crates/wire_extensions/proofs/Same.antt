-- A chain of IPv6 extension headers depends only on the bytes that it was read from.
use Rattle.std.proofs.Common.{ℕ, zero, suc, ◌≡◌, ◌∙◌, ◌⊎◌, ◌≤◌, ◌<◌, ◌+◌, ◌*◌, ◌-◌, ◌||◌, ◌==◌, ◌&&◌, not, nat_lt, if◌then◌else◌, Bool, true, false, List, Option, Some, None, ap, arith, drop, inl, inr, length, refl, slice_index, subst, sym}
use Rattle.std.proofs.lemmas.List.{get_or-drop, length-drop}
use Rattle.net_base.specs.Field.{field}
use Rattle.wire_ipv6.specs.Ipv6Fragment as fragment
use Rattle.wire_ipv6.specs.declared.ipv6fragment.repr.Ipv6FragmentRepr.{Ipv6FragmentRepr}
use Rattle.wire_extensions.proofs.Steps.{IsGoing, IsRight, Next, both-tests, by-step, grows, least-len, none-some, step-right, walked-on}
use Rattle.wire_extensions.specs.Chain.{after, begun, by_fault, chain_of, ends_at_part, entered, extension_fault, is_part, stepped, walked}
use Rattle.wire_extensions.specs.Extension.{extension_len, is_extension}
use Rattle.wire_extensions.specs.declared.chain.Chain.{Chain}
use Rattle.wire_extensions.specs.declared.chain.ExtensionFault.{ExtensionFault}
use Rattle.wire_extensions.specs.declared.chain.ExtensionFault.TheVariants as fault

-- ---- one header

-- the first eight bytes of two lists are the same
abbrev BeginSame : List ℕ → List ℕ → Type 0
BeginSame xs ys = (k : ℕ) → k < 8 → slice_index ys k ≡ slice_index xs k

-- and from this place on
abbrev AreSame : ℕ → List ℕ → List ℕ → Type 0
AreSame n xs ys = (k : ℕ) → k < 8 → slice_index ys (n + k) ≡ slice_index xs (n + k)

index-same : (xs ys : List ℕ) (n k : ℕ) → slice_index ys (n + k) ≡ slice_index xs (n + k) → slice_index (drop n ys) k ≡ slice_index (drop n xs) k
index-same xs ys n k same = get_or-drop n ys k 0 ∙ same ∙ sym (get_or-drop n xs k 0)

fault-same : (protocol : ℕ) (first : Bool) (len : ℕ) (xs ys : List ℕ) → length ys ≡ length xs → BeginSame xs ys
    → extension_fault protocol first len ys ≡ extension_fault protocol first len xs
fault-same protocol first len xs ys long same =
    let b1 = same 1 (omega arith) in
    let b3 = same 3 (omega arith) in
    let size : field ys 8 8 ≡ field xs 8 8 = omega (arith, b1) in
    let left : field ys 24 8 ≡ field xs 24 8 = omega (arith, b3) in
    λ i. let header = if protocol == 44 then 8 else if protocol == 51 then 8 + 4 * size i else 8 + 8 * size i in
    if nat_lt len 8 then Some fault.TooShort
    else if nat_lt (long i) 8 then Some fault.HeaderCut
    else if nat_lt len header then Some fault.TooShort
    else if nat_lt (long i) header then Some fault.HeaderCut
    else if (protocol == 43) && not (left i == 0) then Some fault.HopsLeft
    else if (protocol == 0) && not first then Some fault.BadOrder
    else None

values-same : (xs ys : List ℕ) → BeginSame xs ys → fragment.header_of (drop 2 ys) ≡ fragment.header_of (drop 2 xs)
values-same xs ys same =
    let b0 = index-same xs ys 2 0 (same 2 (omega arith)) in
    let b1 = index-same xs ys 2 1 (same 3 (omega arith)) in
    let b2 = index-same xs ys 2 2 (same 4 (omega arith)) in
    let b3 = index-same xs ys 2 3 (same 5 (omega arith)) in
    let b4 = index-same xs ys 2 4 (same 6 (omega arith)) in
    let b5 = index-same xs ys 2 5 (same 7 (omega arith)) in
    let offset : field (drop 2 ys) 0 13 ≡ field (drop 2 xs) 0 13 = omega (arith, b0, b1) in
    let more : field (drop 2 ys) 15 1 ≡ field (drop 2 xs) 15 1 = omega (arith, b1) in
    let ident : field (drop 2 ys) 16 32 ≡ field (drop 2 xs) 16 32 = omega (arith, b2, b3, b4, b5) in
    λ i. record { frag_offset = offset i; more_frags = more i == 1; ident = ident i }

after-same : (c : Chain) (xs ys : List ℕ) → BeginSame xs ys → after c ys ≡ after c xs
after-same c xs ys same =
    let b0 = same 0 (omega arith) in
    let b1 = same 1 (omega arith) in
    let next : field ys 0 8 ≡ field xs 0 8 = omega (arith, b0) in
    let size : field ys 8 8 ≡ field xs 8 8 = omega (arith, b1) in
    λ i. record c {
      len = c.len + (if c.protocol == 44 then 8 else if c.protocol == 51 then 8 + 4 * size i else 8 + 8 * size i);
      protocol = next i;
      is_authenticated = c.is_authenticated || c.protocol == 51;
    }

entered-same : (c : Chain) (xs ys : List ℕ) → BeginSame xs ys → entered c ys ≡ entered c xs
entered-same c xs ys same =
    let values = values-same xs ys same in
    λ i. let noted : Chain = record c { fragment = Some (values i) } in
    if c.protocol == 44
    then if is_part (values i) then (noted, false) else (after-same noted xs ys same i, true)
    else (after-same c xs ys same i, true)

-- ---- one step

step-same : (len : ℕ) (xs ys : List ℕ) (c : Chain) → length ys ≡ length xs → (is_extension c.protocol ≡ true → AreSame c.len xs ys)
    → stepped len ys c ≡ stepped len xs c
unfolding stepped
step-same len xs ys c long same = by (is_extension c.protocol) refl
  where
    left : length (drop c.len ys) ≡ length (drop c.len xs)
    left = length-drop c.len ys ∙ ap (λ k. k - c.len) long ∙ sym (length-drop c.len xs)

    rest : is_extension c.protocol ≡ true → BeginSame (drop c.len xs) (drop c.len ys)
    rest is k h = index-same xs ys c.len k (same is k h)

    by-why : (o : Option ExtensionFault) → BeginSame (drop c.len xs) (drop c.len ys) → by_fault c (drop c.len ys) o ≡ by_fault c (drop c.len xs) o
    by-why (Some why) all = refl
    by-why None all = entered-same c (drop c.len xs) (drop c.len ys) all

    by : (b : Bool) → is_extension c.protocol ≡ b
        → (if b then by_fault c (drop c.len ys) (extension_fault c.protocol (c.len == 0) (len - c.len) (drop c.len ys)) else (c, false))
        ≡ (if b then by_fault c (drop c.len xs) (extension_fault c.protocol (c.len == 0) (len - c.len) (drop c.len xs)) else (c, false))
    by false is = refl
    by true is =
        ap (by_fault c (drop c.len ys)) (fault-same c.protocol (c.len == 0) (len - c.len) (drop c.len xs) (drop c.len ys) left (rest is))
        ∙ by-why (extension_fault c.protocol (c.len == 0) (len - c.len) (drop c.len xs)) (rest is)

-- ---- the chain

-- the bytes that a chain was read from: those of the headers that were stepped through, and the first eight of the
-- extension header that it ends at
abbrev pub Reads : Chain → ℕ → Type 0
Reads c k = (k < c.len) ⊎ ((is_extension c.protocol ≡ true) × (k < c.len + 8))

-- where the chain ends after a step
abbrev ends-by : ℕ → ℕ → List ℕ → Chain × Bool → Chain
ends-by n len bytes s = if s.1 then walked n len bytes s.0 else s.0

reads-step : (n len : ℕ) (xs : List ℕ) (c : Chain) (k : ℕ) → is_extension c.protocol ≡ true → k < 8 → Reads (walked (suc n) len xs c) (c.len + k)
reads-step n len xs c k is h =
    by-step (λ s. Reads (ends-by n len xs s) (c.len + k)) len xs c (λ other. both-tests (is_extension c.protocol) is other)
    (λ why number fault. inr (is, omega (arith, h))) (λ number none part. inr (is, omega (arith, h)))
    (λ number none atomic. let more = grows len xs n (after (record c { fragment = Some (fragment.header_of (drop 2 (drop c.len xs))) }) (drop c.len xs)) in inl (omega (arith, more, least, h)))
    (λ number other none. let more = grows len xs n (after c (drop c.len xs)) in inl (omega (arith, more, least, h)))
  where
    least : 8 ≤ extension_len c.protocol (drop c.len xs)
    least = least-len c.protocol (drop c.len xs)

ends-same : (n len : ℕ) (xs ys : List ℕ) (d : Chain) (b : Bool) → (b ≡ true → walked n len ys d ≡ walked n len xs d)
    → (if b then walked n len ys d else d) ≡ (if b then walked n len xs d else d)
ends-same n len xs ys d true rest = rest refl
ends-same n len xs ys d false rest = refl

walk-same : (n len : ℕ) (xs ys : List ℕ) (c : Chain) → length ys ≡ length xs → ((k : ℕ) → Reads (walked n len xs c) k → slice_index ys k ≡ slice_index xs k)
    → walked n len ys c ≡ walked n len xs c
walk-same zero len xs ys c long same = refl
walk-same (suc n) len xs ys c long same =
    ap (λ (s : Chain × Bool). ends-by n len ys s) (step-same len xs ys c long (λ is k h. same (c.len + k) (reads-step n len xs c k is h)))
    ∙ ends-same n len xs ys (stepped len xs c).0 (stepped len xs c).1
    (λ on. walk-same n len xs ys (stepped len xs c).0 long
    (λ k read. same k (subst (λ (e : Chain). Reads e k) (sym (walked-on (suc n) n len xs c (stepped len xs c).0 refl refl on)) read)))

pub chain-same : (protocol len : ℕ) (xs ys : List ℕ) → length ys ≡ length xs
    → ((k : ℕ) → Reads (chain_of protocol len xs) k → slice_index ys k ≡ slice_index xs k) → chain_of protocol len ys ≡ chain_of protocol len xs
unfolding chain_of
chain-same protocol len xs ys long same =
    ap (λ (n : ℕ). walked (suc n) len ys (begun protocol)) long ∙ walk-same (suc (length xs)) len xs ys (begun protocol) long same

-- ---- where a chain ends

-- a chain that ends at an extension header ends at one that is rejected, or at the header of a fragment
abbrev pub IsEnd : Chain → Type 0
IsEnd c = is_extension c.protocol ≡ true → c.fault ≡ None → ends_at_part c.fragment ≡ true

end-by : (n len : ℕ) (bytes : List ℕ) (c : Chain) → IsGoing bytes c
    → ((d : Chain) → IsGoing bytes d → c.len < d.len → IsEnd (walked n len bytes d)) → IsEnd (walked (suc n) len bytes c)
end-by n len bytes c g others =
    by-step (λ s. Next (IsGoing bytes) (IsRight bytes) s.0 s.1 → IsEnd (ends-by n len bytes s)) len bytes c
    (λ other h is none. both-tests (is_extension c.protocol) is other)
    (λ why number fault h is none. none-some why (sym none))
    (λ number none part h is whole. part)
    (λ number none atomic h. others _ h past)
    (λ number other none h. others _ h past)
    (step-right len bytes c g)
  where
    past : c.len < c.len + extension_len c.protocol (drop c.len bytes)
    past = let least = least-len c.protocol (drop c.len bytes) in omega (arith, least)

walk-end : (n len : ℕ) (bytes : List ℕ) (c : Chain) → IsGoing bytes c → length bytes < c.len + n → IsEnd (walked n len bytes c)
walk-end zero len bytes c g few = absurd (let within = g.within in omega (arith, few, within))
walk-end (suc n) len bytes c g few = end-by n len bytes c g (λ d going past. walk-end n len bytes d going (omega (arith, few, past)))

pub chain-end : (protocol len : ℕ) (bytes : List ℕ) → IsEnd (chain_of protocol len bytes)
unfolding chain_of
chain-end protocol len bytes =
    walk-end (suc (length bytes)) len bytes (begun protocol) (record { within = omega arith; fault = refl; part = λ v e. none-some v e }) (omega arith)
