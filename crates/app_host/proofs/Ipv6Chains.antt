-- The headers after an IPv6 header.
use Rattle.std.proofs.Common.{ℕ, zero, suc, ◌≡◌, ◌≤◌, ◌<◌, Bool, true, false, List, length, slice_index, refl, subst, sym, arith, length-drop}
use Rattle.std.proofs.lemmas.Bool.Decides.{nat_tests}
use Rattle.std.specs.Prelude.{◌&&◌, nat_le, if◌then◌else◌}
use Rattle.app_host.specs.Ipv6Chain.{LeadsNowhere, LeadsTo, ends, extension_len, following, goes_on, has_headers, is_extension_header, least_len}

-- an extension header has at least 8 bytes
pub extension_len-least : (n : ℕ) (bytes : List ℕ) → 8 ≤ extension_len n bytes
extension_len-least n bytes = grind arith

-- fewer bytes follow a whole extension header
pub following-shorter : (n : ℕ) (bytes : List ℕ) → extension_len n bytes ≤ length bytes → length (following n bytes) < length bytes
following-shorter n bytes whole = grind (arith, length-drop, extension_len-least n bytes)

-- headers lead to one protocol and one message
pub leads_once : {p q : ℕ} {m k : List ℕ} {n : ℕ} {bytes : List ℕ} → LeadsTo p m n bytes → LeadsTo q k n bytes → (p ≡ q) × (m ≡ k)
leads_once (ends off) (ends same) = (refl, refl)
leads_once (ends off) (goes_on n bytes is whole rest) = absurd cc
leads_once (goes_on n bytes is whole rest) (ends off) = absurd cc
leads_once (goes_on n bytes is whole rest) (goes_on n2 bytes2 is2 whole2 rest2) = leads_once rest rest2

-- the next header leads to what an extension header leads to
pub next_leads : {p n : ℕ} {m bytes : List ℕ} → LeadsTo p m n bytes → is_extension_header n ≡ true
    → (extension_len n bytes ≤ length bytes) × LeadsTo p m (slice_index bytes 0) (following n bytes)
next_leads (ends off) is = absurd cc
next_leads (goes_on n bytes same whole rest) is = (whole, rest)

-- equal headers lead to the same
pub leads_along : {p n k : ℕ} {m bytes others : List ℕ} → n ≡ k → bytes ≡ others → LeadsTo p m n bytes → LeadsTo p m k others
leads_along {p} {n} {k} {m} {bytes} {others} same alike leads =
    subst (λ x. LeadsTo p m k x) alike (subst (λ x. LeadsTo p m x bytes) same leads)

pub nowhere_along : {n k : ℕ} {bytes others : List ℕ} → n ≡ k → bytes ≡ others → LeadsNowhere n bytes → LeadsNowhere k others
nowhere_along same alike none = λ protocol message leads. none protocol message (leads_along (sym same) (sym alike) leads)

-- headers that lead to an upper-layer protocol are all there if its own is
pub has_headers-to : (n : ℕ) {p k : ℕ} {m bytes : List ℕ} → length bytes < n → LeadsTo p m k bytes → has_headers n k bytes ≡ nat_le (least_len p) (length m)
has_headers-to zero few leads = absurd (omega arith)
has_headers-to (suc n) few (ends off) = rw off refl
has_headers-to (suc n) few (goes_on k bytes is whole rest) =
    let fits : nat_le (extension_len k bytes) (length bytes) ≡ true = grind (arith, nat_tests) in
    rw (is, fits) (has_headers-to n (omega (arith, few, following-shorter k bytes whole)) rest)

-- an extension header from which no headers lead to an upper-layer protocol is cut, or those after it lead to none
nowhere_after : (n k : ℕ) (bytes : List ℕ) (b : Bool) → nat_le (extension_len k bytes) (length bytes) ≡ b → is_extension_header k ≡ true → LeadsNowhere k bytes
    → (LeadsNowhere (slice_index bytes 0) (following k bytes) → has_headers n (slice_index bytes 0) (following k bytes) ≡ false)
    → (b && has_headers n (slice_index bytes 0) (following k bytes)) ≡ false
nowhere_after n k bytes false cut is none rest = refl
nowhere_after n k bytes true whole is none rest =
    let fits : extension_len k bytes ≤ length bytes = grind (arith, nat_tests) in rest (λ p m leads. none p m (goes_on k bytes is fits leads))

-- headers that lead to none are not
pub has_headers-not : (n k : ℕ) (bytes : List ℕ) → LeadsNowhere k bytes → has_headers n k bytes ≡ false
has_headers-not zero k bytes none = refl
has_headers-not (suc n) k bytes none = by-number (is_extension_header k) refl (λ off. has_headers-not n (slice_index bytes 0) (following k bytes) off)
  where
    by-number : (b : Bool) → is_extension_header k ≡ b
        → (LeadsNowhere (slice_index bytes 0) (following k bytes) → has_headers n (slice_index bytes 0) (following k bytes) ≡ false)
        → (if b then nat_le (extension_len k bytes) (length bytes) && has_headers n (slice_index bytes 0) (following k bytes) else nat_le (least_len k) (length bytes)) ≡ false
    by-number false off rest = absurd (none k bytes (ends off))
    by-number true is rest = nowhere_after n k bytes (nat_le (extension_len k bytes) (length bytes)) refl is none rest
