-- What fills the front of a slice.
use Rattle.std.proofs.Common.{◌≡◌, ◌∙◌, ℕ, ◌+◌, ◌≤◌, List, [], ◌++◌, drop, length, slice_range, take, ap, arith}
use Rattle.std.proofs.lemmas.Grind.{common_steps}

-- ---- a header in front of what it carries

-- a header that fills the front of a slice
front_filled : (header old front : List ℕ) (size : ℕ) → size ≤ length old → front ≡ header ++ drop size (take size old) → front ≡ header
front_filled header old front size room e =
    let none : drop size (take size old) ≡ [] = grind (arith, common_steps) in
    e ∙ ap (λ rest. header ++ rest) none ∙ grind (arith, common_steps)

-- both are at the front of the slice, if what is carried is at the front of the rest of it
pub filled-after : (header inner old front written new : List ℕ) (size len : ℕ) → size ≤ length old → length front ≡ size
    → front ≡ written → written ≡ header ++ drop size (take size old) → len ≡ length inner → len ≤ length (drop size old) → new ≡ inner ++ drop len (drop size old)
    → (size + len ≡ length (header ++ inner)) × (size + len ≤ length old) × (front ++ new ≡ (header ++ inner) ++ drop (size + len) old)
filled-after header inner old front written new size len room f is is_written n fits is_new =
    let header_is = front_filled header old front size room (is ∙ is_written) in
    (grind (arith, common_steps), grind (arith, common_steps), grind (arith, common_steps))

-- ---- a front that is written in several steps

-- a front that was written apart is the header, and the rest is unchanged
pub filled-header : (header old front written rest : List ℕ) (size : ℕ) → front ≡ written → written ≡ header → rest ≡ drop size old
    → front ++ rest ≡ header ++ drop size old
filled-header header old front written rest size is is_header following = ap (λ part. part ++ rest) (is ∙ is_header) ∙ ap (λ part. header ++ part) following

-- ---- a payload that is copied to its place

placed-part : (old payload : List ℕ) (a : ℕ) → a + length payload ≤ length old
    → slice_range (take a old ++ payload ++ drop (a + length payload) old) a (a + length payload) ≡ payload
placed-part old payload a room = grind (arith, common_steps, room)

placed-rest : (old payload : List ℕ) (a : ℕ) → a + length payload ≤ length old
    → drop (a + length payload) (take a old ++ payload ++ drop (a + length payload) old) ≡ drop (a + length payload) old
placed-rest old payload a room = grind (arith, common_steps, room)

-- what is written around it there is what is written around it anywhere
pub placed : (F : List ℕ → List ℕ) (payload old full new : List ℕ) (a : ℕ) → a + length payload ≤ length old
    → full ≡ take a old ++ payload ++ drop (a + length payload) old
    → new ≡ F (slice_range full a (a + length payload)) ++ drop (a + length payload) full
    → new ≡ F payload ++ drop (a + length payload) old
placed F payload old full new a room is holds =
    let end = a + length payload in
    let part = ap (λ s. slice_range s a end) is ∙ placed-part old payload a room in
    let rest = ap (λ s. drop end s) is ∙ placed-rest old payload a room in
    holds ∙ ap (λ s. F s ++ drop end full) part ∙ ap (λ s. F payload ++ s) rest
