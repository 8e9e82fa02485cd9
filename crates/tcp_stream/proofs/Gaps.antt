-- Bytes in a ring after a write, and after a read.
use Rattle.std.proofs.Common.{◌≡◌, ◌⊎◌, ℕ, ◌+◌, ◌-◌, ◌≤◌, ◌<◌, List, length, get_or, take, refl, sym, ◌∙◌, ap, arith}
use Rattle.std.proofs.lemmas.List.{take-append-le, take-take, length-take-le, get_or-take, get_or-drop}
use Rattle.tcp_stream.specs.Ring.{ring, placed}
use Rattle.tcp_stream.proofs.Places.{ring_drop, Written, written}

-- a write leaves what is before it
pub placed_before : (at m : ℕ) (ys all : List ℕ) → m ≤ at → at ≤ length all → take m (placed at ys all) ≡ take m all
placed_before at m ys all le fits = take-append-le m (take at all) _ (omega (arith, length-take-le at all fits)) ∙ take-take m at all le

pub placed_is : (at : ℕ) (ys all : List ℕ) → at + length ys ≤ length all → Written at all ys (placed at ys all)
placed_is at ys all fits = written at (length ys) all ys refl fits

-- a byte of the ring after its first bytes were read
pub byte_read : (s t n len k : ℕ) (b : List ℕ) → s < length b → t < length b → (t ≡ s + n) ⊎ (t + length b ≡ s + n) → n ≤ len → len + k < length b
    → get_or (ring t b) (len - n + k) 0 ≡ get_or (ring s b) (len + k) 0
byte_read s t n len k b start inside is le fits =
    let m = len + k + 1 in
    let same = ring_drop s t n m b start inside is (omega arith) (omega arith) in
    let at : n + (len - n + k) ≡ len + k = omega arith in
    sym (get_or-take (m - n) (ring t b) (len - n + k) 0 (omega arith)) ∙ ap (λ (l : List ℕ). get_or l (len - n + k) 0) (sym same) ∙ get_or-drop n (take m (ring s b)) (len - n + k) 0
    ∙ ap (λ (j : ℕ). get_or (take m (ring s b)) j 0) at ∙ get_or-take m (ring s b) (len + k) 0 (omega arith)
