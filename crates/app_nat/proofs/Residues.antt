-- A checksum that is updated and then updated back.
use Rattle.std.proofs.Common.{ℕ, ◌≡◌, ◌+◌, ◌-◌, ◌*◌, ◌/◌, ◌%◌, ◌<◌, ◌≤◌, ◌==◌, ◌≢◌, ◌⊎◌, inl, inr, true, false, List, ap, sum, sym, ◌∙◌, refl, arith}
use Rattle.std.proofs.lemmas.Bool.{cases_lt}
use Rattle.std.proofs.lemmas.Bool.Decides.{nat_tests}
use Rattle.ip_wire.proofs.Residues.{residue-add, residue-bound, residue-quotient, residue-same, residue-small, residue-zero}
use Rattle.ip_wire.specs.Udp.{checksum_for}
use Rattle.ip_wire.specs.WordSum.{residue, sum_of_bytes, updated, words}

-- only 0 has the residue 0
residue-least : (t : ℕ) → 0 < t → 1 ≤ residue t
residue-least t h = elim (cases_lt 0 (residue t)) [
  | inl some ↦ omega (arith, some)
  | inr none ↦ absurd (omega (arith, h, residue-zero t (omega (arith, none))))
]

-- the sum of bytes has 16 bits
pub sum-fits : (bytes : List ℕ) → sum_of_bytes bytes ≤ 65535
sum-fits bytes = residue-bound (sum (words bytes))

-- ---- one update

-- the complement of a checksum changes by the change of what it covers, modulo 65535
pub record IsStep (before after old new : ℕ) : Type 0 where
  pub turns : ℕ
  pub moves : 65535 - before + (65535 - old) + new ≡ 65535 - after + 65535 * turns

pub step : (c old new : ℕ) → IsStep c (updated c old new) old new
step c old new =
    let q = residue-quotient ((65535 - c) + (65535 - old) + new) in
    let bound = residue-bound ((65535 - c) + (65535 - old) + new) in
    record { turns = q.0; moves = omega (arith, q.1, bound) }

pub below-full : (c old new : ℕ) → c < 65535 → updated c old new < 65535
below-full c old new h =
    let least = residue-least ((65535 - c) + (65535 - old) + new) (omega (arith, h)) in
    omega (arith, least)

-- a number has the residue of the sum of its words
pub folded : (n r : ℕ) → r ≡ residue (n / 65536 + (n % 65536 + 0)) → r ≡ residue n
folded n r is = is ∙ residue-same (n / 65536 + (n % 65536 + 0)) n (n / 65536) 0 (omega arith) (λ z. omega (arith, z)) (λ z. omega (arith, z))

-- two updates are one update by the sum of both changes
pub updated_twice : (c old new p q r : ℕ) → c ≤ 65535 → r ≡ residue (65535 - c + (65535 - old) + new + (65535 - p) + q)
    → 65535 - r ≡ updated (updated c old new) p q
updated_twice c old new p q r h is =
    let t = (65535 - c) + (65535 - old) + new in
    let once : 65535 - (65535 - residue t) ≡ residue t = omega (arith, residue-bound t) in
    let one : residue (residue t + ((65535 - p) + q)) ≡ residue (t + ((65535 - p) + q)) =
    residue-add (residue t) t ((65535 - p) + q) ((65535 - p) + q) (residue-small (residue t) (residue-bound t)) refl in
    let first : residue (65535 - c + (65535 - old) + new + (65535 - p) + q) ≡ residue (t + ((65535 - p) + q)) = ap residue (omega arith) in
    let second : residue (65535 - (65535 - residue t) + (65535 - p) + q) ≡ residue (residue t + ((65535 - p) + q)) = ap residue (omega (arith, once)) in
    ap (λ (n : ℕ). 65535 - n) (is ∙ first ∙ sym one ∙ sym second)

-- the checksum after an update back, if it was not 0xffff
pub updated-back : (c old new : ℕ) → c < 65535 → old ≤ 65535 → new ≤ 65535 → updated (updated c old new) new old ≡ c
updated-back c old new h o n =
    let there = step c old new in
    let back = step (updated c old new) new old in
    let a = below-full c old new h in
    let b = below-full (updated c old new) new old a in
    omega (arith, there.moves, back.moves, a, b, h, o, n)

-- two updates, and both updates back
pub updated-back_twice : (c old new p q : ℕ) → c < 65535 → old ≤ 65535 → new ≤ 65535 → p ≤ 65535 → q ≤ 65535
    → updated (updated (updated (updated c old new) p q) new old) q p ≡ c
updated-back_twice c old new p q h o n ps qs =
    let u1 = updated c old new in
    let u2 = updated u1 p q in
    let u3 = updated u2 new old in
    let s1 = step c old new in
    let s2 = step u1 p q in
    let s3 = step u2 new old in
    let s4 = step u3 q p in
    let a = below-full c old new h in
    let b = below-full u1 p q a in
    let d = below-full u2 new old b in
    let e = below-full u3 q p d in
    omega (arith, s1.moves, s2.moves, s3.moves, s4.moves, a, b, d, e, h, o, n, ps, qs)

-- ---- one update of UDP's checksum, which is never 0

-- a UDP checksum updated from the sum old to the sum new, with 0xffff instead of 0
abbrev pub udp_updated : ℕ → ℕ → ℕ → ℕ
udp_updated c old new = checksum_for (65535 - updated c old new)

-- 0xffff instead of 0
pub udp-cases : (u : ℕ) → u ≤ 65535 → ((u ≡ 0) × (checksum_for (65535 - u) ≡ 65535)) ⊎ ((1 ≤ u) × (checksum_for (65535 - u) ≡ u))
udp-cases u fits = elim (cases_lt 0 u) [
  | inl some ↦
      let test : (65535 - (65535 - u) == 0) ≡ false = let is : 65535 - (65535 - u) ≢ 0 = λ z. omega (arith, z, fits, some) in grind (arith, nat_tests) in
      inr (omega (arith, some), rw test (omega (arith, fits)))
  | inr none ↦
      let test : (65535 - (65535 - u) == 0) ≡ true = let is : 65535 - (65535 - u) ≡ 0 = omega (arith, none) in grind (arith, nat_tests) in
      inl (omega (arith, none), rw test refl)
]

-- the new checksum is not 0, has 16 bits, and differs from the old one by the update
pub record IsUdpStep (before after old new : ℕ) : Type 0 where
  pub by : IsStep before after old new
  pub some : 1 ≤ after
  pub fits : after ≤ 65535

-- an updated UDP checksum is one step from the old one
pub udp-step : (c old new : ℕ) → IsUdpStep c (udp_updated c old new) old new
udp-step c old new =
    let u = updated c old new in
    let s = step c old new in
    elim (udp-cases u (omega arith)) [
      | inl (none, is) ↦ record { by = record { turns = s.turns + 1; moves = omega (arith, s.moves, none, is) }; some = omega (arith, is); fits = omega (arith, is) }
      | inr (least, is) ↦ record { by = record { turns = s.turns; moves = omega (arith, s.moves, is) }; some = omega (arith, is, least); fits = omega (arith, is) }
    ]

-- two updates of a UDP checksum and both updates back give the checksum again
pub udp-back_twice : (c old new p q : ℕ) → 1 ≤ c → c ≤ 65535 → old ≤ 65535 → new ≤ 65535 → p ≤ 65535 → q ≤ 65535
    → udp_updated (udp_updated (udp_updated (udp_updated c old new) p q) new old) q p ≡ c
udp-back_twice c old new p q some h o n ps qs =
    let u1 = udp_updated c old new in
    let u2 = udp_updated u1 p q in
    let u3 = udp_updated u2 new old in
    let s1 = udp-step c old new in
    let s2 = udp-step u1 p q in
    let s3 = udp-step u2 new old in
    let s4 = udp-step u3 q p in
    omega (arith, s1.by.moves, s2.by.moves, s3.by.moves, s4.by.moves, s1.some, s2.some, s3.some, s4.some, s1.fits, s2.fits, s3.fits, s4.fits, some, h, o, n, ps, qs)

-- 0xffff and 0 are updated to the same checksum
full-or-none : (p x : ℕ) → p ≤ 65535 → udp_updated 65535 p x ≡ udp_updated 0 p x
full-or-none p x fits = elim (cases_lt 0 (65535 - p + x)) [
  | inl some ↦
      let same : residue (65535 - 65535 + (65535 - p) + x) ≡ residue (65535 - 0 + (65535 - p) + x) =
      residue-same (65535 - 65535 + (65535 - p) + x) (65535 - 0 + (65535 - p) + x) 1 0 (omega arith) (λ z. absurd (omega (arith, z, some))) (λ z. absurd (omega (arith, z))) in
      ap (λ (r : ℕ). checksum_for (65535 - (65535 - r))) same
  | inr none ↦
      let zero : residue (65535 - 65535 + (65535 - p) + x) ≡ 0 = residue-small (65535 - 65535 + (65535 - p) + x) (omega (arith, none)) ∙ omega (arith, none) in
      let all : residue (65535 - 0 + (65535 - p) + x) ≡ 65535 = residue-small (65535 - 0 + (65535 - p) + x) (omega (arith, none)) ∙ omega (arith, none) in
      ap (λ (r : ℕ). checksum_for (65535 - (65535 - r))) zero ∙ sym (ap (λ (r : ℕ). checksum_for (65535 - (65535 - r))) all)
]

-- of two updates only the second one need avoid 0
pub udp_twice : (c old new p q : ℕ) → p ≤ 65535 → udp_updated (udp_updated c old new) p q ≡ udp_updated (updated c old new) p q
udp_twice c old new p q fits = elim (udp-cases (updated c old new) (omega arith)) [
  | inl (none, is) ↦ ap (λ (k : ℕ). udp_updated k p q) is ∙ full-or-none p q fits ∙ sym (ap (λ (k : ℕ). udp_updated k p q) none)
  | inr (some, is) ↦ ap (λ (k : ℕ). udp_updated k p q) is
]
