-- A UDP packet with another port, after an address of its pseudo-header changed.
use Rattle.std.proofs.Common.{ℕ, ◌≡◌, ◌≢◌, ◌≤◌, ◌<◌, ◌-◌, ◌==◌, ◌↔◌, inl, inr, if◌then◌else◌, Bool, true, false, List, ◌∷◌, ◌++◌, drop, length, slice_index, refl, sym, ap, subst, ◌∙◌, arith}
use Rattle.std.proofs.lemmas.Bool.{cases_lt}
use Rattle.std.proofs.lemmas.Bool.Decides.{nat_tests}
use Rattle.ip_wire.proofs.Spelled.{AreBytes}
use Rattle.ip_wire.specs.Field.{field, with_field, word_at}
use Rattle.ip_wire.specs.Udp.{checksum_for, with_updated_checksum}
use Rattle.ip_wire.specs.WordSum.{sum_of_bytes, updated}
use Rattle.ip_wire.proofs.Cells.{cells, cells-drop, word_high, word_low}
use Rattle.app_nat.proofs.Ends.{IsPorted, back, checksum, ended, has-both, header, indexed, port-fits, ported, with_both}
use Rattle.app_nat.proofs.Residues.{sum-fits, udp-back_twice, udp-step, udp_twice, udp_updated}
use Rattle.app_nat.proofs.Words.{spelled-fits, spelled-word, word}
use Rattle.app_nat.specs.Nat.{port_bit, with_udp_end}
use Rattle.app_edit.specs.declared.side.Side.{Side}
use Rattle.app_edit.specs.declared.side.Side.TheVariants.{Source, Destination}

-- ---- one update

-- the updated checksum, or 0 if it was 0
abbrev pub udp_next : ℕ → ℕ → ℕ → ℕ
udp_next s old new = if s == 0 then s else udp_updated s old new

next-some : (s old new : ℕ) → 1 ≤ s → udp_next s old new ≡ udp_updated s old new
next-some s old new some =
    let test : (s == 0) ≡ false = let is : s ≢ 0 = λ z. omega (arith, z, some) in grind (arith, nat_tests) in
    rw test refl

next-none : (s old new : ℕ) → s ≡ 0 → udp_next s old new ≡ 0
next-none s old new zero = subst (λ (k : ℕ). udp_next k old new ≡ 0) (sym zero) refl

next-fits : (s old new : ℕ) → s < 65536 → udp_next s old new < 65536
next-fits s old new fits = by_case (s == 0)
  where
    by_case : (b : Bool) → (if b then s else udp_updated s old new) < 65536
    by_case true = fits
    by_case false = omega (arith, (udp-step s old new).fits)

next-back : (s o n p x : ℕ) → s < 65536 → o ≤ 65535 → n ≤ 65535 → p ≤ 65535 → x ≤ 65535
    → udp_next (udp_next (udp_next (udp_next s o n) p x) n o) x p ≡ s
next-back s o n p x fits os ns ps xs = elim (cases_lt 0 s) [
  | inl some ↦
      let u1 = udp_updated s o n in
      let u2 = udp_updated u1 p x in
      let u3 = udp_updated u2 n o in
      let s1 = udp-step s o n in
      let s2 = udp-step u1 p x in
      let s3 = udp-step u2 n o in
      ap (λ (k : ℕ). udp_next (udp_next (udp_next k p x) n o) x p) (next-some s o n some)
      ∙ ap (λ (k : ℕ). udp_next (udp_next k n o) x p) (next-some u1 p x s1.some)
      ∙ ap (λ (k : ℕ). udp_next k x p) (next-some u2 n o s2.some)
      ∙ next-some u3 x p s3.some
      ∙ udp-back_twice s o n p x some (omega (arith, fits)) os ns ps xs
  | inr none ↦
      let zero : s ≡ 0 = omega (arith, none) in
      subst (λ (k : ℕ). udp_next (udp_next (udp_next (udp_next k o n) p x) n o) x p ≡ k) (sym zero) refl
]

put-checksum : (p q s x : ℕ) (middle rest : List ℕ) → with_field (header 2 p q middle s rest) 48 16 x ≡ header 2 p q middle x rest
put-checksum p q s x middle rest =
    let n = word_at (header 2 p q middle s rest) 48 16 in
    λ i. word p (word q (cells 2 middle ++ (word_high n x i ∷ word_low n x i ∷ rest)))

updated-header : (p q s old new : ℕ) (middle rest : List ℕ) → s < 65536
    → with_updated_checksum (header 2 p q middle s rest) old new ≡ header 2 p q middle (udp_next s old new) rest
updated-header p q s old new middle rest fits =
    ap (λ (c : ℕ). if c == 0 then header 2 p q middle s rest else with_field (header 2 p q middle s rest) 48 16 (udp_updated c old new)) (spelled-word s fits) ∙ by_case (s == 0)
  where
    by_case : (b : Bool) → (if b then header 2 p q middle s rest else with_field (header 2 p q middle s rest) 48 16 (udp_updated s old new)) ≡ header 2 p q middle (if b then s else udp_updated s old new) rest
    by_case true = refl
    by_case false = put-checksum p q s (udp_updated s old new) middle rest

-- ---- a port and the checksum

pub whole : (l : List ℕ) → 8 ≤ length l → l ≡ indexed 2 l
whole l room = subst (λ m. m ≡ indexed 2 m) (sym (cells-drop 8 l room)) refl

pub udp-ported : (side : Side) (l : List ℕ) → IsPorted with_updated_checksum udp_next side (with_both 2 side l)
udp-ported side l = ported 2 with_updated_checksum udp_next side l updated-header next-fits

put-both : (side : Side) (l : List ℕ) (x s u : ℕ) → with_field (with_both 2 side l x s) 48 16 u ≡ with_both 2 side l x u
put-both Source l x s u = put-checksum x (field l 16 16) s u (drop 4 l) (drop 8 l)
put-both Destination l x s u = put-checksum (field l 0 16) x s u (drop 4 l) (drop 8 l)

-- without a checksum only the port is written
pub udp-unsummed : (side : Side) (l old new : List ℕ) (x : ℕ) → AreBytes l → 8 ≤ length l → field l 48 16 ≡ 0
    → with_field l (port_bit side) 16 x ≡ with_udp_end side old new x l
udp-unsummed side l old new x are room none =
    let p = field l (port_bit side) 16 in
    let s = field l 48 16 in
    let o = sum_of_bytes old in
    let n = sum_of_bytes new in
    let ss = spelled-fits (slice_index l 6) (slice_index l 7) in
    let at = udp-ported side l in
    let both = has-both 2 side l are (whole l room) in
    let same : s ≡ udp_next (udp_next s o n) p x = none ∙ sym (next-none (udp_next s o n) p x (next-none s o n none)) in
    ap (λ (m : List ℕ). with_field m (port_bit side) 16 x) both ∙ at.put p s x ∙ ap (with_both 2 side l x) same
    ∙ sym (ended with_updated_checksum udp_next side (with_both 2 side l) p s x old new at (port-fits side l) ss)
    ∙ ap (with_udp_end side old new x) (sym both)

-- else the port is written, and then the checksum that was updated twice
pub udp-written : (side : Side) (l old new : List ℕ) (x u : ℕ) → AreBytes l → 8 ≤ length l → field l 48 16 ≢ 0
    → u ≡ checksum_for (65535 - updated (updated (field l 48 16) (sum_of_bytes old) (sum_of_bytes new)) (field l (port_bit side) 16) x)
    → with_field (with_field l (port_bit side) 16 x) 48 16 u ≡ with_udp_end side old new x l
udp-written side l old new x u are room usual is =
    let p = field l (port_bit side) 16 in
    let s = field l 48 16 in
    let o = sum_of_bytes old in
    let n = sum_of_bytes new in
    let ss = spelled-fits (slice_index l 6) (slice_index l 7) in
    let some : 1 ≤ s = omega (arith, usual) in
    let at = udp-ported side l in
    let both = has-both 2 side l are (whole l room) in
    let next : udp_next (udp_next s o n) p x ≡ u =
    ap (λ (k : ℕ). udp_next k p x) (next-some s o n some) ∙ next-some (udp_updated s o n) p x (udp-step s o n).some
    ∙ udp_twice s o n p x (omega (arith, port-fits side l)) ∙ sym is in
    ap (λ (m : List ℕ). with_field (with_field m (port_bit side) 16 x) 48 16 u) both
    ∙ ap (λ (m : List ℕ). with_field m 48 16 u) (at.put p s x)
    ∙ put-both side l x s u
    ∙ ap (with_both 2 side l x) (sym next)
    ∙ sym (ended with_updated_checksum udp_next side (with_both 2 side l) p s x old new at (port-fits side l) ss)
    ∙ ap (with_udp_end side old new x) (sym both)

-- translating a UDP packet and then back gives the packet again
pub udp-back : (side : Side) (l old new : List ℕ) (x : ℕ) → AreBytes l → 8 ≤ length l → x < 65536
    → with_udp_end side new old (field l (port_bit side) 16) (with_udp_end side old new x l) ≡ l
udp-back side l old new x are room xs =
    let p = field l (port_bit side) 16 in
    let ss = spelled-fits (slice_index l 6) (slice_index l 7) in
    back 2 with_updated_checksum udp_next side l old new p x (udp-ported side l) are (whole l room) refl xs
    (next-back (checksum 2 l) (sum_of_bytes old) (sum_of_bytes new) p x ss (sum-fits old) (sum-fits new) (omega (arith, port-fits side l)) (omega (arith, xs)))

-- ---- the same for any bytes

-- length and presence of a checksum are unchanged
pub record IsEnded (old new : List ℕ) : Type 0 where
  pub long : length new ≡ length old
  pub unsummed : (field old 48 16 ≡ 0) ↔ (field new 48 16 ≡ 0)

none-next : (s old new : ℕ) → udp_next s old new ≡ 0 → s ≡ 0
none-next s old new z = elim (cases_lt 0 s) [
  | inl some ↦ absurd (omega (arith, z, next-some s old new some, (udp-step s old new).some))
  | inr none ↦ omega (arith, none)
]

ended_header : (side : Side) (l : List ℕ) (p s x t : ℕ) → s < 65536 → t < 65536 → (s ≡ 0 → t ≡ 0) → (t ≡ 0 → s ≡ 0) → IsEnded (with_both 2 side l p s) (with_both 2 side l x t)
ended_header Source l p s x t a b there back = record {
  long = refl;
  unsummed = (λ k. spelled-word t b ∙ there (sym (spelled-word s a) ∙ k), λ k. spelled-word s a ∙ back (sym (spelled-word t b) ∙ k));
}
ended_header Destination l p s x t a b there back = record {
  long = refl;
  unsummed = (λ k. spelled-word t b ∙ there (sym (spelled-word s a) ∙ k), λ k. spelled-word s a ∙ back (sym (spelled-word t b) ∙ k));
}

two : (s o n p x : ℕ) → s < 65536 → (udp_next (udp_next s o n) p x < 65536) × (s ≡ 0 → udp_next (udp_next s o n) p x ≡ 0) × (udp_next (udp_next s o n) p x ≡ 0 → s ≡ 0)
two s o n p x fits = (
  next-fits (udp_next s o n) p x (next-fits s o n fits),
  λ z. next-none (udp_next s o n) p x (next-none s o n z),
  λ z. none-next s o n (none-next (udp_next s o n) p x z),
)

-- a translated UDP packet keeps its length, and has a checksum exactly if it had one
pub udp-ended : (side : Side) (l old new : List ℕ) (x : ℕ) → AreBytes l → 8 ≤ length l → IsEnded l (with_udp_end side old new x l)
udp-ended side l old new x are room =
    let p = field l (port_bit side) 16 in
    let s = field l 48 16 in
    let ss = spelled-fits (slice_index l 6) (slice_index l 7) in
    let t = two s (sum_of_bytes old) (sum_of_bytes new) p x ss in
    let is = has-both 2 side l are (whole l room) in
    subst (λ (m : List ℕ). IsEnded m (with_udp_end side old new x m)) (sym is)
    (subst (IsEnded (with_both 2 side l p s)) (sym (ended with_updated_checksum udp_next side (with_both 2 side l) p s x old new (udp-ported side l) (port-fits side l) ss))
    (ended_header side l p s x _ ss t.0 t.1 t.2))
