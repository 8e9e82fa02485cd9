-- A TCP segment with another port, after an address of its pseudo-header changed.
use Rattle.std.proofs.Common.{ℕ, ◌≡◌, ◌≢◌, ◌≤◌, ◌<◌, List, ◌∷◌, ◌++◌, drop, length, slice_index, refl, sym, subst, ap, ◌∙◌, arith}
use Rattle.ip_wire.proofs.Cells.{cells, cells-drop, word_high, word_low}
use Rattle.ip_wire.proofs.Spelled.{AreBytes}
use Rattle.ip_wire.specs.Field.{field, with_field, word_at}
use Rattle.ip_wire.specs.Tcp.{with_updated_checksum}
use Rattle.ip_wire.specs.WordSum.{sum_of_bytes, updated}
use Rattle.app_nat.proofs.Ends.{IsPorted, back, ended, has-both, header, indexed, port-fits, ported, with_both}
use Rattle.app_nat.proofs.Residues.{sum-fits, updated-back_twice}
use Rattle.app_nat.proofs.Words.{spelled-fits, spelled-word, word}
use Rattle.app_nat.specs.Nat.{port_bit, with_tcp_end}
use Rattle.app_edit.specs.declared.side.Side.{Side}
use Rattle.app_edit.specs.declared.side.Side.TheVariants.{Source, Destination}

put-checksum : (p q s x : ℕ) (middle rest : List ℕ) → with_field (header 12 p q middle s rest) 128 16 x ≡ header 12 p q middle x rest
put-checksum p q s x middle rest =
    let n = word_at (header 12 p q middle s rest) 128 16 in
    λ i. word p (word q (cells 12 middle ++ (word_high n x i ∷ word_low n x i ∷ rest)))

updated-header : (p q s old new : ℕ) (middle rest : List ℕ) → s < 65536
    → with_updated_checksum (header 12 p q middle s rest) old new ≡ header 12 p q middle (updated s old new) rest
updated-header p q s old new middle rest fits =
    ap (λ (c : ℕ). with_field (header 12 p q middle s rest) 128 16 (updated c old new)) (spelled-word s fits) ∙ put-checksum p q s (updated s old new) middle rest

updated-fits : (s old new : ℕ) → s < 65536 → updated s old new < 65536
updated-fits s old new fits = omega arith

-- the bytes one by one, up to the checksum
pub tcp-whole : (l : List ℕ) → 18 ≤ length l → l ≡ indexed 12 l
tcp-whole l room = subst (λ m. m ≡ indexed 12 m) (sym (cells-drop 18 l room)) refl

pub tcp-ported : (side : Side) (l : List ℕ) → IsPorted with_updated_checksum updated side (with_both 12 side l)
tcp-ported side l = ported 12 with_updated_checksum updated side l updated-header updated-fits

put-both : (side : Side) (l : List ℕ) (x s u : ℕ) → with_field (with_both 12 side l x s) 128 16 u ≡ with_both 12 side l x u
put-both Source l x s u = put-checksum x (field l 16 16) s u (drop 4 l) (drop 18 l)
put-both Destination l x s u = put-checksum (field l 0 16) x s u (drop 4 l) (drop 18 l)

-- the port is written, and then the checksum that was updated twice
pub tcp-written : (side : Side) (l old new : List ℕ) (x u : ℕ) → AreBytes l → 18 ≤ length l
    → u ≡ updated (updated (field l 128 16) (sum_of_bytes old) (sum_of_bytes new)) (field l (port_bit side) 16) x
    → with_field (with_field l (port_bit side) 16 x) 128 16 u ≡ with_tcp_end side old new x l
tcp-written side l old new x u are room is =
    let p = field l (port_bit side) 16 in
    let s = field l 128 16 in
    let ss = spelled-fits (slice_index l 16) (slice_index l 17) in
    let at = tcp-ported side l in
    let both = has-both 12 side l are (tcp-whole l room) in
    ap (λ (m : List ℕ). with_field (with_field m (port_bit side) 16 x) 128 16 u) both
    ∙ ap (λ (m : List ℕ). with_field m 128 16 u) (at.put p s x)
    ∙ put-both side l x s u
    ∙ ap (with_both 12 side l x) is
    ∙ sym (ended with_updated_checksum updated side (with_both 12 side l) p s x old new at (port-fits side l) ss)
    ∙ ap (with_tcp_end side old new x) (sym both)

-- translating a segment and then back gives the segment again
pub tcp-back : (side : Side) (l old new : List ℕ) (x : ℕ) → AreBytes l → 18 ≤ length l → field l 128 16 ≢ 65535 → x < 65536
    → with_tcp_end side new old (field l (port_bit side) 16) (with_tcp_end side old new x l) ≡ l
tcp-back side l old new x are room usual xs =
    let p = field l (port_bit side) 16 in
    let s = field l 128 16 in
    let ss = spelled-fits (slice_index l 16) (slice_index l 17) in
    let whole : l ≡ indexed 12 l = tcp-whole l room in
    back 12 with_updated_checksum updated side l old new p x (tcp-ported side l) are whole refl xs
    (updated-back_twice s (sum_of_bytes old) (sum_of_bytes new) p x (omega (arith, usual, ss)) (sum-fits old) (sum-fits new) (omega (arith, port-fits side l)) (omega (arith, xs)))

-- a translated segment has the same length
pub tcp-len : (side : Side) (l old new : List ℕ) (x : ℕ) → 20 ≤ length l → length (with_tcp_end side old new x l) ≡ length l
tcp-len Source l old new x room = subst (λ (m : List ℕ). length (with_tcp_end Source old new x m) ≡ length m) (sym (cells-drop 20 l room)) refl
tcp-len Destination l old new x room = subst (λ (m : List ℕ). length (with_tcp_end Destination old new x m) ≡ length m) (sym (cells-drop 20 l room)) refl
