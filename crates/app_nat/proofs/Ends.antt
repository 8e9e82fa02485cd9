-- A port is replaced and the checksum updated, and both are undone. UDP and TCP begin with the same two ports. UDP has two more
-- bytes before its checksum, and TCP has twelve.
use Rattle.std.proofs.Common.{ℕ, ◌≡◌, ◌<◌, ◌+◌, List, ◌∷◌, ◌++◌, drop, slice_index, sym, ap, subst, ◌∙◌}
use Rattle.ip_wire.proofs.Cells.{cells, word_high, word_low}
use Rattle.ip_wire.proofs.Spelled.{AreBytes}
use Rattle.ip_wire.specs.Field.{field, with_field, word_at}
use Rattle.ip_wire.specs.WordSum.{sum_of_bytes}
use Rattle.app_nat.proofs.Words.{high-spelled, low-spelled, spelled, spelled-fits, spelled-word, word}
use Rattle.app_nat.specs.Nat.{port_bit, with_end_by}
use Rattle.app_edit.specs.declared.side.Side.{Side}
use Rattle.app_edit.specs.declared.side.Side.TheVariants.{Source, Destination}

-- ---- the bytes

-- the first port, the second port, n more bytes, the checksum and the rest
abbrev pub header : ℕ → ℕ → ℕ → List ℕ → ℕ → List ℕ → List ℕ
header n p q middle s rest = word p (word q (cells n middle ++ word s rest))

-- the checksum after n bytes
abbrev pub checksum : ℕ → List ℕ → ℕ
checksum n l = spelled (slice_index l (4 + n)) (slice_index l (5 + n))

-- the bytes with this port on this side and this checksum
abbrev pub with_both : ℕ → Side → List ℕ → ℕ → ℕ → List ℕ
with_both n Source l p s = header n p (field l 16 16) (drop 4 l) s (drop (6 + n) l)
with_both n Destination l q s = header n (field l 0 16) q (drop 4 l) s (drop (6 + n) l)

-- the bytes one by one, up to the checksum
abbrev pub indexed : ℕ → List ℕ → List ℕ
indexed n l =
    slice_index l 0 ∷ slice_index l 1 ∷ slice_index l 2 ∷ slice_index l 3 ∷ (cells n (drop 4 l) ++ (slice_index l (4 + n) ∷ slice_index l (5 + n) ∷ drop (6 + n) l))

header-of : (n : ℕ) (l : List ℕ) → AreBytes l → l ≡ indexed n l → l ≡ header n (field l 0 16) (field l 16 16) (drop 4 l) (checksum n l) (drop (6 + n) l)
header-of n l are is =
    let a = slice_index l 0 in
    let b = slice_index l 1 in
    let c = slice_index l 2 in
    let d = slice_index l 3 in
    let g = slice_index l (4 + n) in
    let h = slice_index l (5 + n) in
    is
    ∙ (λ i. high-spelled a b (are 0) (are 1) i ∷ low-spelled a b (are 0) (are 1) i ∷ high-spelled c d (are 2) (are 3) i ∷ low-spelled c d (are 2) (are 3) i
    ∷ (cells n (drop 4 l) ++ (high-spelled g h (are (4 + n)) (are (5 + n)) i ∷ low-spelled g h (are (4 + n)) (are (5 + n)) i ∷ drop (6 + n) l)))

pub has-both : (n : ℕ) (side : Side) (l : List ℕ) → AreBytes l → l ≡ indexed n l → l ≡ with_both n side l (field l (port_bit side) 16) (checksum n l)
has-both n Source l are is = header-of n l are is
has-both n Destination l are is = header-of n l are is

pub port-fits : (side : Side) (l : List ℕ) → field l (port_bit side) 16 < 65536
port-fits Source l = spelled-fits (slice_index l 0) (slice_index l 1)
port-fits Destination l = spelled-fits (slice_index l 2) (slice_index l 3)

-- ---- both steps

-- h p s are bytes with the port p on this side and the checksum s, which update changes as next says
pub record IsPorted (update : List ℕ → ℕ → ℕ → List ℕ) (next : ℕ → ℕ → ℕ → ℕ) (side : Side) (h : ℕ → ℕ → List ℕ) : Type 0 where
  pub put : (p s x : ℕ) → with_field (h p s) (port_bit side) 16 x ≡ h x s
  pub get : (p s : ℕ) → p < 65536 → field (h p s) (port_bit side) 16 ≡ p
  pub updated : (p s o k : ℕ) → s < 65536 → update (h p s) o k ≡ h p (next s o k)
  pub fits : (s o k : ℕ) → s < 65536 → next s o k < 65536

pub ported : (n : ℕ) (update : List ℕ → ℕ → ℕ → List ℕ) (next : ℕ → ℕ → ℕ → ℕ) (side : Side) (l : List ℕ)
    → ((p q s o k : ℕ) (middle rest : List ℕ) → s < 65536 → update (header n p q middle s rest) o k ≡ header n p q middle (next s o k) rest)
    → ((s o k : ℕ) → s < 65536 → next s o k < 65536) → IsPorted update next side (with_both n side l)
ported n update next Source l updated fits = record {
  put = λ p s x.
      let m = word_at (with_both n Source l p s) 0 16 in
      λ i. word_high m x i ∷ word_low m x i ∷ word (field l 16 16) (cells n (drop 4 l) ++ word s (drop (6 + n) l));
  get = λ p s. spelled-word p;
  updated = λ p s o k. updated p (field l 16 16) s o k (drop 4 l) (drop (6 + n) l);
  fits = fits;
}
ported n update next Destination l updated fits = record {
  put = λ q s x.
      let m = word_at (with_both n Destination l q s) 16 16 in
      λ i. word (field l 0 16) (word_high m x i ∷ word_low m x i ∷ (cells n (drop 4 l) ++ word s (drop (6 + n) l)));
  get = λ q s. spelled-word q;
  updated = λ q s o k. updated (field l 0 16) q s o k (drop 4 l) (drop (6 + n) l);
  fits = fits;
}

-- such bytes after both steps
pub ended : (update : List ℕ → ℕ → ℕ → List ℕ) (next : ℕ → ℕ → ℕ → ℕ) (side : Side) (h : ℕ → ℕ → List ℕ) (p s x : ℕ) (old new : List ℕ)
    → IsPorted update next side h → p < 65536 → s < 65536
    → with_end_by update side old new x (h p s) ≡ h x (next (next s (sum_of_bytes old) (sum_of_bytes new)) p x)
ended update next side h p s x old new is ps ss =
    let t = next s (sum_of_bytes old) (sum_of_bytes new) in
    ap (λ (l : List ℕ). update (with_field l (port_bit side) 16 x) (field l (port_bit side) 16) x) (is.updated p s (sum_of_bytes old) (sum_of_bytes new) ss)
    ∙ (λ i. update (is.put p t x i) (is.get p t ps i) x)
    ∙ is.updated x t p x (is.fits s (sum_of_bytes old) (sum_of_bytes new) ss)

-- and after both steps back
pub back : (n : ℕ) (update : List ℕ → ℕ → ℕ → List ℕ) (next : ℕ → ℕ → ℕ → ℕ) (side : Side) (l old new : List ℕ) (p x : ℕ)
    → IsPorted update next side (with_both n side l) → AreBytes l → l ≡ indexed n l → p ≡ field l (port_bit side) 16 → x < 65536
    → next (next (next (next (checksum n l) (sum_of_bytes old) (sum_of_bytes new)) p x) (sum_of_bytes new) (sum_of_bytes old)) x p ≡ checksum n l
    → with_end_by update side new old p (with_end_by update side old new x l) ≡ l
back n update next side l old new p x is are whole port xs same =
    let h = with_both n side l in
    let s = checksum n l in
    let t = next s (sum_of_bytes old) (sum_of_bytes new) in
    let ps : p < 65536 = subst (λ k. k < 65536) (sym port) (port-fits side l) in
    let ss = spelled-fits (slice_index l (4 + n)) (slice_index l (5 + n)) in
    let both : l ≡ h p s = has-both n side l are whole ∙ ap (λ k. h k s) (sym port) in
    ap (λ (m : List ℕ). with_end_by update side new old p (with_end_by update side old new x m)) both
    ∙ ap (with_end_by update side new old p) (ended update next side h p s x old new is ps ss)
    ∙ ended update next side h x (next t p x) p new old is xs (is.fits t p x (is.fits s (sum_of_bytes old) (sum_of_bytes new) ss))
    ∙ ap (h p) same ∙ sym both
