-- What the memory of a packet has.
use Rattle.std.proofs.Common.{ℕ, zero, suc, Option, None, Some, IfSome, not, ◌≡◌, ◌≢◌, ◌↔◌, ◌≤◌, ◌<◌, ◌+◌, ◌-◌, ◌*◌, ◌⊎◌, inl, inr, Bool, true, false, cond, eqb, IsTrue, List, [], ◌∷◌, ◌++◌, ◌||◌, length, drop, get_or, slice_range, take, refl, sym, ap, subst, ◌∙◌, arith}
use Rattle.std.proofs.lemmas.Bool.{eq-eqb, eqb-true}
use Rattle.std.proofs.lemmas.Bool.Decides.{eqb_tells}
use Rattle.std.proofs.Math.Seq.{take-add}
use Rattle.std.proofs.lemmas.List.{length-take-le}
use Rattle.ip_wire.specs.Ipv4.{header_len, ip_version_of}
use Rattle.app_fragment.proofs.Agreeing.{length_of, not_empty}
use Rattle.app_fragment.proofs.Ranges.{same_part}
use Rattle.app_fragment.proofs.Versions.{HasLens, IsLaid, alike-take, laid, lens, low, lens-by, stored-lens}
use Rattle.app_fragment.specs.Datagram.{Collects, EachPacket, HasHeader, IsFirst, IsFirstWritten, IsHeaderOf, IsTooLong, OnePacket, fragments_of, has_ecn, stored_header}
use Rattle.app_fragment.specs.Fragments.{Covers, Each, Fragment, IsIn, Make, One, end_of}
use Rattle.app_fragment.specs.Parts.{IsOf, counted_len, ecn_of, fragment_of, header_of, packet_len, part_header_len}
use Rattle.app_fragment.specs.declared.datagram.Datagram.{Datagram}
use Rattle.app_fragment.specs.declared.part.FragKey.{FragKey}

pub none_len : (n : ℕ) → (n ≢ 0 → ⊥) → n ≡ 0
none_len zero none = refl
none_len (suc n) none = absurd (none (λ e. cc))

-- ---- one of the packets

-- a packet of which both claims are true
pub record Found (P Q : List ℕ → Type 0) (ps : List (List ℕ)) : Type 1 where
  pub packet : List ℕ
  pub all : P packet
  pub one : Q packet
  pub back : (R : List ℕ → Type 0) → R packet → OnePacket R ps

pub found_one : (P Q : List ℕ → Type 0) (ps : List (List ℕ)) → EachPacket P ps → OnePacket Q ps → Found P Q ps
found_one P Q [] all one = absurd one
found_one P Q (p ∷ ps) all (inl q) = record { packet = p; all = all.0; one = q; back = λ R r. inl r }
found_one P Q (p ∷ ps) all (inr one) =
    let f = found_one P Q ps all.1 one in record { packet = f.packet; all = f.all; one = f.one; back = λ R r. inr (f.back R r) }

-- ---- the stored header

-- the payload ends where the last fragment does
pub length_is : (d : Datagram) (buffer received : List ℕ) (ps : List (List ℕ)) (payload : List ℕ) → Collects d buffer received ps → Make (fragments_of ps) payload
    → length payload ≡ d.ends.len
length_is d buffer received ps payload h m = length_of (fragments_of ps) payload d.ends.len m.parts h.assembles.reached.last m.ended

-- no later fragment has the first byte
later : (ps : List (List ℕ)) → EachPacket (λ p. ¬ IsFirst p) ps → One (λ f. Covers f 0) (fragments_of ps) → ⊥
later [] all one = one
later (p ∷ ps) all (inl has) = all.0 (omega (arith, has.0))
later (p ∷ ps) all (inr one) = later ps all.1 one

-- packets that make the whole packet have the first byte, so that a header is stored
pub some_header : (d : Datagram) (buffer received : List ℕ) (ps : List (List ℕ)) (payload : List ℕ) → Collects d buffer received ps → Make (fragments_of ps) payload
    → OnePacket (IsHeaderOf (stored_header d.header)) ps
some_header d buffer received ps payload h m = by h.header
  where
    filled : 0 < length payload
    filled =
        let same = length_is d buffer received ps payload h m in
        let nz = not_empty (fragments_of ps) d.ends.len h.assembles.reached.shaped h.assembles.reached.last m.ended in
        omega (arith, same, nz)

    by : HasHeader d.header ps → OnePacket (IsHeaderOf (stored_header d.header)) ps
    by (inl none) = absurd (later ps none.1 (m.whole 0 filled))
    by (inr one) = one

pub length-stored : (header : List ℕ) → length header ≡ 60 → length (stored_header header) ≡ part_header_len header
length-stored header long = length-take-le (part_header_len header) header (omega (arith, low header, long))

-- the stored header has the lengths of the packet whose header it is
pub lens_of : (header : List ℕ) (key : FragKey) (ps : List (List ℕ)) → length header ≡ 60 → (f : Found (IsOf key) (IsHeaderOf (stored_header header)) ps) → HasLens header f.packet
lens_of header key ps long f = stored-lens header f.packet long (laid f.packet f.all.valid) f.one.1

pub header_least : (header : List ℕ) (key : FragKey) (ps : List (List ℕ)) → length header ≡ 60 → EachPacket (IsOf key) ps → OnePacket (IsHeaderOf (stored_header header)) ps
    → 20 ≤ part_header_len header
header_least header key ps long all one =
    let f = found_one (IsOf key) (IsHeaderOf (stored_header header)) ps all one in
    omega (arith, (lens_of header key ps long f).start, (laid f.packet f.all.valid).start)

-- the stored header is as long as it says
pub stored_len : (header : List ℕ) → length header ≡ 60 → 20 ≤ part_header_len header → HasLens (stored_header header) header
stored_len header long least = lens (stored_header header) header (alike-take header (part_header_len header) least (omega (arith, long)))

-- ---- one more fragment

counted-low : (bytes : List ℕ) → counted_len bytes ≤ part_header_len bytes
counted-low bytes = by (eqb (ip_version_of bytes) 6)
  where
    by : (b : Bool) → cond b 0 (header_len bytes) ≤ cond b 48 (header_len bytes)
    by true = omega arith
    by false = omega arith

pub counted_low : (bytes : List ℕ) → counted_len bytes ≤ 60
counted_low bytes = omega (arith, counted-low bytes, low bytes)

-- a header is not too long by itself
pub not_header : (header : List ℕ) (len : ℕ) → 65535 < counted_len header + len → len ≢ 0
not_header header len high z = omega (arith, high, z, counted-low header, low header)

-- the header of a first fragment, at the front of the memory for it
front-lens : (new p : List ℕ) → length new ≡ 60 → IsLaid p → take (length (header_of p)) new ≡ header_of p → HasLens new p
front-lens new p long is same =
    let n = length-take-le (part_header_len p) p (omega (arith, is.within, is.whole)) in
    let one = lens (take (length (header_of p)) new) new (alike-take new (length (header_of p)) (omega (arith, n, is.start)) (omega (arith, long))) in
    let two = lens (header_of p) p (alike-take p (part_header_len p) is.start is.least) in
    lens-by (header_of p) new p (subst (λ h. HasLens h new) same one) two

-- the header with one more packet: its own, if it is the first and none is stored
pub with_header : (old new p : List ℕ) (first : ℕ) (ps : List (List ℕ)) → length new ≡ 60 → IsLaid p → first ≡ (fragment_of p).first
    → (first ≡ 0 → part_header_len old ≡ 0 → take (length (header_of p)) new ≡ header_of p)
    → ((first ≢ 0) ⊎ (part_header_len old ≢ 0) → new ≡ old)
    → HasHeader old ps → HasHeader new (p ∷ ps)
with_header old new p zero ps long is e stored other has = by (part_header_len old) refl has
  where
    by : (n : ℕ) → part_header_len old ≡ n → HasHeader old ps → HasHeader new (p ∷ ps)
    by zero none h =
        let same = stored refl none in
        let l = front-lens new p long is same in
        let n = length-take-le (part_header_len p) p (omega (arith, is.within, is.whole)) in
        inr (inl (sym e, ap (λ k. take k new) (l.start ∙ sym n) ∙ same))
    by (suc n) some (inl none) = absurd (omega (arith, some, none.0))
    by (suc n) some (inr one) = inr (inr (subst (λ h. OnePacket (IsHeaderOf (stored_header h)) ps) (sym (other (inr (λ z. omega (arith, z, some))))) one))
with_header old new p (suc first) ps long is e stored other has = by has
  where
    same : new ≡ old
    same = other (inl (λ z. omega (arith, z)))

    by : HasHeader old ps → HasHeader new (p ∷ ps)
    by (inl none) = inl (ap part_header_len same ∙ none.0, ((λ z. omega (arith, z, e)), none.1))
    by (inr one) = inr (inr (subst (λ h. OnePacket (IsHeaderOf (stored_header h)) ps) (sym same) one))

-- ---- codepoints

or-is : (a b : Bool) → IsTrue (a || b) ↔ (IsTrue a ⊎ IsTrue b)
or-is true b = (λ t. inl refl, λ t. refl)
or-is false b = (λ t. inr t, λ t. elim t [ inl f ↦ absurd (cc) | inr y ↦ y ])

-- whether a fragment has a codepoint, with one more packet
pub with_ecn : (e old ecn : ℕ) (p : List ℕ) (ps : List (List ℕ)) → ecn ≡ ecn_of p → ((old ≢ 0) ↔ IsTrue (has_ecn e ps)) → ((old ≢ 0) ⊎ (ecn ≡ e)) ↔ IsTrue (has_ecn e (p ∷ ps))
with_ecn e old ecn p ps is had = (there, back)
  where
    there : (old ≢ 0) ⊎ (ecn ≡ e) → IsTrue (has_ecn e (p ∷ ps))
    there (inl some) = (or-is (eqb (ecn_of p) e) (has_ecn e ps)).1 (inr (had.0 some))
    there (inr same) = (or-is (eqb (ecn_of p) e) (has_ecn e ps)).1 (inl (eq-eqb (ecn_of p) e (sym is ∙ same)))

    either : IsTrue (eqb (ecn_of p) e) ⊎ IsTrue (has_ecn e ps) → (old ≢ 0) ⊎ (ecn ≡ e)
    either (inl same) = inr (is ∙ eqb-true (ecn_of p) e same)
    either (inr some) = inl (had.1 some)

    back : IsTrue (has_ecn e (p ∷ ps)) → (old ≢ 0) ⊎ (ecn ≡ e)
    back t = either ((or-is (eqb (ecn_of p) e) (has_ecn e ps)).0 t)

pub both : {A B C : Type 0} → (A ↔ B) → (B ↔ C) → (A ↔ C)
both f g = (λ a. g.0 (f.0 a), λ c. f.1 (g.1 c))

-- ---- packets that are too long

last_one : (len : ℕ) (ps : List (List ℕ)) → One (λ f. f.more ≡ false) (fragments_of ps) → Each (λ f. f.more ≡ false → end_of f ≡ len) (fragments_of ps)
    → OnePacket (λ l. ((fragment_of l).more ≡ false) × (end_of (fragment_of l) ≡ len)) ps
last_one len [] one all = one
last_one len (p ∷ ps) (inl last) all = inl (last, all.0 last)
last_one len (p ∷ ps) (inr one) all = inr (last_one len ps one all.1)

pub map_one : (P Q : List ℕ → Type 0) (ps : List (List ℕ)) → ((p : List ℕ) → P p → Q p) → OnePacket P ps → OnePacket Q ps
map_one P Q [] f one = one
map_one P Q (p ∷ ps) f (inl is) = inl (f p is)
map_one P Q (p ∷ ps) f (inr one) = inr (map_one P Q ps f one)

-- the end of the last fragment, with one more packet
pub ends_at : (d : Datagram) (buffer received p : List ℕ) (ps : List (List ℕ)) (len : ℕ) (more : Bool) → (fragment_of p).more ≡ more → Collects d buffer received ps → len ≢ 0
    → (more ≡ true → len ≡ d.ends.len) → (more ≡ false → len ≡ end_of (fragment_of p))
    → OnePacket (λ l. ((fragment_of l).more ≡ false) × (end_of (fragment_of l) ≡ len)) (p ∷ ps)
ends_at d buffer received p ps len false e h some inner last = inl (e, sym (last refl))
ends_at d buffer received p ps len true e h some inner last =
    let same : len ≡ d.ends.len = inner refl in
    inr (map_one (λ l. ((fragment_of l).more ≡ false) × (end_of (fragment_of l) ≡ d.ends.len)) (λ l. ((fragment_of l).more ≡ false) × (end_of (fragment_of l) ≡ len)) ps
    (λ l is. (is.0, is.1 ∙ sym same))
    (last_one d.ends.len ps (h.assembles.reached.ended (λ z. some (same ∙ z))) h.assembles.reached.last))

pub too_long : (header : List ℕ) (key : FragKey) (ps : List (List ℕ)) (len : ℕ) → length header ≡ 60 → EachPacket (IsOf key) ps → HasHeader header ps
    → 65535 < counted_len header + len → OnePacket (λ l. ((fragment_of l).more ≡ false) × (end_of (fragment_of l) ≡ len)) ps → IsTooLong ps
too_long header key ps len long all has high last = by has
  where
    by : HasHeader header ps → IsTooLong ps
    by (inl none) =
        map_one (λ l. ((fragment_of l).more ≡ false) × (end_of (fragment_of l) ≡ len)) _ ps
        (λ l is. (is.0, inl (omega (arith, is.1, high, none.0, counted-low header)))) last
    by (inr one) =
        let f = found_one (IsOf key) (IsHeaderOf (stored_header header)) ps all one in
        let same = lens_of header key ps long f in
        map_one (λ l. ((fragment_of l).more ≡ false) × (end_of (fragment_of l) ≡ len)) _ ps
        (λ l is. (is.0, inr (f.back (λ p. IsFirst p × (65535 < counted_len p + end_of (fragment_of l))) (f.one.0, omega (arith, is.1, high, same.counted))))) last

-- ---- what calls return

pub IfSome_both : {X : Type 0} (r : Option X) (P Q : X → Type 0) → IfSome r P → IfSome r Q → IfSome r (λ x. P x × Q x)
IfSome_both None P Q p q = p
IfSome_both (Some x) P Q p q = (p, q)

pub is_ce : (n : ℕ) (b : Bool) → ((n ≢ 0) ↔ IsTrue b) → not (eqb n 0) ≡ b
is_ce n b is = by (eqb_tells n 0) b is
  where
    by : (((eqb n 0 ≡ true) × (n ≡ 0)) ⊎ ((eqb n 0 ≡ false) × (n ≢ 0))) → (b : Bool) → ((n ≢ 0) ↔ IsTrue b) → not (eqb n 0) ≡ b
    by (inl z) true is = absurd (is.1 refl z.1)
    by (inl z) false is = ap not z.0
    by (inr s) true is = ap not s.0
    by (inr s) false is = ap not s.0 ∙ sym (is.0 s.1)

-- ---- the first fragment

each_packet : (P : Fragment → Type 0) (ps : List (List ℕ)) → Each P (fragments_of ps) → EachPacket (λ p. P (fragment_of p)) ps
each_packet P [] all = all
each_packet P (p ∷ ps) all = (all.0, each_packet P ps all.1)

both_each : (P Q : List ℕ → Type 0) (ps : List (List ℕ)) → EachPacket P ps → EachPacket Q ps → EachPacket (λ p. P p × Q p) ps
both_each P Q [] p q = p
both_each P Q (x ∷ xs) p q = ((p.0, q.0), both_each P Q xs p.1 q.1)

-- the payload of a first fragment is at the front of the buffer
front-payload : (buffer received p : List ℕ) (n : ℕ) → IsFirst p → IsIn buffer received (fragment_of p) → end_of (fragment_of p) ≤ length buffer → n ≡ length (fragment_of p).bytes
    → take n buffer ≡ (fragment_of p).bytes
front-payload buffer received p n first is room e =
    same_part buffer (fragment_of p).bytes 0 n e (omega (arith, e, first, room)) (λ i low high. is.same i (omega (arith, first), omega (arith, e, first, high)) ∙ ap (λ k. get_or (fragment_of p).bytes (i - 8 * k) 0) first)

-- what `write_first` writes
pub first_written : (d : Datagram) (buffer received out : List ℕ) (ps : List (List ℕ)) (start len : ℕ) → length d.header ≡ 60 → start ≡ part_header_len d.header
    → len ≡ packet_len d.header → 20 ≤ start → Collects d buffer received ps
    → OnePacket (IsFirstWritten len ((take start d.header ++ take (len - start) buffer) ++ drop len out) out) ps
first_written d buffer received out ps start len long s t least h = by h.header
  where
    written : (f : Found (λ p. IsOf d.key p × (IsIn buffer received (fragment_of p) × (end_of (fragment_of p) ≤ length buffer))) (IsHeaderOf (stored_header d.header)) ps)
        → IsFirstWritten len ((take start d.header ++ take (len - start) buffer) ++ drop len out) out f.packet
    written f =
        let p = f.packet in
        let is = laid f.packet f.all.0.valid in
        let same = stored-lens d.header f.packet long is f.one.1 in
        let head : take start d.header ≡ take (part_header_len f.packet) f.packet = ap (λ n. take n d.header) s ∙ f.one.1 in
        let size : len - start ≡ length (fragment_of f.packet).bytes = omega (arith, s, t, same.start, same.total, is.total) in
        let rest : take (len - start) buffer ≡ slice_range f.packet (part_header_len f.packet) (packet_len f.packet) =
        front-payload buffer received f.packet (len - start) f.one.0 f.all.1.0 f.all.1.1 size ∙ is.bytes in
        let total : part_header_len f.packet + (packet_len f.packet - part_header_len f.packet) ≡ len = omega (arith, t, same.total, is.within) in
        record {
          first = f.one.0;
          total = sym (t ∙ same.total);
          bytes = ap (λ l. l ++ drop len out) ((λ i. head i ++ rest i) ∙ sym (take-add (part_header_len f.packet) (packet_len f.packet - part_header_len f.packet) f.packet) ∙ ap (λ n. take n f.packet) total);
        }

    by : HasHeader d.header ps → OnePacket (IsFirstWritten len ((take start d.header ++ take (len - start) buffer) ++ drop len out) out) ps
    by (inl none) = absurd (omega (arith, none.0, s, least))
    by (inr one) =
        let all = both_each (IsOf d.key) (λ p. IsIn buffer received (fragment_of p) × (end_of (fragment_of p) ≤ length buffer)) ps h.all
        (both_each (λ p. IsIn buffer received (fragment_of p)) (λ p. end_of (fragment_of p) ≤ length buffer) ps (each_packet (IsIn buffer received) ps h.assembles.holds.all) h.inside) in
        let f = found_one _ (IsHeaderOf (stored_header d.header)) ps all one in
        f.back _ (written f)

-- why `write_first` writes nothing
pub first_missing : (d : Datagram) (buffer received : List ℕ) (ps : List (List ℕ)) (start len room : ℕ) → length d.header ≡ 60 → start ≡ part_header_len d.header
    → len ≡ packet_len d.header → (20 ≤ start → start ≤ len → len - start ≤ length buffer → room < len) → Collects d buffer received ps
    → EachPacket (λ p. ¬ IsFirst p) ps ⊎ OnePacket (λ p. IsFirst p × (room < packet_len p)) ps
first_missing d buffer received ps start len room long s t why h = by h.header
  where
    by : HasHeader d.header ps → EachPacket (λ p. ¬ IsFirst p) ps ⊎ OnePacket (λ p. IsFirst p × (room < packet_len p)) ps
    by (inl none) = inl none.1
    by (inr one) =
        let all = both_each (IsOf d.key) (λ p. end_of (fragment_of p) ≤ length buffer) ps h.all h.inside in
        let f = found_one _ (IsHeaderOf (stored_header d.header)) ps all one in
        let is = laid f.packet f.all.0.valid in
        let same = stored-lens d.header f.packet long is f.one.1 in
        inr (f.back _ (f.one.0, omega (arith, s, t, same.start, same.total, is.total, is.start, f.all.1, why (omega (arith, s, same.start, is.start)) (omega (arith, s, t, same.start, same.total, is.within)) (omega (arith, s, t, same.start, same.total, is.total, f.all.1)))))
