-- Fragments in another order, and those of a packet that is cut.
use Rattle.std.proofs.Common.{◌≡◌, ℕ, ◌*◌, ◌<◌, ◌≤◌, ◌⊎◌, ◌↔◌, inl, inr, List, [], ◌∷◌, length, sym, subst, arith, refl, false}
use Rattle.app_fragment.specs.Fragments.{Fragment, end_of, Covers, Each, One, IsPartOf, Make, Among, Cut}

among_each : (P : Fragment → Type 0) (fs : List Fragment) → Each P fs → (f : Fragment) → Among f fs → P f
among_each P [] h f one = absurd one
among_each P (g ∷ gs) h f (inl e) = subst P (sym e) h.0
among_each P (g ∷ gs) h f (inr one) = among_each P gs h.1 f one

each_among : (P : Fragment → Type 0) (fs : List Fragment) → ((f : Fragment) → Among f fs → P f) → Each P fs
each_among P [] h = tt
each_among P (g ∷ gs) h = (h g (inl refl), each_among P gs (λ f one. h f (inr one)))

one_of : (P : Fragment → Type 0) (fs : List Fragment) → One P fs → (f : Fragment) × Among f fs × P f
one_of P [] one = absurd one
one_of P (g ∷ gs) (inl p) = (g, inl refl, p)
one_of P (g ∷ gs) (inr one) = let rest : (f : Fragment) × Among f gs × P f = one_of P gs one in (rest.0, inr rest.1, rest.2)

of_one : (P : Fragment → Type 0) (fs : List Fragment) (f : Fragment) → Among f fs → P f → One P fs
of_one P [] f one p = absurd one
of_one P (g ∷ gs) f (inl e) p = inl (subst P e p)
of_one P (g ∷ gs) f (inr one) p = inr (of_one P gs f one p)

moved : (P : Fragment → Type 0) (fs gs : List Fragment) → ((f : Fragment) → Among f fs → Among f gs) → One P fs → One P gs
moved P fs gs to one = let some : (f : Fragment) × Among f fs × P f = one_of P fs one in of_one P gs some.0 (to some.0 some.1) some.2

pub any_order : (fs gs : List Fragment) (packet : List ℕ) → ((f : Fragment) → Among f fs ↔ Among f gs) → Make fs packet → Make gs packet
any_order fs gs packet same m = record {
  parts = each_among (λ f. IsPartOf f packet) gs (λ f one. among_each (λ g. IsPartOf g packet) fs m.parts f ((same f).1 one));
  ended = moved (λ f. f.more ≡ false) fs gs (λ f. (same f).0) m.ended;
  whole = λ p lt. moved (λ f. Covers f p) fs gs (λ f. (same f).0) (m.whole p lt);
}

cut_parts : (packet : List ℕ) (at : ℕ) (fs : List Fragment) → Cut packet at fs → Each (λ f. IsPartOf f packet) fs
cut_parts packet at [] c = tt
cut_parts packet at (f ∷ fs) c = (c.1, cut_parts packet (end_of f) fs c.3)

cut_ended : (packet : List ℕ) (at : ℕ) (fs : List Fragment) → at < length packet → Cut packet at fs → One (λ f. f.more ≡ false) fs
cut_ended packet at [] lt c = absurd (omega arith)
cut_ended packet at (f ∷ fs) lt c = elim c.2 [ inl m ↦ inl m | inr more ↦ inr (cut_ended packet (end_of f) fs more c.3) ]

either : (p n : ℕ) → (p < n) ⊎ (n ≤ p)
either p n = grind arith

cut_whole : (packet : List ℕ) (at : ℕ) (fs : List Fragment) (p : ℕ) → at ≤ p → p < length packet → Cut packet at fs → One (λ f. Covers f p) fs
cut_whole packet at [] p low lt c = absurd (omega arith)
cut_whole packet at (f ∷ fs) p low lt c =
    let start : 8 * f.first ≡ at = c.0 in
    elim (either p (end_of f)) [ inl within ↦ inl (omega arith, within) | inr after_it ↦ inr (cut_whole packet (end_of f) fs p after_it lt c.3) ]

pub cut_makes : (fs : List Fragment) (packet : List ℕ) → 0 < length packet → Cut packet 0 fs → Make fs packet
cut_makes fs packet some c = record {
  parts = cut_parts packet 0 fs c;
  ended = cut_ended packet 0 fs some c;
  whole = λ p lt. cut_whole packet 0 fs p (omega arith) lt c;
}
