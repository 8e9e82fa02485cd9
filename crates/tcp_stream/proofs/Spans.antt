-- Ranges: what they have before and after one is pushed, or joined.
use Rattle.std.proofs.Common.{arith, ◌≤◌, ◌+◌, ◌-◌, ◌≡◌, ◌<◌, ◌||◌, ◌⊎◌, inl, inr, ℕ, Bool, true, false, ap, sym, ◌∙◌, refl, min, max}
use Rattle.std.proofs.lemmas.Bool.{cases_lt, false≢true}
use Rattle.std.proofs.lemmas.Bool.Decides.{nat_tests}
use Rattle.tcp_stream.specs.Order.{IsRange, AreApart}
use Rattle.tcp_stream.specs.Ranges.{has, covers, is_within, used, ranges_of, end_of, top}
use Rattle.tcp_stream.specs.declared.ranges.Range.{Range}
use Rattle.tcp_stream.specs.declared.ranges.Ranges.{Ranges}

pub within_in : (l r n : ℕ) → l ≤ n → n < r → is_within l r n ≡ true
within_in l r n le lt = grind (arith, nat_tests)

pub within_out : (l r n : ℕ) → (n < l) ⊎ (r ≤ n) → is_within l r n ≡ false
within_out l r n (inl lt) = grind (arith, nat_tests)
within_out l r n (inr le) = grind (arith, nat_tests)

pub within_left : (l r n : ℕ) → is_within l r n ≡ true → l ≤ n
within_left l r n is = grind (arith, nat_tests)

pub within_right : (l r n : ℕ) → is_within l r n ≡ true → n < r
within_right l r n is = grind (arith, nat_tests)

or_left : (a b : Bool) → a ≡ true → (a || b) ≡ true
or_left true b is = refl
or_left false b is = absurd (false≢true is)

or_right : (a b : Bool) → b ≡ true → (a || b) ≡ true
or_right true b is = refl
or_right false b is = is

or_none : (a b : Bool) → a ≡ false → b ≡ false → (a || b) ≡ false
or_none true b e f = absurd (false≢true (sym e))
or_none false b e f = f

pub or_last : (a b : Bool) → b ≡ false → (a || b) ≡ a
or_last true b e = refl
or_last false b e = e

pub or_assoc : (a b c : Bool) → ((a || b) || c) ≡ (a || (b || c))
or_assoc true b c = refl
or_assoc false b c = refl

or_comm : (a b : Bool) → (a || b) ≡ (b || a)
or_comm true true = refl
or_comm true false = refl
or_comm false true = refl
or_comm false false = refl

pub or_swap : (k s r : Bool) → (k || (s || r)) ≡ (s || (k || r))
or_swap true true r = refl
or_swap true false r = refl
or_swap false true r = refl
or_swap false false r = refl

pub either : (a b c : Bool) → c ≡ (a || b) → c ≡ true → (a ≡ true) ⊎ (b ≡ true)
either true b c same holds = inl refl
either false b c same holds = inr (sym same ∙ holds)

pub has_first : (s : Ranges) (n : ℕ) → covers s.first n ≡ true → has s n ≡ true
unfolding has IsRange AreApart
has_first s n is = or_left (covers s.first n) _ is

pub has_second : (s : Ranges) (n : ℕ) → covers s.second n ≡ true → has s n ≡ true
unfolding has IsRange AreApart
has_second s n is = or_right (covers s.first n) _ (or_left (covers s.second n) _ is)

pub has_third : (s : Ranges) (n : ℕ) → covers s.third n ≡ true → has s n ≡ true
unfolding has IsRange AreApart
has_third s n is = or_right (covers s.first n) _ (or_right (covers s.second n) _ (or_left (covers s.third n) _ is))

pub has_fourth : (s : Ranges) (n : ℕ) → covers s.fourth n ≡ true → has s n ≡ true
unfolding has IsRange AreApart
has_fourth s n is = or_right (covers s.first n) _ (or_right (covers s.second n) _ (or_right (covers s.third n) _ (or_left (covers s.fourth n) _ is)))

pub has_fifth : (s : Ranges) (n : ℕ) → covers s.fifth n ≡ true → has s n ≡ true
unfolding has IsRange AreApart
has_fifth s n is = or_right (covers s.first n) _ (or_right (covers s.second n) _ (or_right (covers s.third n) _ (or_right (covers s.fourth n) _ (or_left (covers s.fifth n) _ is))))

pub has_sixth : (s : Ranges) (n : ℕ) → covers s.sixth n ≡ true → has s n ≡ true
unfolding has IsRange AreApart
has_sixth s n is = or_right (covers s.first n) _ (or_right (covers s.second n) _ (or_right (covers s.third n) _ (or_right (covers s.fourth n) _ (or_right (covers s.fifth n) _ (or_left (covers s.sixth n) _ is)))))

pub has_seventh : (s : Ranges) (n : ℕ) → covers s.seventh n ≡ true → has s n ≡ true
unfolding has IsRange AreApart
has_seventh s n is = or_right (covers s.first n) _ (or_right (covers s.second n) _ (or_right (covers s.third n) _ (or_right (covers s.fourth n) _ (or_right (covers s.fifth n) _ (or_right (covers s.sixth n) _ (or_left (covers s.seventh n) _ is))))))

pub has_eighth : (s : Ranges) (n : ℕ) → covers s.eighth n ≡ true → has s n ≡ true
unfolding has IsRange AreApart
has_eighth s n is = or_right (covers s.first n) _ (or_right (covers s.second n) _ (or_right (covers s.third n) _ (or_right (covers s.fourth n) _ (or_right (covers s.fifth n) _ (or_right (covers s.sixth n) _ (or_right (covers s.seventh n) _ (is)))))))

pub has_none : (s : Ranges) (n : ℕ) → covers s.first n ≡ false → covers s.second n ≡ false → covers s.third n ≡ false → covers s.fourth n ≡ false → covers s.fifth n ≡ false → covers s.sixth n ≡ false → covers s.seventh n ≡ false → covers s.eighth n ≡ false → has s n ≡ false
unfolding has IsRange AreApart
has_none s n e1 e2 e3 e4 e5 e6 e7 e8 = or_none (covers s.first n) _ e1 (or_none (covers s.second n) _ e2 (or_none (covers s.third n) _ e3 (or_none (covers s.fourth n) _ e4 (or_none (covers s.fifth n) _ e5 (or_none (covers s.sixth n) _ e6 (or_none (covers s.seventh n) _ e7 (e8)))))))

-- an offset before an unused range, or a range after it
before_next : (r : Range) (n : ℕ) → min 4294967295 (n + 1) ≤ r.from → covers r n ≡ false
unfolding IsRange AreApart
before_next r n le = elim (cases_lt n r.from) [ inl lt ↦ within_out r.from r.to n (inl lt) | inr ge ↦ within_out r.from r.to n (inr (omega arith)) ]

pub end_first : (s : Ranges) → s.first.from < s.first.to → has s s.first.to ≡ false
unfolding IsRange AreApart
end_first s some = has_none s s.first.to (within_out s.first.from s.first.to s.first.to (inr (omega arith))) (before_next s.second s.first.to (omega arith)) (before_next s.third s.first.to (omega arith)) (before_next s.fourth s.first.to (omega arith)) (before_next s.fifth s.first.to (omega arith)) (before_next s.sixth s.first.to (omega arith)) (before_next s.seventh s.first.to (omega arith)) (before_next s.eighth s.first.to (omega arith))

pub end_second : (s : Ranges) → s.second.from < s.second.to → has s s.second.to ≡ false
unfolding IsRange AreApart
end_second s some = has_none s s.second.to (within_out s.first.from s.first.to s.second.to (inr (omega arith))) (within_out s.second.from s.second.to s.second.to (inr (omega arith))) (before_next s.third s.second.to (omega arith)) (before_next s.fourth s.second.to (omega arith)) (before_next s.fifth s.second.to (omega arith)) (before_next s.sixth s.second.to (omega arith)) (before_next s.seventh s.second.to (omega arith)) (before_next s.eighth s.second.to (omega arith))

pub end_third : (s : Ranges) → s.third.from < s.third.to → has s s.third.to ≡ false
unfolding IsRange AreApart
end_third s some = has_none s s.third.to (within_out s.first.from s.first.to s.third.to (inr (omega arith))) (within_out s.second.from s.second.to s.third.to (inr (omega arith))) (within_out s.third.from s.third.to s.third.to (inr (omega arith))) (before_next s.fourth s.third.to (omega arith)) (before_next s.fifth s.third.to (omega arith)) (before_next s.sixth s.third.to (omega arith)) (before_next s.seventh s.third.to (omega arith)) (before_next s.eighth s.third.to (omega arith))

pub end_fourth : (s : Ranges) → s.fourth.from < s.fourth.to → has s s.fourth.to ≡ false
unfolding IsRange AreApart
end_fourth s some = has_none s s.fourth.to (within_out s.first.from s.first.to s.fourth.to (inr (omega arith))) (within_out s.second.from s.second.to s.fourth.to (inr (omega arith))) (within_out s.third.from s.third.to s.fourth.to (inr (omega arith))) (within_out s.fourth.from s.fourth.to s.fourth.to (inr (omega arith))) (before_next s.fifth s.fourth.to (omega arith)) (before_next s.sixth s.fourth.to (omega arith)) (before_next s.seventh s.fourth.to (omega arith)) (before_next s.eighth s.fourth.to (omega arith))

pub end_fifth : (s : Ranges) → s.fifth.from < s.fifth.to → has s s.fifth.to ≡ false
unfolding IsRange AreApart
end_fifth s some = has_none s s.fifth.to (within_out s.first.from s.first.to s.fifth.to (inr (omega arith))) (within_out s.second.from s.second.to s.fifth.to (inr (omega arith))) (within_out s.third.from s.third.to s.fifth.to (inr (omega arith))) (within_out s.fourth.from s.fourth.to s.fifth.to (inr (omega arith))) (within_out s.fifth.from s.fifth.to s.fifth.to (inr (omega arith))) (before_next s.sixth s.fifth.to (omega arith)) (before_next s.seventh s.fifth.to (omega arith)) (before_next s.eighth s.fifth.to (omega arith))

pub end_sixth : (s : Ranges) → s.sixth.from < s.sixth.to → has s s.sixth.to ≡ false
unfolding IsRange AreApart
end_sixth s some = has_none s s.sixth.to (within_out s.first.from s.first.to s.sixth.to (inr (omega arith))) (within_out s.second.from s.second.to s.sixth.to (inr (omega arith))) (within_out s.third.from s.third.to s.sixth.to (inr (omega arith))) (within_out s.fourth.from s.fourth.to s.sixth.to (inr (omega arith))) (within_out s.fifth.from s.fifth.to s.sixth.to (inr (omega arith))) (within_out s.sixth.from s.sixth.to s.sixth.to (inr (omega arith))) (before_next s.seventh s.sixth.to (omega arith)) (before_next s.eighth s.sixth.to (omega arith))

pub end_seventh : (s : Ranges) → s.seventh.from < s.seventh.to → has s s.seventh.to ≡ false
unfolding IsRange AreApart
end_seventh s some = has_none s s.seventh.to (within_out s.first.from s.first.to s.seventh.to (inr (omega arith))) (within_out s.second.from s.second.to s.seventh.to (inr (omega arith))) (within_out s.third.from s.third.to s.seventh.to (inr (omega arith))) (within_out s.fourth.from s.fourth.to s.seventh.to (inr (omega arith))) (within_out s.fifth.from s.fifth.to s.seventh.to (inr (omega arith))) (within_out s.sixth.from s.sixth.to s.seventh.to (inr (omega arith))) (within_out s.seventh.from s.seventh.to s.seventh.to (inr (omega arith))) (before_next s.eighth s.seventh.to (omega arith))

pub end_eighth : (s : Ranges) → s.eighth.from < s.eighth.to → has s s.eighth.to ≡ false
unfolding IsRange AreApart
end_eighth s some = has_none s s.eighth.to (within_out s.first.from s.first.to s.eighth.to (inr (omega arith))) (within_out s.second.from s.second.to s.eighth.to (inr (omega arith))) (within_out s.third.from s.third.to s.eighth.to (inr (omega arith))) (within_out s.fourth.from s.fourth.to s.eighth.to (inr (omega arith))) (within_out s.fifth.from s.fifth.to s.eighth.to (inr (omega arith))) (within_out s.sixth.from s.sixth.to s.eighth.to (inr (omega arith))) (within_out s.seventh.from s.seventh.to s.eighth.to (inr (omega arith))) (within_out s.eighth.from s.eighth.to s.eighth.to (inr (omega arith)))

-- an offset at or after the top is not kept
past : (r : Range) (n : ℕ) → end_of r ≤ n → covers r n ≡ false
unfolding IsRange AreApart
past r n le = elim (cases_lt r.from r.to) [
  | inl lt ↦ (let e : end_of r ≡ r.to = grind (arith, nat_tests) in within_out r.from r.to n (inr (omega arith)))
  | inr ge ↦ elim (cases_lt n r.from) [ inl before ↦ within_out r.from r.to n (inl before) | inr after ↦ within_out r.from r.to n (inr (omega arith)) ]
]

last : (r : Range) (n : ℕ) → 0 < n → end_of r ≡ n → covers r (n - 1) ≡ true
unfolding IsRange AreApart
last r n some is = elim (cases_lt r.from r.to) [
  | inl lt ↦ (let e : end_of r ≡ r.to = grind (arith, nat_tests) in within_in r.from r.to (n - 1) (omega arith) (omega arith))
  | inr ge ↦ (let same : r.from ≡ r.to = omega arith in let e : end_of r ≡ 0 = grind (arith, nat_tests) in absurd (omega arith))
]

top_first : (s : Ranges) → end_of s.first ≤ top s
unfolding top IsRange AreApart
top_first s = omega arith

top_second : (s : Ranges) → end_of s.second ≤ top s
unfolding top IsRange AreApart
top_second s = omega arith

top_third : (s : Ranges) → end_of s.third ≤ top s
unfolding top IsRange AreApart
top_third s = omega arith

top_fourth : (s : Ranges) → end_of s.fourth ≤ top s
unfolding top IsRange AreApart
top_fourth s = omega arith

top_fifth : (s : Ranges) → end_of s.fifth ≤ top s
unfolding top IsRange AreApart
top_fifth s = omega arith

top_sixth : (s : Ranges) → end_of s.sixth ≤ top s
unfolding top IsRange AreApart
top_sixth s = omega arith

top_seventh : (s : Ranges) → end_of s.seventh ≤ top s
unfolding top IsRange AreApart
top_seventh s = omega arith

top_eighth : (s : Ranges) → end_of s.eighth ≤ top s
unfolding top IsRange AreApart
top_eighth s = omega arith

pub top_past : (s : Ranges) (n : ℕ) → top s ≤ n → has s n ≡ false
unfolding IsRange AreApart
top_past s n le = has_none s n (past s.first n (omega (arith, top_first s))) (past s.second n (omega (arith, top_second s))) (past s.third n (omega (arith, top_third s))) (past s.fourth n (omega (arith, top_fourth s))) (past s.fifth n (omega (arith, top_fifth s))) (past s.sixth n (omega (arith, top_sixth s))) (past s.seventh n (omega (arith, top_seventh s))) (past s.eighth n (omega (arith, top_eighth s)))

pub below_top : (s : Ranges) (n : ℕ) → has s n ≡ true → n < top s
unfolding IsRange AreApart
below_top s n is = elim (cases_lt n (top s)) [ inl lt ↦ lt | inr ge ↦ absurd (false≢true (sym (top_past s n ge) ∙ is)) ]

top_least : (s : Ranges) (m : ℕ) → end_of s.first < m → end_of s.second < m → end_of s.third < m → end_of s.fourth < m → end_of s.fifth < m → end_of s.sixth < m → end_of s.seventh < m → end_of s.eighth < m → top s < m
unfolding top IsRange AreApart
top_least s m e1 e2 e3 e4 e5 e6 e7 e8 = omega arith

pub at_top : (s : Ranges) → 0 < top s → has s (top s - 1) ≡ true
unfolding IsRange AreApart
at_top s some = elim (cases_lt (end_of s.first) (top s)) [ inl b1 ↦ elim (cases_lt (end_of s.second) (top s)) [ inl b2 ↦ elim (cases_lt (end_of s.third) (top s)) [ inl b3 ↦ elim (cases_lt (end_of s.fourth) (top s)) [ inl b4 ↦ elim (cases_lt (end_of s.fifth) (top s)) [ inl b5 ↦ elim (cases_lt (end_of s.sixth) (top s)) [ inl b6 ↦ elim (cases_lt (end_of s.seventh) (top s)) [ inl b7 ↦ elim (cases_lt (end_of s.eighth) (top s)) [ inl b8 ↦ absurd (omega (arith, top_least s (top s) b1 b2 b3 b4 b5 b6 b7 b8)) | inr ge ↦ has_eighth s (top s - 1) (last s.eighth (top s) some (omega (arith, top_eighth s))) ] | inr ge ↦ has_seventh s (top s - 1) (last s.seventh (top s) some (omega (arith, top_seventh s))) ] | inr ge ↦ has_sixth s (top s - 1) (last s.sixth (top s) some (omega (arith, top_sixth s))) ] | inr ge ↦ has_fifth s (top s - 1) (last s.fifth (top s) some (omega (arith, top_fifth s))) ] | inr ge ↦ has_fourth s (top s - 1) (last s.fourth (top s) some (omega (arith, top_fourth s))) ] | inr ge ↦ has_third s (top s - 1) (last s.third (top s) some (omega (arith, top_third s))) ] | inr ge ↦ has_second s (top s - 1) (last s.second (top s) some (omega (arith, top_second s))) ] | inr ge ↦ has_first s (top s - 1) (last s.first (top s) some (omega (arith, top_first s))) ]

-- the top, by what is kept
pub top_most : (s : Ranges) (m : ℕ) → ((n : ℕ) → has s n ≡ true → n < m) → top s ≤ m
unfolding IsRange AreApart
top_most s m each = elim (cases_lt 0 (top s)) [ inl some ↦ (let h = each (top s - 1) (at_top s some) in omega arith) | inr none ↦ omega arith ]

or_both : (a b c d : Bool) → a ≡ c → b ≡ d → (a || b) ≡ (c || d)
or_both a b c d one other = cc

-- nothing is forgotten while there is room
pub pushed : (old new : Ranges) (r : Range) → new.first ≡ r → new.second ≡ old.first → new.third ≡ old.second → new.fourth ≡ old.third → new.fifth ≡ old.fourth → new.sixth ≡ old.fifth → new.seventh ≡ old.sixth → new.eighth ≡ old.seventh → 4294967295 ≤ old.eighth.from → (n : ℕ) → has new n ≡ (covers r n || has old n)
unfolding has IsRange AreApart
pushed old new r p1 p2 p3 p4 p5 p6 p7 p8 unused n =
    let none : covers old.eighth n ≡ false = (elim (cases_lt n old.eighth.from) [ inl before ↦ within_out _ _ n (inl before) | inr after ↦ within_out old.eighth.from old.eighth.to n (inr (omega arith)) ]) in
    or_both _ _ _ _ (ap (λ (x : Range). covers x n) p1) (or_both _ _ _ _ (ap (λ (x : Range). covers x n) p2) (or_both _ _ _ _ (ap (λ (x : Range). covers x n) p3) (or_both _ _ _ _ (ap (λ (x : Range). covers x n) p4) (or_both _ _ _ _ (ap (λ (x : Range). covers x n) p5) (or_both _ _ _ _ (ap (λ (x : Range). covers x n) p6) (or_both _ _ _ _ (ap (λ (x : Range). covers x n) p7) (ap (λ (x : Range). covers x n) p8 ∙ sym (or_last (covers old.seventh n) (covers old.eighth n) none))))))))

pub pushed-ranges : (old new : Ranges) (r : Range) → new.first ≡ r → new.second ≡ old.first → new.third ≡ old.second → new.fourth ≡ old.third → new.fifth ≡ old.fourth → new.sixth ≡ old.fifth → new.seventh ≡ old.sixth → new.eighth ≡ old.seventh → ranges_of new ≤ used r + ranges_of old
unfolding ranges_of IsRange AreApart
pushed-ranges old new r p1 p2 p3 p4 p5 p6 p7 p8 = omega (arith, ap used p1, ap used p2, ap used p3, ap used p4, ap used p5, ap used p6, ap used p7, ap used p8)

pub used-most : (r : Range) → used r ≤ 1
unfolding used IsRange AreApart
used-most r = grind arith

pub used-one : (r : Range) → r.from < r.to → used r ≡ 1
unfolding used IsRange AreApart
used-one r some = grind (arith, nat_tests)

-- if the last one is used, all are
pub used-all : (s : Ranges) → s.eighth.from < 4294967295 → ranges_of s ≡ 8
unfolding ranges_of IsRange AreApart
used-all s some = omega (arith, used-one s.first (omega arith), used-one s.second (omega arith), used-one s.third (omega arith), used-one s.fourth (omega arith), used-one s.fifth (omega arith), used-one s.sixth (omega arith), used-one s.seventh (omega arith), used-one s.eighth (omega arith))

pub ranges-sum : (s : Ranges) → ranges_of s ≡ used s.first + used s.second + used s.third + used s.fourth + used s.fifth + used s.sixth + used s.seventh + used s.eighth
unfolding ranges_of IsRange AreApart
ranges-sum s = refl

pub joined-covers : (a b : Range) → a.from ≤ b.to → b.from ≤ a.to → (n : ℕ) → is_within (min a.from b.from) (max a.to b.to) n ≡ (covers a n || covers b n)
unfolding IsRange AreApart
joined-covers a b left right n = grind arith

pub exchanged : (a b : Bool) → (a || b) ≡ (b || a)
exchanged a b = or_comm a b

-- eight ranges and one more, each joined after the other
pub joined-all : (k0 k1 k2 k3 k4 k5 k6 k7 k8 r0 r1 r2 r3 r4 r5 r6 r7 r8 s1 s2 s3 s4 s5 s6 s7 s8 : Bool) → k0 ≡ false → (k1 || r1) ≡ (k0 || (s8 || r0)) → (k2 || r2) ≡ (k1 || (s7 || r1)) → (k3 || r3) ≡ (k2 || (s6 || r2)) → (k4 || r4) ≡ (k3 || (s5 || r3)) → (k5 || r5) ≡ (k4 || (s4 || r4)) → (k6 || r6) ≡ (k5 || (s3 || r5)) → (k7 || r7) ≡ (k6 || (s2 || r6)) → (k8 || r8) ≡ (k7 || (s1 || r7)) → (k8 || r8) ≡ ((s1 || (s2 || (s3 || (s4 || (s5 || (s6 || (s7 || (s8)))))))) || r0)
joined-all k0 k1 k2 k3 k4 k5 k6 k7 k8 r0 r1 r2 r3 r4 r5 r6 r7 r8 s1 s2 s3 s4 s5 s6 s7 s8 none e1 e2 e3 e4 e5 e6 e7 e8 = e8 ∙ or_swap k7 s1 r7 ∙ ap (λ (b : Bool). s1 || b) (e7 ∙ or_swap k6 s2 r6 ∙ ap (λ (b : Bool). s2 || b) (e6 ∙ or_swap k5 s3 r5 ∙ ap (λ (b : Bool). s3 || b) (e5 ∙ or_swap k4 s4 r4 ∙ ap (λ (b : Bool). s4 || b) (e4 ∙ or_swap k3 s5 r3 ∙ ap (λ (b : Bool). s5 || b) (e3 ∙ or_swap k2 s6 r2 ∙ ap (λ (b : Bool). s6 || b) (e2 ∙ or_swap k1 s7 r1 ∙ ap (λ (b : Bool). s7 || b) (e1 ∙ or_swap k0 s8 r0 ∙ ap (λ (b : Bool). s8 || b) (ap (λ (b : Bool). b || r0) none)))))))) ∙ sym (or_assoc s1 (s2 || (s3 || (s4 || (s5 || (s6 || (s7 || (s8))))))) r0 ∙ ap (λ (b : Bool). s1 || b) (or_assoc s2 (s3 || (s4 || (s5 || (s6 || (s7 || (s8)))))) r0 ∙ ap (λ (b : Bool). s2 || b) (or_assoc s3 (s4 || (s5 || (s6 || (s7 || (s8))))) r0 ∙ ap (λ (b : Bool). s3 || b) (or_assoc s4 (s5 || (s6 || (s7 || (s8)))) r0 ∙ ap (λ (b : Bool). s4 || b) (or_assoc s5 (s6 || (s7 || (s8))) r0 ∙ ap (λ (b : Bool). s5 || b) (or_assoc s6 (s7 || (s8)) r0 ∙ ap (λ (b : Bool). s6 || b) (or_assoc s7 (s8) r0 ∙ ap (λ (b : Bool). s7 || b) (refl))))))))

-- eight ranges pushed one after the other
pub pushed-eight : (k0 k1 k2 k3 k4 k5 k6 k7 k8 s1 s2 s3 s4 s5 s6 s7 s8 : Bool) → k0 ≡ false → k1 ≡ (k0 || s8) → k2 ≡ (k1 || s7) → k3 ≡ (k2 || s6) → k4 ≡ (k3 || s5) → k5 ≡ (k4 || s4) → k6 ≡ (k5 || s3) → k7 ≡ (k6 || s2) → k8 ≡ (k7 || s1) → k8 ≡ (s1 || (s2 || (s3 || (s4 || (s5 || (s6 || (s7 || (s8))))))))
pushed-eight k0 k1 k2 k3 k4 k5 k6 k7 k8 s1 s2 s3 s4 s5 s6 s7 s8 none e1 e2 e3 e4 e5 e6 e7 e8 = e8 ∙ or_comm k7 s1 ∙ ap (λ (b : Bool). s1 || b) (e7 ∙ or_comm k6 s2 ∙ ap (λ (b : Bool). s2 || b) (e6 ∙ or_comm k5 s3 ∙ ap (λ (b : Bool). s3 || b) (e5 ∙ or_comm k4 s4 ∙ ap (λ (b : Bool). s4 || b) (e4 ∙ or_comm k3 s5 ∙ ap (λ (b : Bool). s5 || b) (e3 ∙ or_comm k2 s6 ∙ ap (λ (b : Bool). s6 || b) (e2 ∙ or_comm k1 s7 ∙ ap (λ (b : Bool). s7 || b) (e1 ∙ ap (λ (b : Bool). b || s8) none)))))))

-- a range after RCV.NXT advanced
pub shifted : (left r : Range) (taken n : ℕ) → left.from ≡ r.from - taken → left.to + taken ≡ r.to → covers left n ≡ covers r (n + taken)
unfolding IsRange AreApart
shifted left r taken n from to = elim (cases_lt n left.from) [
  | inl lt ↦ within_out left.from left.to n (inl lt) ∙ sym (within_out r.from r.to (n + taken) (inl (omega arith)))
  | inr ge ↦ elim (cases_lt n left.to) [
    | inl lt ↦ within_in left.from left.to n ge lt ∙ sym (within_in r.from r.to (n + taken) (omega arith) (omega arith))
    | inr past ↦ within_out left.from left.to n (inr past) ∙ sym (within_out r.from r.to (n + taken) (inr (omega arith)))
  ]
]

pub joined-sum : (k0 k1 k2 k3 k4 k5 k6 k7 k8 r1 r2 r3 r4 r5 r6 r7 r8 s1 s2 s3 s4 s5 s6 s7 s8 : ℕ) → k0 ≡ 0 → k1 + r1 ≤ k0 + s8 + 1 → k2 + r2 ≤ k1 + s7 + r1 → k3 + r3 ≤ k2 + s6 + r2 → k4 + r4 ≤ k3 + s5 + r3 → k5 + r5 ≤ k4 + s4 + r4 → k6 + r6 ≤ k5 + s3 + r5 → k7 + r7 ≤ k6 + s2 + r6 → k8 + r8 ≤ k7 + s1 + r7 → k8 + r8 ≤ s1 + s2 + s3 + s4 + s5 + s6 + s7 + s8 + 1
joined-sum k0 k1 k2 k3 k4 k5 k6 k7 k8 r1 r2 r3 r4 r5 r6 r7 r8 s1 s2 s3 s4 s5 s6 s7 s8 none e1 e2 e3 e4 e5 e6 e7 e8 = omega arith

pub pushed-sum : (k0 k1 k2 k3 k4 k5 k6 k7 k8 s1 s2 s3 s4 s5 s6 s7 s8 : ℕ) → k0 ≡ 0 → k1 ≤ k0 + s8 → k2 ≤ k1 + s7 → k3 ≤ k2 + s6 → k4 ≤ k3 + s5 → k5 ≤ k4 + s4 → k6 ≤ k5 + s3 → k7 ≤ k6 + s2 → k8 ≤ k7 + s1 → k8 ≤ s1 + s2 + s3 + s4 + s5 + s6 + s7 + s8
pushed-sum k0 k1 k2 k3 k4 k5 k6 k7 k8 s1 s2 s3 s4 s5 s6 s7 s8 none e1 e2 e3 e4 e5 e6 e7 e8 = omega arith

pub last-room : (a1 a2 a3 a4 a5 a6 a7 a8 m : ℕ) → m ≤ a1 → a1 ≤ a2 → a2 ≤ a3 → a3 ≤ a4 → a4 ≤ a5 → a5 ≤ a6 → a6 ≤ a7 → a7 ≤ a8 → m ≤ a8
last-room a1 a2 a3 a4 a5 a6 a7 a8 m e1 e2 e3 e4 e5 e6 e7 e8 = omega arith

-- the order after RCV.NXT advanced
pub order-after : (to from first taken : ℕ) → to ≤ 4294967295 → first ≤ 4294967295 → min 4294967295 (to + 1) ≤ from → from ≤ first + taken → (4294967295 ≤ from → 4294967295 ≤ first) → min 4294967295 (to + 1 - taken) ≤ first
order-after to from first taken bound most apart near unused = elim (cases_lt from 4294967295) [ inl used ↦ omega arith | inr ge ↦ (let h = unused ge in omega arith) ]

pub used_eighth : (s : Ranges) → (s.eighth.from ≡ 4294967295 → ⊥) → s.eighth.from < 4294967295
unfolding IsRange AreApart
used_eighth s not_last = omega (arith, s.eighth.is_range)

pub too-many : (k u old sum : ℕ) → k + u ≤ sum + 1 → k ≡ 8 → u ≡ 1 → old ≡ sum → old < 8 → ⊥
too-many k u old sum a b c d e = omega arith

pub one-more : (new k u old sum : ℕ) → k + u ≤ sum + 1 → old ≡ sum → new ≤ u + k → new ≤ old + 1
one-more new k u old sum a b c = omega arith

pub next-unused : (r next : Range) → 4294967295 ≤ r.from → min 4294967295 (r.to + 1) ≤ next.from → 4294967295 ≤ next.from
unfolding IsRange AreApart
next-unused r next unused apart = omega arith

pub first-bound : (s : Ranges) → s.first.from ≤ 4294967295
unfolding IsRange AreApart
first-bound s = omega (arith, s.first.is_range)

pub least : (a b c : ℕ) → a ≤ b → c ≡ b → a ≤ c
least a b c le is = omega arith

-- the top after RCV.NXT advanced
pub top_shift : (old new : Ranges) (to : ℕ) → ((k : ℕ) → has new k ≡ has old (k + to)) → top new ≤ top old - to
unfolding IsRange AreApart
top_shift old new to known = top_most new (top old - to) (λ k is. let below = below_top old (k + to) (sym (known k) ∙ is) in omega arith)

pub top_none : (s : Ranges) → ((k : ℕ) → has s k ≡ false) → top s ≤ 0
unfolding IsRange AreApart
top_none s none = top_most s 0 (λ k is. absurd (false≢true (sym (none k) ∙ is)))

-- what is taken ends at the top
pub top_taken : (s : Ranges) (n to : ℕ) → ((k : ℕ) → n ≤ k → k < to → has s k ≡ true) → to ≤ max n (top s)
unfolding IsRange AreApart
top_taken s n to taken = elim (cases_lt n to) [ inl lt ↦ (let below = below_top s (to - 1) (taken (to - 1) (omega arith) (omega arith)) in omega arith) | inr ge ↦ omega arith ]

-- the top after bytes came
pub top_added : (old new : Ranges) (from to : ℕ) → ((n : ℕ) → has new n ≡ (has old n || is_within from to n)) → top new ≤ max (top old) to
unfolding IsRange AreApart
top_added old new from to known = top_most new (max (top old) to) (λ n is. elim (either (has old n) (is_within from to n) _ (known n) is) [
  | inl before ↦ (let below = below_top old n before in omega arith)
  | inr here ↦ (let below = within_right from to n here in omega arith)
])

pub added_old : (a b c : Bool) → c ≡ (a || b) → a ≡ true → c ≡ true
added_old a b c is holds = is ∙ or_left a b holds

pub added_new : (a b c : Bool) → c ≡ (a || b) → b ≡ true → c ≡ true
added_new a b c is holds = is ∙ or_right a b holds

pub added_none : (a b c : Bool) → c ≡ (a || b) → a ≡ false → b ≡ false → c ≡ false
added_none a b c is one other = is ∙ or_none a b one other

pub range-ordered : (r : Range) → r.from ≤ r.to
unfolding IsRange
range-ordered r = r.is_range.1.0

unused-end : (r : Range) → 4294967295 ≤ r.from → end_of r ≡ 0
unfolding IsRange
unused-end r unused = let same : r.from ≡ r.to = omega (arith, r.is_range) in grind (arith, nat_tests)

-- nothing is kept if the first range is unused
pub top-unused : (s : Ranges) → s.first.from ≡ 4294967295 → top s ≡ 0
unfolding top IsRange AreApart
top-unused s unused = omega (arith, unused-end s.first (omega arith), unused-end s.second (omega arith), unused-end s.third (omega arith), unused-end s.fourth (omega arith), unused-end s.fifth (omega arith), unused-end s.sixth (omega arith), unused-end s.seventh (omega arith), unused-end s.eighth (omega arith))
