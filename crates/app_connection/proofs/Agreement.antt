-- What every move of the set-up keeps.
use Rattle.std.proofs.Common.{◌≡◌, refl, ℕ, zero, suc, List, [], ◌∷◌, Bool, true, false, sym, ◌∙◌, ap, subst, arith}
use Rattle.std.specs.Prelude.{◌==◌, ◌&&◌, ◌||◌, not, ◌⊎◌, Option, Some, None, slice_get, if◌then◌else◌}
use Rattle.std.proofs.lemmas.Bool.{false≢true, cond_both}
use Rattle.std.proofs.lemmas.Bool.Decides.{nat_tests}
use mathlib.Core.Logic.{inl, inr}
use Rattle.app_connection.specs.Sequence.{after, is_acceptable_at}
use Rattle.app_connection.specs.SetUp.{Endpoint, In_closed, In_listen, In_syn_sent, In_syn_received, In_established, Control, is_ack_of, has_ack, back_from, hears, hears_in_listen, hears_in_syn_sent, hears_in_syn_received, may_send, Side, with_numbers, becomes, is_fresh, is_stray, Move, Opens, Listens, Ends, Sends, Hears, Hears_stray, side_hears, moves, Ends_of, Turn, Here, There, turns, run_ends, idle, both_idle, Has, Agrees, BothAgree}

eq_test : (a b : ℕ) → (a == b) ≡ true → a ≡ b
eq_test a b is = grind (arith, nat_tests)

and_left : (a b : Bool) → (a && b) ≡ true → a ≡ true
and_left true b is = refl
and_left false b is = is

and_right : (a b : Bool) → (a && b) ≡ true → b ≡ true
and_right true b is = is
and_right false b is = absurd (false≢true is)

or_cases : (a b : Bool) → (a || b) ≡ true → (a ≡ true) ⊎ (b ≡ true)
or_cases true b is = inl refl
or_cases false b is = inr is

not_true : (a : Bool) → not a ≡ true → a ≡ true → ⊥
not_true true is also = false≢true is
not_true false is also = false≢true also

-- what is no "a and not b" has b if it has a
implied : (a b : Bool) → (a && not b) ≡ false → a ≡ true → b ≡ true
implied true true is also = refl
implied true false is also = absurd (false≢true (sym is))
implied false b is also = absurd (false≢true also)

no_ack : (ack : Option ℕ) → not (has_ack ack) ≡ true → ack ≡ None
no_ack None is = refl
no_ack (Some n) is = absurd (false≢true is)

ack_is : (iss : ℕ) (ack : Option ℕ) → is_ack_of iss ack ≡ true → ack ≡ Some (after iss)
ack_is iss None is = absurd (false≢true is)
ack_is iss (Some n) is = ap Some (eq_test n (after iss) is)

has_more : (e : Endpoint) (ns : List (ℕ × ℕ)) (x y : ℕ) → Has ns x y → Has (with_numbers e ns) x y
has_more In_closed ns x y h = h
has_more In_listen ns x y h = h
has_more (In_syn_sent iss) ns x y h = h
has_more (In_syn_received passive iss irs) ns x y h = inr h
has_more (In_established iss irs) ns x y h = inr h

has_same : (ns : List (ℕ × ℕ)) (x y a b : ℕ) → after x ≡ after a → after y ≡ after b → Has ns x y → Has ns a b
has_same [] x y a b p q h = h
has_same (pair ∷ ns) x y a b p q (inl here) = inl (here.0 ∙ p, here.1 ∙ q)
has_same (pair ∷ ns) x y a b p q (inr rest) = inr (has_same ns x y a b p q rest)

-- each pair with this ISS has this IRS
abbrev Only : List (ℕ × ℕ) → ℕ → ℕ → Type 0
Only [] iss irs = Unit {0}
Only (pair ∷ ns) iss irs = (after pair.0 ≡ after iss → after pair.1 ≡ after irs) × Only ns iss irs

only_one : (ns : List (ℕ × ℕ)) (iss irs other : ℕ) → Only ns iss irs → Has ns iss other → after other ≡ after irs
only_one [] iss irs other only h = absurd h
only_one (pair ∷ ns) iss irs other only (inl here) = sym here.1 ∙ only.0 here.0
only_one (pair ∷ ns) iss irs other only (inr rest) = only_one ns iss irs other only.1 rest

fresh_only : (ns : List (ℕ × ℕ)) (iss irs : ℕ) → is_fresh iss ns ≡ true → Only ns iss irs
fresh_only [] iss irs fresh = tt
fresh_only (pair ∷ ns) iss irs fresh =
    cond_both (after pair.0 == after iss) false (is_fresh iss ns) (λ (b : Bool). b ≡ true → Only (pair ∷ ns) iss irs)
    (λ same no. absurd (false≢true no))
    (λ other rest. ((λ is. absurd (unequal is other)), fresh_only ns iss irs rest)) fresh
  where
    unequal : after pair.0 ≡ after iss → (after pair.0 == after iss) ≡ false → ⊥
    unequal is other = grind (arith, nat_tests)

-- the endpoint's own numbers are among those that it used, and with no other IRS
abbrev Current : Endpoint → List (ℕ × ℕ) → Type 0
Current In_closed ns = Unit {0}
Current In_listen ns = Unit {0}
Current (In_syn_sent iss) ns = is_fresh iss ns ≡ true
Current (In_syn_received passive iss irs) ns = Has ns iss irs × Only ns iss irs
Current (In_established iss irs) ns = Has ns iss irs × Only ns iss irs

joined : (ns : List (ℕ × ℕ)) (iss irs : ℕ) → Only ns iss irs → Has ((iss, irs) ∷ ns) iss irs × Only ((iss, irs) ∷ ns) iss irs
joined ns iss irs only = (inl (refl, refl), ((λ is. refl), only))

-- the endpoint, once its numbers are added
abbrev Kept : List (ℕ × ℕ) → Endpoint → Type 0
Kept ns e = Current e (with_numbers e ns)

-- a segment that was sent with an acknowledgement: by an endpoint with this ISS and IRS
record Tells (c : Control) (ns peer : List (ℕ × ℕ)) : Type 0 where
  iss : ℕ
  irs : ℕ
  ack : c.ack ≡ Some (after irs)
  has : Has ns iss irs
  number : c.syn ≡ true → c.number ≡ iss
  plain : c.syn ≡ false → (c.number ≡ after iss) ⊎ Has peer irs iss

abbrev Fine : Control → List (ℕ × ℕ) → List (ℕ × ℕ) → Type 0
Fine c ns peer = (c.rst ≡ true) ⊎ ((c.ack ≡ None) ⊎ Tells c ns peer)

fine_more : (c : Control) (e f : Endpoint) (ns peer : List (ℕ × ℕ)) → Fine c ns peer → Fine c (with_numbers e ns) (with_numbers f peer)
fine_more c e f ns peer (inl rst) = inl rst
fine_more c e f ns peer (inr (inl none)) = inr (inl none)
fine_more c e f ns peer (inr (inr t)) = inr (inr (record {
  iss = t.iss;
  irs = t.irs;
  ack = t.ack;
  has = has_more e ns t.iss t.irs t.has;
  number = t.number;
  plain = λ none. elim (t.plain none) [ inl is ↦ inl is | inr h ↦ inr (has_more f peer t.irs t.iss h) ];
}))

-- what is known of a segment that comes: if it acknowledges the endpoint's number, the peer sent it
abbrev Told : Endpoint → Control → List (ℕ × ℕ) → List (ℕ × ℕ) → Type 0
Told In_closed c peer ns = Unit {0}
Told In_listen c peer ns = Unit {0}
Told (In_syn_sent iss) c peer ns = is_ack_of iss c.ack ≡ true → c.rst ≡ false → Tells c peer ns
Told (In_syn_received passive iss irs) c peer ns = is_ack_of iss c.ack ≡ true → c.rst ≡ false → Tells c peer ns
Told (In_established iss irs) c peer ns = Unit {0}

tells : (iss : ℕ) (c : Control) (peer ns : List (ℕ × ℕ)) → Fine c peer ns → is_ack_of iss c.ack ≡ true → c.rst ≡ false → Tells c peer ns
tells iss c peer ns (inl rst) is shut = absurd (false≢true (sym shut ∙ rst))
tells iss c peer ns (inr (inl none)) is shut = absurd (false≢true (subst (λ (o : Option ℕ). is_ack_of iss o ≡ true) none is))
tells iss c peer ns (inr (inr t)) is shut = t

told_fine : (e : Endpoint) (c : Control) (peer ns : List (ℕ × ℕ)) → Fine c peer ns → Told e c peer ns
told_fine In_closed c peer ns fine = tt
told_fine In_listen c peer ns fine = tt
told_fine (In_syn_sent iss) c peer ns fine = tells iss c peer ns fine
told_fine (In_syn_received passive iss irs) c peer ns fine = tells iss c peer ns fine
told_fine (In_established iss irs) c peer ns fine = tt

told_stray : (e : Endpoint) (c : Control) (peer ns : List (ℕ × ℕ)) → is_stray e c ≡ true → Told e c peer ns
told_stray In_closed c peer ns stray = tt
told_stray In_listen c peer ns stray = tt
told_stray (In_syn_sent iss) c peer ns stray = λ is shut. absurd (not_true (is_ack_of iss c.ack) stray is)
told_stray (In_syn_received passive iss irs) c peer ns stray = λ is shut. absurd (not_true (is_ack_of iss c.ack) stray is)
told_stray (In_established iss irs) c peer ns stray = tt

-- the acknowledgement that came is that of the sender's IRS
same_ack : (iss irs : ℕ) (ack : Option ℕ) → ack ≡ Some (after irs) → is_ack_of iss ack ≡ true → after irs ≡ after iss
same_ack iss irs ack is acks = eq_test _ _ (subst (λ (o : Option ℕ). is_ack_of iss o ≡ true) is acks)

-- a SYN with the acknowledgement
syn_agrees : (own number : ℕ) (c : Control) (peer ns : List (ℕ × ℕ)) → Tells c peer ns → is_ack_of own c.ack ≡ true → c.syn ≡ true → c.number ≡ number → Has peer number own
syn_agrees own number c peer ns t acks syn is =
    has_same peer t.iss t.irs number own (ap after (sym (t.number syn) ∙ is)) (same_ack own t.irs c.ack t.ack acks) t.has

-- a segment at RCV.NXT with the acknowledgement
plain_agrees : (own irs : ℕ) (c : Control) (peer ns : List (ℕ × ℕ)) → Only ns own irs → Tells c peer ns → is_ack_of own c.ack ≡ true → c.syn ≡ false → c.number ≡ after irs → Has peer irs own
plain_agrees own irs c peer ns only t acks syn is =
    has_same peer t.iss t.irs irs own (first (t.plain syn)) acked t.has
  where
    acked : after t.irs ≡ after own
    acked = same_ack own t.irs c.ack t.ack acks

    first : (c.number ≡ after t.iss) ⊎ Has ns t.irs t.iss → after t.iss ≡ after irs
    first (inl same) = sym same ∙ is
    first (inr has) = only_one ns own irs t.iss only (has_same ns t.irs t.iss own t.iss acked refl has)

-- the peer has the number of an endpoint that becomes established
abbrev Meets : List (ℕ × ℕ) → Endpoint → Type 0
Meets peer In_closed = Unit {0}
Meets peer In_listen = Unit {0}
Meets peer (In_syn_sent iss) = Unit {0}
Meets peer (In_syn_received passive iss irs) = Unit {0}
Meets peer (In_established iss irs) = Has peer irs iss

meets : (e : Endpoint) (s : Side) → Agrees e s → Meets s.numbers e
meets In_closed s h = tt
meets In_listen s h = tt
meets (In_syn_sent iss) s h = tt
meets (In_syn_received passive iss irs) s h = tt
meets (In_established iss irs) s h = h

agrees : (e : Endpoint) (s : Side) → Meets s.numbers e → Agrees e s
agrees In_closed s h = tt
agrees In_listen s h = tt
agrees (In_syn_sent iss) s h = tt
agrees (In_syn_received passive iss irs) s h = tt
agrees (In_established iss irs) s h = h

meets_more : (e f : Endpoint) (peer : List (ℕ × ℕ)) → Meets peer e → Meets (with_numbers f peer) e
meets_more In_closed f peer h = tt
meets_more In_listen f peer h = tt
meets_more (In_syn_sent iss) f peer h = tt
meets_more (In_syn_received passive iss irs) f peer h = tt
meets_more (In_established iss irs) f peer h = has_more f peer irs iss h

back_good : (passive : Bool) (ns peer : List (ℕ × ℕ)) → Kept ns (back_from passive) × Meets peer (back_from passive)
back_good true ns peer = (tt, tt)
back_good false ns peer = (tt, tt)

-- both facts of an endpoint after a segment
abbrev Holds : List (ℕ × ℕ) → List (ℕ × ℕ) → Endpoint → Type 0
Holds ns peer e = Kept ns e × Meets peer e

listen_good : (c : Control) (iss : ℕ) (ns peer : List (ℕ × ℕ)) → is_fresh iss ns ≡ true → Holds ns peer (hears_in_listen c iss)
listen_good c iss ns peer fresh =
    cond_both (c.rst || (has_ack c.ack || not c.syn)) In_listen (In_syn_received true iss c.number) (Holds ns peer)
    (λ no. (tt, tt)) (λ opens. (joined ns iss c.number (fresh_only ns iss c.number fresh), tt))

sent_good : (own : ℕ) (c : Control) (ns peer : List (ℕ × ℕ)) → is_fresh own ns ≡ true → (is_ack_of own c.ack ≡ true → c.rst ≡ false → Tells c peer ns) → Holds ns peer (hears_in_syn_sent own c)
sent_good own c ns peer fresh told =
    cond_both (has_ack c.ack && not (is_ack_of own c.ack)) _ _ (Holds ns peer) (λ other. stays) (λ fits. cond_both c.rst _ _ (Holds ns peer)
    (λ rst. cond_both (has_ack c.ack) _ _ (Holds ns peer) (λ acked. (tt, tt)) (λ none. stays))
    (λ no_rst. cond_both c.syn _ _ (Holds ns peer)
    (λ syn. cond_both (has_ack c.ack) _ _ (Holds ns peer)
    (λ acked. (joined ns own c.number only, syn_agrees own c.number c peer ns (told (implied _ _ fits acked) no_rst) (implied _ _ fits acked) syn refl))
    (λ none. (joined ns own c.number only, tt)))
    (λ no_syn. stays)))
  where
    stays : Holds ns peer (In_syn_sent own)
    stays = (fresh, tt)

    only : Only ns own c.number
    only = fresh_only ns own c.number fresh

received_good : (passive : Bool) (own irs : ℕ) (c : Control) (window : ℕ) (ns peer : List (ℕ × ℕ)) → Only ns own irs → (is_ack_of own c.ack ≡ true → c.rst ≡ false → Tells c peer ns)
    → Holds ns peer (hears_in_syn_received passive own irs c window)
received_good passive own irs c window ns peer only told =
    cond_both c.rst _ _ (Holds ns peer)
    (λ rst. cond_both (c.number == after irs) _ _ (Holds ns peer) (λ exact. back_good passive ns peer) (λ other. stays))
    (λ no_rst. cond_both c.syn _ _ (Holds ns peer)
    (λ syn. cond_both (c.number == irs && has_ack c.ack) _ _ (Holds ns peer)
    (λ again. cond_both (is_ack_of own c.ack) _ _ (Holds ns peer)
    (λ acks. (joined ns own irs only, syn_agrees own irs c peer ns (told acks no_rst) acks syn (eq_test _ _ (and_left _ _ again))))
    (λ other. stays))
    (λ not_again. cond_both (passive && is_acceptable_at (after irs) window c.number c.len) _ _ (Holds ns peer) (λ back. (tt, tt)) (λ other. stays)))
    (λ no_syn. cond_both (is_ack_of own c.ack && (c.number == after irs && is_acceptable_at (after irs) window c.number c.len)) _ _ (Holds ns peer)
    (λ acks. (joined ns own irs only, plain_agrees own irs c peer ns only (told (and_left _ _ acks) no_rst) (and_left _ _ acks) no_syn (eq_test _ _ (and_left _ _ (and_right _ _ acks)))))
    (λ other. stays)))
  where
    stays : Holds ns peer (In_syn_received passive own irs)
    stays = (joined ns own irs only, tt)

hears_good : (e : Endpoint) (c : Control) (window iss : ℕ) (ns peer : List (ℕ × ℕ)) → Current e ns → Meets peer e → Told e c peer ns → is_fresh iss ns ≡ true → Holds ns peer (hears e c window iss)
hears_good In_closed c window iss ns peer now met told fresh = (tt, tt)
hears_good In_listen c window iss ns peer now met told fresh = listen_good c iss ns peer fresh
hears_good (In_syn_sent own) c window iss ns peer now met told fresh = sent_good own c ns peer now told
hears_good (In_syn_received passive own irs) c window iss ns peer now met told fresh = received_good passive own irs c window ns peer now.1 told
hears_good (In_established own irs) c window iss ns peer now met told fresh = (joined ns own irs now.1, met)

-- what an endpoint may send is fine
sends_fine : (e : Endpoint) (c : Control) (ns peer : List (ℕ × ℕ)) → Current e ns → Meets peer e → may_send e c ≡ true → Fine c ns peer
sends_fine In_closed c ns peer now met may = inl may
sends_fine In_listen c ns peer now met may = inl may
sends_fine (In_syn_sent iss) c ns peer now met may = elim (or_cases _ _ may) [
  | inl rst ↦ inl rst
  | inr syn ↦ inr (inl (no_ack c.ack (and_right _ _ (and_right _ _ syn))))
]
sends_fine (In_syn_received passive iss irs) c ns peer now met may = elim (or_cases _ _ may) [
  | inl rst ↦ inl rst
  | inr acks ↦ inr (inr (record {
    iss = iss;
    irs = irs;
    ack = ack_is irs c.ack (and_left _ _ acks);
    has = now.0;
    number = λ syn. eq_test _ _ (subst (λ (b : Bool). (if b then c.number == iss else c.number == after iss) ≡ true) syn (and_right _ _ acks));
    plain = λ none. inl (eq_test _ _ (subst (λ (b : Bool). (if b then c.number == iss else c.number == after iss) ≡ true) none (and_right _ _ acks)));
  }))
]
sends_fine (In_established iss irs) c ns peer now met may = elim (or_cases _ _ may) [
  | inl rst ↦ inl rst
  | inr acks ↦ inr (inr (record {
    iss = iss;
    irs = irs;
    ack = ack_is irs c.ack (and_left _ _ acks);
    has = now.0;
    number = λ syn. absurd (not_true c.syn (and_right _ _ acks) syn);
    plain = λ none. inr met;
  }))
]

abbrev Each : (Control → Type 0) → List Control → Type 0
Each P [] = Unit {0}
Each P (x ∷ xs) = P x × Each P xs

each_weaker : (P Q : Control → Type 0) → ((x : Control) → P x → Q x) → (xs : List Control) → Each P xs → Each Q xs
each_weaker P Q f [] each = tt
each_weaker P Q f (x ∷ xs) each = (f x each.0, each_weaker P Q f xs each.1)

record Good (s peer : Side) : Type 0 where
  current : Current s.me s.numbers
  met : Meets peer.numbers s.me
  sent : Each (λ c. Fine c s.numbers peer.numbers) s.sent

-- a side with another endpoint, and its peer
becomes_good : (s peer : Side) (e : Endpoint) → Good s peer → Holds s.numbers peer.numbers e → Good (becomes s e) peer
becomes_good s peer e good holds = record {
  current = holds.0;
  met = holds.1;
  sent = each_weaker _ _ (λ c fine. fine_more c e In_closed s.numbers peer.numbers fine) s.sent good.sent;
}

becomes_peer : (s peer : Side) (e : Endpoint) → Good peer s → Good peer (becomes s e)
becomes_peer s peer e good = record {
  current = good.current;
  met = meets_more peer.me e s.numbers good.met;
  sent = each_weaker _ _ (λ c fine. fine_more c In_closed e peer.numbers s.numbers fine) peer.sent good.sent;
}

abbrev Pair : Side → Side → Type 0
Pair s peer = Good s peer × Good peer s

becomes_pair : (s peer : Side) (e : Endpoint) → Pair s peer → Holds s.numbers peer.numbers e → Pair (becomes s e) peer
becomes_pair s peer e pair holds = (becomes_good s peer e pair.0 holds, becomes_peer s peer e pair.1)

hears_pair : (s peer : Side) (c : Control) (window iss : ℕ) → Pair s peer → Told s.me c peer.numbers s.numbers → Pair (side_hears s (Some c) window iss) peer
hears_pair s peer c window iss pair told =
    cond_both (is_fresh iss s.numbers) _ _ (λ (v : Side). Pair v peer)
    (λ fresh. becomes_pair s peer (hears s.me c window iss) pair (hears_good s.me c window iss s.numbers peer.numbers pair.0.current pair.0.met told fresh))
    (λ used. pair)

came_pair : (s peer : Side) (o : Option Control) (window iss : ℕ) → Pair s peer → ((c : Control) → o ≡ Some c → Fine c peer.numbers s.numbers) → Pair (side_hears s o window iss) peer
came_pair s peer None window iss pair fine = pair
came_pair s peer (Some c) window iss pair fine = hears_pair s peer c window iss pair (told_fine s.me c peer.numbers s.numbers (fine c refl))

each_get : (P : Control → Type 0) (xs : List Control) (n : ℕ) (x : Control) → Each P xs → slice_get xs n ≡ Some x → P x
each_get P [] n x each is = absurd (cc)
each_get P (y ∷ xs) zero x each is = subst P (let e : y ≡ x = cc in e) each.0
each_get P (y ∷ xs) (suc n) x each is = each_get P xs n x each.1 is

moves_pair : (s peer : Side) (m : Move) → Pair s peer → Pair (moves s peer m) peer
moves_pair s peer (Opens iss) pair = cond_both (is_fresh iss s.numbers) _ _ (λ (v : Side). Pair v peer) (λ fresh. becomes_pair s peer (In_syn_sent iss) pair (fresh, tt)) (λ used. pair)
moves_pair s peer Listens pair = becomes_pair s peer In_listen pair (tt, tt)
moves_pair s peer Ends pair = becomes_pair s peer In_closed pair (tt, tt)
moves_pair s peer (Sends c) pair =
    cond_both (may_send s.me c) _ _ (λ (v : Side). Pair v peer)
    (λ may. (
      record { current = pair.0.current; met = pair.0.met; sent = (sends_fine s.me c s.numbers peer.numbers pair.0.current pair.0.met may, pair.0.sent) },
      record { current = pair.1.current; met = pair.1.met; sent = pair.1.sent },
    ))
    (λ no. pair)
moves_pair s peer (Hears which window iss) pair = came_pair s peer (slice_get peer.sent which) window iss pair (λ c is. each_get _ peer.sent which c pair.1.sent is)
moves_pair s peer (Hears_stray c window iss) pair =
    cond_both (is_stray s.me c) _ _ (λ (v : Side). Pair v peer) (λ stray. hears_pair s peer c window iss pair (told_stray s.me c peer.numbers s.numbers stray)) (λ no. pair)

turns_pair : (e : Ends_of) (t : Turn) → Pair e.here e.there → Pair (turns e t).here (turns e t).there
turns_pair e (Here m) pair = moves_pair e.here e.there m pair
turns_pair e (There m) pair = let next = moves_pair e.there e.here m (pair.1, pair.0) in (next.1, next.0)

run_pair : (ts : List Turn) (e : Ends_of) → Pair e.here e.there → Pair (run_ends ts e).here (run_ends ts e).there
run_pair [] e pair = pair
run_pair (t ∷ ts) e pair = run_pair ts (turns e t) (turns_pair e t pair)

idle_good : Good idle idle
idle_good = record { current = tt; met = tt; sent = tt }

pub both_agree : (ts : List Turn) → BothAgree (run_ends ts both_idle)
both_agree ts =
    let e = run_ends ts both_idle in
    let pair = run_pair ts both_idle (idle_good, idle_good) in
    record { here = agrees e.here.me e.there pair.0.met; there = agrees e.there.me e.here pair.1.met }
