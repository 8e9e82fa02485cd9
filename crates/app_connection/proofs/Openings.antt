-- Every run of two programs that open again and again delivers in each connection.
use Rattle.std.proofs.Common.{◌≡◌, ◌⊎◌, inl, inr, sym, subst, ℕ, arith}
use Rattle.std.proofs.lemmas.Bool.{cases_lt}
use Rattle.app_connection.specs.Openings.{OthersStay, Program, Programs, Runs, Turns, begins, ends_of, here, opens, present, renews, rests, stays, there}
use Rattle.app_connection.specs.Runs.{BothRead, End}
use Rattle.app_connection.proofs.Delivery.{calls_pair, new_pair, opens_pair, pair_reads, rests_pair}
use Rattle.app_connection.proofs.Pair.{Pair, turned}

-- what holds of both ends of each connection
abbrev Pairs : Program → Program → Type 0
Pairs a b = (n : ℕ) → Pair (a.ends n) (b.ends n)

same_or_other : (n k : ℕ) → (n ≡ k) ⊎ (n ≡ k → ⊥)
same_or_other n k = elim (cases_lt n k) [
  | inl before ↦ inr (λ is. absurd (omega arith))
  | inr ge ↦ (elim (cases_lt k n) [
    | inl after ↦ inr (λ is. absurd (omega arith))
    | inr le ↦ inl (omega arith)
  ])
]

-- one end changed
one_changed : (a b new : Program) (k : ℕ) → OthersStay k a new → Pair (new.ends k) (b.ends k) → Pairs a b → Pairs new b
one_changed a b new k others pair pairs = λ n. elim (same_or_other n k) [
  | inl is ↦ subst (λ (m : ℕ). Pair (new.ends m) (b.ends m)) (sym is) pair
  | inr other ↦ subst (λ (x : End). Pair x (b.ends n)) (sym (others n other)) (pairs n)
]

turns_pairs : (a b new : Program) → Turns a b new → Pairs a b → Pairs new b
turns_pairs a b c (stays new number others calls) pairs = one_changed a b c a.number others (calls_pair (present a) (b.ends a.number) (c.ends a.number) calls (pairs a.number)) pairs
turns_pairs a b c (rests new e d incoming result number others none still out s is) pairs =
    one_changed a b c a.number others
    (subst (λ (x : End). Pair x (b.ends a.number)) (sym is) (rests_pair (present a) (b.ends a.number) d incoming result still (s.rests none still) out (pairs a.number))) pairs
turns_pairs a b c (opens new k e d incoming result number others shut none has may out s is) pairs =
    one_changed a b c k others
    (subst (λ (x : End). Pair x (b.ends k)) (sym is) (opens_pair e (a.ends k) (b.ends k) (present a).outgoing d incoming result shut has may out (s.opens none has) (pairs k))) pairs
turns_pairs a b c (renews new k number shut same) pairs = λ n. subst (λ (x : End). Pair x (b.ends n)) (sym (same n)) (pairs n)

runs_pairs : (p : Programs) → Runs p → Pairs p.here p.there
runs_pairs p (begins q here_new there_new) = λ n. new_pair (p.here.ends n) (p.there.ends n) (here_new n) (there_new n)
runs_pairs p (here q new run turns) = turns_pairs q.here q.there new turns (runs_pairs q run)
runs_pairs p (there q new run turns) = λ n. turned (new.ends n) (q.here.ends n) (turns_pairs q.there q.here new turns (λ m. turned (q.here.ends m) (q.there.ends m) (runs_pairs q run m)) n)

pub connections_that_open_again_deliver : (p : Programs) → Runs p → (n : ℕ) → BothRead (ends_of p n)
connections_that_open_again_deliver p run n = pair_reads (p.here.ends n) (p.there.ends n) (runs_pairs p run n)
