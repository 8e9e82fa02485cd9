use Rattle.std.proofs.Common.{ℕ, ◌≡◌, ◌≢◌, ◌∙◌, ◌+◌, ◌-◌, ◌*◌, ◌%◌, ◌^◌, ◌<◌, ap, arith, below_more, length, set, subst, sym}
use Rattle.std.proofs.lemmas.Grind.{common_steps}
use Rattle.std.proofs.lemmas.List.{get_or_default, length-set}
use Rattle.app_router.proofs.Ranges.{bounds_beside}
use Rattle.app_router.proofs.Splits.{unread}
use Rattle.app_router.proofs.table.bound.Invariants.{ArePlaced}
use Rattle.app_router.specs.Index.{node_at, node_with}
use Rattle.app_router.specs.Table.{IsBeside, range_at, start_of}
use Rattle.app_router.specs.declared.index.Node.{Node}
use Rattle.app_router.proofs.table.bound.Goals as goal

pub loop-i-preserved : goal.loop-i-preserved
loop-i-preserved c =
    let nodes = c.args.nodes.now in
    let ranges = c.loop-i.ranges in
    let i = c.loop-i.i in
    let first = c.bounds-first.result.0 in
    let following = c.bounds-first.result.1 in
    let twice = set (set ranges (2 * i + 2) first) (2 * i + 3) following in
    let inside : i < length nodes = c.loop-i-test.true in
    let room : 2 * i + 3 < length ranges = omega (arith, length-set {A = ℕ}) in
    let kept : (p : ℕ) → p < 2 * i + 2 → range_at twice p ≡ range_at ranges p = λ p less. grind (arith, common_steps) in
    let low : range_at twice (2 * i + 2) ≡ first = grind (arith, common_steps) in
    let high : range_at twice (2 * i + 3) ≡ following = grind (arith, common_steps) in
    let told = subst (λ (n : Node). n.version ≡ 4 → (first ≡ n.high) × (following ≡ (n.high + 2 ^ (64 - n.prefix_len)) % 2 ^ 64))
    (get_or_default nodes i unread (node_with 0 0 0 0) inside) c.bounds-first.ensures.ipv4 in
    let none = subst (λ (n : Node). n.version ≢ 4 → c.bounds-first.result ≡ (0, 0)) (get_or_default nodes i unread (node_with 0 0 0 0) inside) c.bounds-first.ensures.other in
    record {
      placed = below_more (λ k. ArePlaced twice k (node_at nodes k)) i
          (λ k less. rw (kept (2 * k + 2) (omega (arith, less)), kept (2 * k + 3) (omega (arith, less))) (c.loop-i.invariant.placed k less))
          (λ four. (ap start_of (low ∙ (told four).0), ap start_of (high ∙ (told four).1)));
      first = ap start_of (kept 0 (omega arith)) ∙ c.loop-i.invariant.first;
      beside = λ count p spares.
          let both = bounds_beside count p first following (node_at nodes i) (spares i inside) told
          (λ other. (ap (λ (q : ℕ × ℕ). q.0) (none other), ap (λ (q : ℕ × ℕ). q.1) (none other))) in
          let A : ℕ → Type 0 = λ k. IsBeside count p (start_of (range_at twice k)) in
          let first_of_two : (k : ℕ) → k < 2 * i + 2 + 1 → A k =
          below_more A (2 * i + 2)
          (λ k less. subst (λ r. IsBeside count p (start_of r)) (sym (kept k less)) (c.loop-i.invariant.beside count p spares k less))
          (subst (λ r. IsBeside count p (start_of r)) (sym low) both.0) in
          let more : (k : ℕ) → k < 2 * i + 3 + 1 → A k =
          below_more A (2 * i + 3) (λ k less. first_of_two k (omega (arith, less))) (subst (λ r. IsBeside count p (start_of r)) (sym high) both.1) in
          λ k less. more k (omega (arith, less));
    }

pub returns-clause-bounded : goal.returns-clause-bounded
returns-clause-bounded c k below four =
    let at = c.loop-i.invariant.placed k (omega (arith, below)) four in
    let room : 2 * k + 3 < length c.loop-i.ranges = omega (arith, below, length-set {A = ℕ}) in
    ((2 * k + 2, omega (arith, room), at.0), (2 * k + 3, room, at.1))

pub returns-clause-beside : goal.returns-clause-beside
returns-clause-beside c count p spares k below = c.loop-i.invariant.beside count p spares k (omega (arith, below, length-set {A = ℕ}))
