use Rattle.std.proofs.Common.{ℕ, ◌≡◌, ◌∙◌, ◌<◌, [], below_more, get_or-set_other, get_or-set_same, length, map, set, sym, ap, subst, arith}
use Rattle.std.proofs.lemmas.List.{get_or-map, length-map}
use Rattle.app_router.specs.Index.{IsBlock, IsFilled, block_at, block_of, node_at, node_of, node_with}
use Rattle.app_router.specs.declared.route.Route.{Route}
use Rattle.app_router.proofs.index.index.Goals as goal

pub loop-i-preserved : goal.loop-i-preserved
loop-i-preserved c =
    let routes = c.args.routes.now in
    let blocks = map block_of routes in
    let nodes = c.loop-i.nodes in
    let i = c.loop-i.i in
    let node = c.new.result in
    let d = node_with 0 0 0 0 in
    let inside : i < length routes = c.loop-i-test.true in
    let room : i < length nodes = omega (arith, inside, c.requires.len) in
    let block : block_at blocks i ≡ c.index-routes-i.result.block =
    get_or-map block_of routes i c.index-routes-i.result (block_at [] 0) inside ∙ ap (λ (r : Route). r.block) (sym c.index-routes-i.is) in
    let P : ℕ → Type 0 = λ k. IsBlock (block_at blocks k) × (node_at (set nodes i node) k ≡ node_of (block_at blocks k) k) in
    below_more P i
    (λ k less. let before = c.loop-i.invariant k less in (before.0, get_or-set_other nodes i k node d (omega (arith, less)) ∙ before.1)) (
      subst IsBlock (sym block) c.new.ensures.valid,
      get_or-set_same nodes i node d room ∙ c.new.ensures.value ∙ ap (λ b. node_of b i) (sym block),
    )

pub returns-clause-hinted : goal.returns-clause-hinted
returns-clause-hinted c many =
    let blocks = map block_of c.args.routes.now in
    let count : length blocks ≡ length c.args.routes.now = length-map c.args.routes.now block_of in
    let filled : IsFilled blocks c.loop-i.nodes = record { len = omega (arith, count); each = λ i less. c.loop-i.invariant i (omega (arith, less, count)) } in
    c.arrange.ensures.hinted blocks filled many
