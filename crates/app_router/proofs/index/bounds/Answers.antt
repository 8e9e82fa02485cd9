use Rattle.std.proofs.Common.{◌≡◌, ◌∙◌, ◌^◌, ◌<◌, ℕ, ap, arith, false, length, subst, sym, true}
use Rattle.app_router.proofs.Elements.{counted}
use Rattle.app_router.proofs.HintSplits.{IsSplitBy, index_numbers, ipv4_split, ipv6_split, target_numbers}
use Rattle.app_router.specs.declared.index.Node.{Node}
use Rattle.app_router.proofs.index.bounds.Goals as goal

pub returns-then-splits-clause-ipv4 : goal.returns-then-splits-clause-ipv4
returns-then-splits-clause-ipv4 c blocks addr index hinted valid is four many plain =
    let version = ap (λ (n : Node). n.version) is ∙ four in
    c.hinted-low.ensures.ipv4 version hinted.within many plain

pub returns-else-splits-clause-ipv4 : goal.returns-else-splits-clause-ipv4
returns-else-splits-clause-ipv4 c blocks addr index hinted valid is four many plain =
    let nodes = c.args.nodes.now in
    let target = c.args.target.now in
    let version = ap (λ (n : Node). n.version) is ∙ four in
    let pair = c.hinted-low.ensures.ipv4 version hinted.within many plain in
    let found = ipv4_split nodes target hinted (index_numbers blocks nodes index) (target_numbers addr target valid is) version many in
    let here : IsSplitBy nodes c.hinted-low.result.0 c.hinted-low.result.1 target = subst (λ (q : ℕ × ℕ). IsSplitBy nodes q.0 q.1 target) (sym pair) found in
    let on : c.splits.result ≡ true = c.splits.ensures.complete here.order here.within here.split in
    let off : c.splits.result ≡ false = c.if-splits.false in
    absurd (cc)

pub returns-then-splits-clause-ipv6 : goal.returns-then-splits-clause-ipv6
returns-then-splits-clause-ipv6 c blocks addr index hinted valid is version many plain =
    let six : c.args.target.now.version ≡ 6 = ap (λ (n : Node). n.version) is ∙ version in
    c.hinted-low.ensures.ipv6 (λ four. omega (arith, six, four)) hinted.within many plain

pub returns-else-splits-clause-ipv6 : goal.returns-else-splits-clause-ipv6
returns-else-splits-clause-ipv6 c blocks addr index hinted valid is version many plain =
    let nodes = c.args.nodes.now in
    let target = c.args.target.now in
    let six : target.version ≡ 6 = ap (λ (n : Node). n.version) is ∙ version in
    let pair = c.hinted-low.ensures.ipv6 (λ four. omega (arith, six, four)) hinted.within many plain in
    let count = index.count in
    let fits : length nodes < 2 ^ 64 = omega (arith, count, counted blocks nodes index) in
    let found = ipv6_split nodes target hinted (index_numbers blocks nodes index) (target_numbers addr target valid is) six many fits in
    let here : IsSplitBy nodes c.hinted-low.result.0 c.hinted-low.result.1 target = subst (λ (q : ℕ × ℕ). IsSplitBy nodes q.0 q.1 target) (sym pair) found in
    let on : c.splits.result ≡ true = c.splits.ensures.complete here.order here.within here.split in
    let off : c.splits.result ≡ false = c.if-splits.false in
    absurd (cc)
