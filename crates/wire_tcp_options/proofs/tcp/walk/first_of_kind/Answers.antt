use Rattle.std.proofs.Common.{◌≡◌, ◌<◌, ◌≤◌, Err, length, subst, sym, rules, arith}
use Rattle.std.proofs.lemmas.Grind.{common_steps}
use Rattle.wire_tcp_options.proofs.Walks.{broken, ended, found, passed}
use Rattle.wire_tcp_options.specs.TcpWalk.{FindsFirst}
use Rattle.wire_tcp_options.proofs.tcp.walk.first_of_kind.Goals as goal

pub returns-in_err-next : goal.returns-in_err-next
returns-in_err-next c =
    let seen = c.loop-rest.invariant in
    let some : 0 < length c.loop-rest.rest.now = grind (arith, common_steps) in
    let e : c.from_residual.result ≡ Err (record {}) = search rules in
    subst (FindsFirst c.args.options.now c.args.kind) (sym e) (broken c.args.options.now seen.0 c.args.kind c.loop-rest.rest.now seen.1 seen.2 some c.in_err-next.ensures.err)

pub returns-then-rest-kind : goal.returns-then-rest-kind
returns-then-rest-kind c =
    let seen = c.loop-rest.invariant in
    let some : 0 < length c.loop-rest.rest.now = grind (arith, common_steps) in
    found c.args.options.now seen.0 c.args.kind c.loop-rest.rest.now c.in_ok-next.next.now c.in_ok-next.option seen.1 seen.2 c.requires some c.in_ok-next.ensures.ok c.if-rest-kind.true

pub loop-rest-preserved : goal.loop-rest-preserved
loop-rest-preserved c =
    let seen = c.loop-rest.invariant in
    let some : 0 < length c.loop-rest.rest.now = grind (arith, common_steps) in
    passed c.args.options.now seen.0 c.args.kind c.loop-rest.rest.now c.in_ok-next.next.now c.in_ok-next.option seen.1 seen.2 c.requires some c.in_ok-next.ensures.ok c.if-rest-kind.false

pub returns : goal.returns
returns c =
    let seen = c.loop-rest.invariant in
    let none : length c.loop-rest.rest.now ≤ 0 = grind (arith, common_steps) in
    ended c.args.options.now seen.0 c.args.kind c.loop-rest.rest.now seen.1 seen.2 none
