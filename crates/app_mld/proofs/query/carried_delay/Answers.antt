use Rattle.std.proofs.Common.{◌-◌, arith, drop, length, length-drop, rules}
use Rattle.std.proofs.lemmas.List.{take_all}
use Rattle.app_mld.proofs.Queries.{carried}
use Rattle.app_mld.proofs.query.carried_delay.Goals as goal

pub returns : goal.returns
returns c =
    let payload = c.args.payload.now in
    let len = c.of-chain.result.len in
    let all = take_all (length payload - len) (drop len payload) (omega (arith, length-drop len payload)) in
    carried c.args.ip.now c.args.group.now payload c.of-chain.result c.message_delay.result (search rules) (search rules) (search rules)
    (rw all at c.message_delay.ensures)
