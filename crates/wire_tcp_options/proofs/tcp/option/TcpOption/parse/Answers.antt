use Rattle.std.proofs.Common.{[], ◌∷◌, ◌∙◌, ◌<◌, length, drop, refl, ap, arith}
use Rattle.std.proofs.lemmas.Grind.{common_steps}
use Rattle.wire_tcp_options.specs.TcpItems.{item}
use Rattle.wire_tcp_options.proofs.Items.{take_left, first_cell, IsItem_bare}
use Rattle.wire_tcp_options.proofs.tcp.option.TcpOption.parse.Goals as goal

pub returns-then-kind-eq-OPT_NOP-clause-ok : goal.returns-then-kind-eq-OPT_NOP-clause-ok
returns-then-kind-eq-OPT_NOP-clause-ok c =
    let b = c.args.buffer.now in
    let filled : 0 < length b = grind (arith, common_steps) in
    (item 1 [], IsItem_bare, refl, rw take_left (first_cell b filled ∙ ap (λ x. x ∷ drop 1 b) c.if-kind-eq-OPT_NOP.true))
