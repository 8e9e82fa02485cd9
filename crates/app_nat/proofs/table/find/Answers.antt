use Rattle.std.proofs.Common.{refl}
use Rattle.app_nat.proofs.Calls.{found-table}
use Rattle.app_nat.proofs.table.find.Goals as goal

pub returns-clause-keeps : goal.returns-clause-keeps
returns-clause-keeps c =
    simp (c.place-place.ensures, c.protocol.ensures) (found-table c.args.nat.now c.args.mappings.now c.args.now c.args.event c.args.remote.now c.from-port.result c.receive.new.self _
    (c.if-not-has_port.ensures.0 refl) (simp (c.place-place.ensures, c.protocol.ensures) at c.if-mapping-now.false)
    (simp (c.place-place.ensures, c.protocol.ensures) at c.receive.ensures))
