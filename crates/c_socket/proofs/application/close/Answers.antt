use Rattle.std.proofs.Common.{sym}
use Rattle.app_socket.specs.Fields.{socket_of}
use Rattle.c_socket.specs.Application.{Closes}
use Rattle.c_socket.proofs.Kept.{carried}
use Rattle.c_socket.proofs.application.close.Goals as goal

pub returns : goal.returns
returns c =
    let old = c.value-socket.result in
    let new = c.close.new.self in
    let e = c.close.ensures in
    let closes : Closes old new = record { same = e.same; state = e.state; receiving = e.receiving; waits = e.waits; stays = e.stays; steps = e.steps } in
    carried Closes old (socket_of c.args.connection.now) new (socket_of c.fields.result) c.value-socket.ensures (sym c.fields.ensures) closes
