use Rattle.std.proofs.Common.{◌≡◌, arith}
use Rattle.app_connection.specs.Endpoints.{next_of}
use Rattle.app_socket.proofs.Repairs.{at_end, at_or_before}
use Rattle.app_socket.proofs.laws.repairs.a_probe_is_one_before.Goals as goal

pub returns-clause-number : goal.returns-clause-number
returns-clause-number c =
    let next : next_of c.args.socket.now.connection ≡ 0 = omega (arith, c.requires.una, c.requires.flight) in
    at_or_before c.step.result (next_of c.args.socket.now.connection) next (c.step.ensures.acknowledges tt c.requires.opened c.requires.patient).number

pub returns-clause-due : goal.returns-clause-due
returns-clause-due c = λ due.
    let next : next_of c.args.socket.now.connection ≡ 0 = omega (arith, c.requires.una, c.requires.flight) in
    at_end c.step.result (next_of c.args.socket.now.connection) next ((c.step.ensures.acknowledges tt c.requires.opened c.requires.patient).at due)
