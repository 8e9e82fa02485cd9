use Rattle.app_socket.proofs.Repairs.{answers_twice}
use Rattle.app_socket.proofs.laws.repairs.a_lost_answer_goes_again.Goals as goal

pub returns-clause-once : goal.returns-clause-once
returns-clause-once c =
    (answers_twice c.args.socket.now c.step-once.new.self c.step-twice.new.self c.args.first c.args.second c.step-once.result c.step-twice.result c.requires.phase c.requires.due c.requires.much c.requires.patient (c.step-once.ensures.again tt)
    (c.step-twice.ensures.again tt)).once

pub returns-clause-twice : goal.returns-clause-twice
returns-clause-twice c =
    (answers_twice c.args.socket.now c.step-once.new.self c.step-twice.new.self c.args.first c.args.second c.step-once.result c.step-twice.result c.requires.phase c.requires.due c.requires.much c.requires.patient (c.step-once.ensures.again tt)
    (c.step-twice.ensures.again tt)).twice

pub returns-clause-ends : goal.returns-clause-ends
returns-clause-ends c =
    (answers_twice c.args.socket.now c.step-once.new.self c.step-twice.new.self c.args.first c.args.second c.step-once.result c.step-twice.result c.requires.phase c.requires.due c.requires.much c.requires.patient (c.step-once.ensures.again tt)
    (c.step-twice.ensures.again tt)).ends
