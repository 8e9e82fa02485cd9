use Rattle.app_socket.proofs.Lost.{goes_twice}
use Rattle.app_socket.proofs.laws.losses.a_lost_syn_goes_again.Goals as goal

pub returns-clause-once : goal.returns-clause-once
returns-clause-once c =
    (goes_twice c.args.socket.now c.step.new.self c.step-once.new.self c.step-twice.new.self c.args.outgoing.now c.args.incoming.now c.step.new.incoming c.args.now c.args.iss _ c.step-once.result c.step-twice.result c.ranges.iss.fits c.requires.clock c.requires.none
    c.step.ensures.steps (c.step.ensures.connects c.requires.none) (c.step-once.ensures.again tt) (c.step-twice.ensures.again tt)).once

pub returns-clause-twice : goal.returns-clause-twice
returns-clause-twice c =
    (goes_twice c.args.socket.now c.step.new.self c.step-once.new.self c.step-twice.new.self c.args.outgoing.now c.args.incoming.now c.step.new.incoming c.args.now c.args.iss _ c.step-once.result c.step-twice.result c.ranges.iss.fits c.requires.clock c.requires.none
    c.step.ensures.steps (c.step.ensures.connects c.requires.none) (c.step-once.ensures.again tt) (c.step-twice.ensures.again tt)).twice

pub returns-clause-next : goal.returns-clause-next
returns-clause-next c =
    (goes_twice c.args.socket.now c.step.new.self c.step-once.new.self c.step-twice.new.self c.args.outgoing.now c.args.incoming.now c.step.new.incoming c.args.now c.args.iss _ c.step-once.result c.step-twice.result c.ranges.iss.fits c.requires.clock c.requires.none
    c.step.ensures.steps (c.step.ensures.connects c.requires.none) (c.step-once.ensures.again tt) (c.step-twice.ensures.again tt)).next
