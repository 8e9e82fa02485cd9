use Rattle.std.specs.Prelude.{◌-◌}
use Rattle.app_socket.proofs.Repairs.{hole_before, hole_between}
use Rattle.app_socket.proofs.laws.repairs.a_hole_goes_again.Goals as goal

pub returns-clause-before : goal.returns-clause-before
returns-clause-before c = λ a b d e blocks before room.
    let old = c.args.socket.now in
    let early = c.requires.early in
    let r = c.step.ensures.resends tt early.opened early.patient in
    r.hole old.flow.rescued (a - old.flow.rescued) c.requires.flight c.requires.sound early.clock early.rests c.requires.first c.requires.recovers (hole_before old.flow.scoreboard old.flow.rescued a b d e blocks before) c.requires.text room

pub returns-clause-between : goal.returns-clause-between
returns-clause-between c = λ a b d e blocks after before room.
    let old = c.args.socket.now in
    let early = c.requires.early in
    let r = c.step.ensures.resends tt early.opened early.patient in
    r.hole b (d - b) c.requires.flight c.requires.sound early.clock early.rests c.requires.first c.requires.recovers (hole_between old.flow.scoreboard old.flow.rescued a b d e blocks after before) c.requires.text room
