use Rattle.app_socket.proofs.Rounds.{none_rejected}
use Rattle.app_socket.proofs.Small.{goes_at_once}
use Rattle.app_socket.proofs.laws.repairs.small_text_goes_after_a_segment.Goals as goal

pub returns : goal.returns
returns c = λ opened patient idle waits window segment cwnd.
    let l = c.step.ensures.learns c.requires.opened opened (none_rejected _ _ _ c.requires.taken) in
    goes_at_once c.step.new.self c.step-given.new.self c.args.outgoing.now c.args.times.1 c.step-given.result (c.step-given.ensures.resends tt opened patient) c.step.ensures.out (l.sound c.requires.sound) idle waits window segment cwnd
