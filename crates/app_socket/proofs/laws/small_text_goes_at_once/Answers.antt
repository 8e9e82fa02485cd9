use Rattle.app_socket.proofs.Small.{goes_at_once}
use Rattle.app_socket.proofs.laws.small_text_goes_at_once.Goals as goal

pub returns : goal.returns
returns c = λ segment cwnd.
    goes_at_once c.args.socket.now c.step.new.self c.args.outgoing.now c.args.now c.step.result (c.step.ensures.resends tt c.requires.opened c.requires.patient) c.requires.out c.requires.sound c.requires.idle c.requires.waits c.requires.window
    segment cwnd
