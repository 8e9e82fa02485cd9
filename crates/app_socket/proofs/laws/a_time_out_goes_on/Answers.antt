use Rattle.tcp_stream.specs.Network.{run, start}
use Rattle.app_socket.proofs.Rounds.{across, count_some}
use Rattle.app_socket.proofs.laws.a_time_out_goes_on.Goals as goal

pub returns : goal.returns
returns c = λ initial room events waits less opened space.
    let old = c.args.socket.now.connection.sending in
    let new = c.step.new.self.connection.sending in
    let outgoing = c.args.outgoing.now in
    let resends = c.step.ensures.resends tt c.requires.opened c.requires.patient in
    let sends = resends.expires (count_some (run events (start initial)) old outgoing waits less) c.requires.due c.requires.probed in
    across initial room events old new outgoing c.step.result sends c.requires.out.small waits less opened space
