use Rattle.std.proofs.Common.{◌≡◌, ◌∙◌, sym, ap, subst, ◌<◌}
use Rattle.tcp_stream.specs.Endpoint.{distance}
use Rattle.app_connection.specs.Endpoints.{OutFits}
use Rattle.app_socket.specs.declared.flow.Flow.{Flow}
use Rattle.app_socket.specs.declared.socket.Socket.{Socket}
use Rattle.app_socket.specs.Resends.{restarted_at}
use Rattle.app_socket.proofs.socket.Socket.learn.Goals as goal

pub returns-else-before-eq0-clause-restarts : goal.returns-else-before-eq0-clause-restarts
returns-else-before-eq0-clause-restarts c = λ opened size fits newly.
    let now = c.args.now in
    let mid = c.learn_ack.new.self in
    let P : Socket → Type 0 = λ (x : Socket). OutFits x.connection.sending size → 0 < distance x.connection.sending.una c.args.before.now.una → mid.timers.resend_at ≡ restarted_at mid now in
    let Q : (fits : OutFits c.learn_life.new.self.connection.sending size) → 0 < distance c.learn_life.new.self.connection.sending.una c.args.before.now.una → mid.timers.resend_at ≡ restarted_at mid now = c.learn_ack.ensures.restarts size in
    subst P c.learn_life.ensures.same Q fits newly ∙ ap (λ (f : Flow). restarted_at (record mid { flow = f }) now) (sym c.on_window.ensures)
