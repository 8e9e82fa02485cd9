use Rattle.std.proofs.Common.{◌≡◌, refl, arith, ◌+◌, ◌-◌, ◌%◌}
use Rattle.tcp_stream.specs.Endpoint.{distance}
use Rattle.tcp_stream.proofs.Pending.{ack_waits, ack_counted}
use Rattle.tcp_stream.proofs.sending.Sending.on_ack.Goals as goal

pub returns-clause-waits : goal.returns-clause-waits
returns-clause-waits c = λ w which ack waits.
    let self = c.args.self.now in
    let k = (c.args.number + (4294967296 - self.una)) % 4294967296 in
    let is : distance c.args.number self.una ≡ k = omega arith in
    ack_waits w self c.let_go.new.self c.args.ring.now which c.args.number k ack waits (omega arith) is (omega arith) c.let_go.ensures.una (omega (arith, c.let_go.ensures.flight)) c.let_go.ensures.closed c.let_go.ensures.fin
    (c.let_go.ensures.rest c.args.ring.now refl)

pub returns-clause-counted : goal.returns-clause-counted
returns-clause-counted c = λ initial events which ack. ack_counted initial events which

pub returns-then-newly-self-clause-counted : goal.returns-then-newly-self-clause-counted
returns-then-newly-self-clause-counted c = λ initial events which ack. ack_counted initial events which
