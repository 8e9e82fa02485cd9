use Rattle.std.proofs.Common.{refl, ap, ℕ}
use Rattle.std.specs.Prelude.{Some, None}
use Rattle.tcp_stream.specs.Items.{syn_of}
use Rattle.tcp_stream.specs.Waits.{AckComes}
use Rattle.app_connection.specs.Worlds.{replied}
use Rattle.app_connection.specs.declared.segment.Reply.{Reply}
use Rattle.app_connection.specs.declared.state.Phase.TheVariants.{Listen}
use Rattle.app_connection.proofs.Going.{ack_of, goes_at, says_first_ack, says_syn_ack, settled_listen, settled_open, went, stand_still, stands_as, stands_now}
use Rattle.app_connection.proofs.connection.Connection.on_syn_again.Goals as goal

pub returns-then-ack-self-clause-goes : goal.returns-then-ack-self-clause-goes
returns-then-ack-self-clause-goes c = λ there back consumed buffer some stand.
    let self = c.args.self.now in
    goes_at there back consumed self c.args.outgoing.now buffer (Some (replied c.first_ack.result)) stand
    (says_first_ack there back (replied c.first_ack.result) consumed self c.args.outgoing.now buffer c.requires.phase (ap (λ (r : Reply). syn_of r.syn) c.first_ack.ensures) (ap (λ (r : Reply). r.ack) c.first_ack.ensures) stand)

pub returns-clause-goes : goal.returns-clause-goes
returns-clause-goes c = λ there back consumed buffer some stand.
    let comes = ack_of (λ number. (which : ℕ) × AckComes there which number) c.args.segment.now.ack c.in-Some.ack c.in-Some.is some in
    let self = c.args.self.now in
    let new = c.establish.new.self in
    record {
      went = went there back consumed new c.args.outgoing.now buffer (settled_open new c.establish.ensures.phase) (c.establish.ensures.waits there comes.0 comes.1 stand.waits)
          (stands_as back consumed self.receiving new.receiving buffer c.establish.ensures.receiving (stands_now back consumed self.receiving buffer stand.stands));
      out = tt;
    }

pub returns-then-self-clause-goes : goal.returns-then-self-clause-goes
returns-then-self-clause-goes c = λ there back consumed buffer some stand.
    let new = record c.args.self.now { phase = Listen } in
    goes_at there back consumed new c.args.outgoing.now buffer None (stand_still there back consumed c.args.self.now new c.args.outgoing.now buffer (settled_listen new refl) refl refl stand) tt

pub returns-then-segment-self-2-clause-goes : goal.returns-then-segment-self-2-clause-goes
returns-then-segment-self-2-clause-goes c = λ there back consumed buffer some stand.
    let self = c.args.self.now in
    let reply = replied c.syn_ack.result in
    goes_at there back consumed self c.args.outgoing.now buffer (Some reply) stand
    (says_syn_ack there back reply consumed self c.args.outgoing.now buffer c.requires.phase (ap (λ (r : Reply). r.number) c.syn_ack.ensures) (ap (λ (r : Reply). syn_of r.syn) c.syn_ack.ensures) (ap (λ (r : Reply). r.ack) c.syn_ack.ensures) stand)

pub returns-2-clause-goes : goal.returns-2-clause-goes
returns-2-clause-goes c = λ there back consumed buffer some stand.
    let self = c.args.self.now in
    let reply = replied c.first_ack-2.result in
    goes_at there back consumed self c.args.outgoing.now buffer (Some reply) stand
    (says_first_ack there back reply consumed self c.args.outgoing.now buffer c.requires.phase (ap (λ (r : Reply). syn_of r.syn) c.first_ack-2.ensures) (ap (λ (r : Reply). r.ack) c.first_ack-2.ensures) stand)
