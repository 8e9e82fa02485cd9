use Rattle.std.proofs.Common.{◌≡◌, inl, refl, sym, ◌∙◌, ap, subst, ℕ, [], ◌∷◌, ◌++◌, map}
use Rattle.std.specs.Prelude.{Some, None}
use Rattle.tcp_stream.specs.Endpoint.{Byte, Syn}
use Rattle.tcp_stream.specs.Network.{end_of, run}
use Rattle.tcp_stream.specs.Items.{syn_of}
use Rattle.tcp_stream.specs.Waits.{Waits, AckComes}
use Rattle.tcp_stream.specs.declared.receiving.Receiving.{Receiving}
use Rattle.tcp_stream.specs.declared.sending.Sending.{Sending}
use Rattle.app_connection.specs.Sequence.{after}
use Rattle.app_connection.specs.declared.segment.Reply.{Reply}
use Rattle.app_connection.specs.declared.state.Phase.TheVariants.{Closed}
use Rattle.app_connection.specs.Worlds.{IsOut, replied}
use Rattle.app_connection.proofs.Going.{went, stand_still, stands_as, ack_of, brought, goes_at, goes_with, says_ack, says_syn_ack, settled_open, settled_shut, syn_of_text, taken_stand}
use Rattle.app_connection.proofs.connection.Connection.in_syn_sent.Goals as goal

pub returns-then-segment-clause-goes : goal.returns-then-segment-clause-goes
returns-then-segment-clause-goes c = λ there back consumed buffer comes stand. goes_at there back consumed c.args.self.now c.args.outgoing.now buffer None stand tt

pub returns-else-segment-clause-goes : goal.returns-else-segment-clause-goes
returns-else-segment-clause-goes c = λ there back consumed buffer comes stand. goes_at there back consumed c.args.self.now c.args.outgoing.now buffer (Some (replied c.reset.result)) stand (inl (ap (λ (r : Reply). r.rst) c.reset.ensures))

pub returns-then-segment-2-clause-goes : goal.returns-then-segment-2-clause-goes
returns-then-segment-2-clause-goes c = λ there back consumed buffer comes stand.
    let new = record c.args.self.now { phase = Closed } in
    goes_at there back consumed new c.args.outgoing.now buffer None (stand_still there back consumed c.args.self.now new c.args.outgoing.now buffer (settled_shut new refl) refl refl stand) tt

pub returns-then-not-segment-clause-goes : goal.returns-then-not-segment-clause-goes
returns-then-not-segment-clause-goes c = λ there back consumed buffer comes stand. goes_at there back consumed c.args.self.now c.args.outgoing.now buffer None stand tt

pub returns-then-segment-3-clause-goes : goal.returns-then-segment-3-clause-goes
returns-then-segment-3-clause-goes c = λ there back consumed buffer comes stand. goes_at there back consumed c.args.self.now c.args.outgoing.now buffer None stand tt

pub returns-else-not-segment-clause-goes : goal.returns-else-not-segment-clause-goes
returns-else-not-segment-clause-goes c = λ there back consumed buffer comes stand.
    let s = c.args.segment.now in
    let d = c.take_syn.new.self in
    let new = c.establish.new.self in
    let rest = map Byte s.payload.now ++ end_of s.fin in
    let brings = brought there back s c.if-segment-2.false comes in
    let acked = ack_of (λ number. (which : ℕ) × AckComes there which number) s.ack c.in-Some.ack c.in-Some.is brings.ack in
    let still : Waits there d.sending c.args.outgoing.now = subst (λ (x : Sending). Waits there x c.args.outgoing.now) (sym c.take_syn.ensures.sending) stand.waits in
    let text = syn_of_text back s.number s.syn s.payload.now s.fin c.if-not-segment.false brings.text in
    let known = c.take_syn.ensures.next (stand.sent c.requires.phase).1 in
    let ack : c.first_ack.result.ack ≡ Some new.receiving.next = ap (λ (r : Reply). r.ack) c.first_ack.ensures ∙ ap (λ (n : ℕ). Some (after n)) c.establish.ensures.irs ∙ ap (λ (n : ℕ). Some n) (sym known.1)
    ∙ ap (λ (r : Receiving). Some r.next) (sym c.establish.ensures.receiving) in
    goes_with there back consumed new c.args.outgoing.now buffer (Some (replied c.first_ack.result))
    (went there back consumed new c.args.outgoing.now buffer (settled_open new c.establish.ensures.phase) (c.establish.ensures.waits there acked.0 acked.1 still)
    (stands_as back consumed d.receiving new.receiving buffer c.establish.ensures.receiving (c.take_syn.ensures.stands back text.0 rest consumed buffer text.1 stand.stands)))
    (λ v w at. says_ack v w (replied c.first_ack.result) consumed new.receiving buffer (ap (λ (r : Reply). syn_of r.syn) c.first_ack.ensures) ack (ap (λ (r : Receiving). r.is_open) c.establish.ensures.receiving ∙ known.0) at.stands)

pub returns-else-not-segment-2-clause-goes : goal.returns-else-not-segment-2-clause-goes
returns-else-not-segment-2-clause-goes c = λ there back consumed buffer comes stand.
    let s = c.args.segment.now in
    let rest = map Byte s.payload.now ++ end_of s.fin in
    let d = c.take_syn-in-None.new.self in
    let brings = brought there back s c.if-segment-3.false comes in
    let text = syn_of_text back s.number s.syn s.payload.now s.fin c.if-not-segment-2.false brings.text in
    let before = stand.sent c.requires.phase in
    let later = c.take_syn-in-None.ensures.stands back text.0 rest consumed buffer text.1 stand.stands in
    goes_with there back consumed d c.args.outgoing.now buffer (Some (replied c.syn_ack.result))
    (record {
      acks = [];
      texts = later.events;
      of_sender = tt;
      of_receiver = later.own;
      stand = taken_stand there (run later.events back) consumed d c.args.outgoing.now buffer (subst (λ (x : Sending). Waits there x c.args.outgoing.now) (sym c.take_syn-in-None.ensures.sending) stand.waits) later.stands
          c.take_syn-in-None.ensures.phase (subst (λ (n : ℕ). IsOut there n (Syn ∷ [])) (sym c.take_syn-in-None.ensures.iss) before.0) (c.take_syn-in-None.ensures.next before.1);
    })
    (λ v w at. says_syn_ack v w (replied c.syn_ack.result) consumed d c.args.outgoing.now buffer c.take_syn-in-None.ensures.phase (ap (λ (r : Reply). r.number) c.syn_ack.ensures) (ap (λ (r : Reply). syn_of r.syn) c.syn_ack.ensures)
    (ap (λ (r : Reply). r.ack) c.syn_ack.ensures) at)
