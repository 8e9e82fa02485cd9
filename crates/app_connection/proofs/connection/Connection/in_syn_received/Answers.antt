use Rattle.std.proofs.Common.{◌≡◌, inl, inr, sym, ap, subst, ℕ, false}
use Rattle.std.specs.Prelude.{Some, None}
use Rattle.tcp_stream.specs.Items.{syn_of}
use Rattle.tcp_stream.specs.Stands.{Stands}
use Rattle.tcp_stream.specs.Waits.{AckComes}
use Rattle.tcp_stream.specs.declared.receiving.Receiving.{Receiving}
use Rattle.app_connection.specs.Worlds.{replied}
use Rattle.app_connection.specs.declared.segment.Reply.{Reply}
use Rattle.app_connection.proofs.Going.{ack_of, brought, goes_at, goes_reply, if_some, says_challenge, says_first_ack, settled_as, settled_open, stand_reset, text_later, waits_as, went}
use Rattle.app_connection.proofs.connection.Connection.in_syn_received.Goals as goal

pub returns-then-segment-clause-goes : goal.returns-then-segment-clause-goes
returns-then-segment-clause-goes c = λ there back consumed comes stand.
    let self = c.args.self.now in
    let new = c.on_reset.new.self in
    let reply = c.first_ack.result in
    let says = says_first_ack there back (replied reply) consumed self c.args.outgoing.now c.args.incoming.now c.requires.phase (ap (λ (r : Reply). syn_of r.syn) c.first_ack.ensures) (ap (λ (r : Reply). r.ack) c.first_ack.ensures) stand in
    goes_at there back consumed new c.args.outgoing.now c.args.incoming.now _ (stand_reset there back consumed self new c.args.outgoing.now c.args.incoming.now c.on_reset.ensures.sending c.on_reset.ensures.receiving c.on_reset.ensures.stays stand)
    (says_challenge there back reply c.on_reset.result says c.on_reset.ensures.reply)

pub returns-then-segment-2-clause-goes : goal.returns-then-segment-2-clause-goes
returns-then-segment-2-clause-goes c = λ there back consumed comes stand.
    c.on_syn_again.ensures.goes there back consumed c.args.incoming.now (brought there back c.args.segment.now c.if-segment.false comes).ack stand

pub returns-then-not-is_acceptable-clause-goes : goal.returns-then-not-is_acceptable-clause-goes
returns-then-not-is_acceptable-clause-goes c = λ there back consumed comes stand.
    let self = c.args.self.now in
    let reply = c.first_ack-then-not-is_acceptable in
    goes_at there back consumed self c.args.outgoing.now c.args.incoming.now (Some (replied reply.result)) stand
    (says_first_ack there back (replied reply.result) consumed self c.args.outgoing.now c.args.incoming.now c.requires.phase (ap (λ (r : Reply). syn_of r.syn) reply.ensures) (ap (λ (r : Reply). r.ack) reply.ensures) stand)

pub returns-in_default-clause-goes : goal.returns-in_default-clause-goes
returns-in_default-clause-goes c = λ there back consumed comes stand. goes_at there back consumed c.args.self.now c.args.outgoing.now c.args.incoming.now None stand tt

pub returns-then-not-is_first_answer-clause-goes : goal.returns-then-not-is_first_answer-clause-goes
returns-then-not-is_first_answer-clause-goes c = λ there back consumed comes stand.
    let self = c.args.self.now in
    let reply = replied c.objection.result in
    goes_at there back consumed self c.args.outgoing.now c.args.incoming.now (Some reply) stand
    (elim c.objection.ensures.value [
      | inl rst ↦ inl rst
      | inr is ↦ says_first_ack there back reply consumed self c.args.outgoing.now c.args.incoming.now c.requires.phase (ap (λ (r : Reply). syn_of r.syn) is) (ap (λ (r : Reply). r.ack) is) stand
    ])

pub returns-clause-goes : goal.returns-clause-goes
returns-clause-goes c = λ there back consumed comes stand.
    let s = c.args.segment.now in
    let d = c.establish.new.self in
    let new = c.take_text.new.self in
    let brings = brought there back s c.if-segment.false comes in
    let acked = ack_of (λ number. (which : ℕ) × AckComes there which number) s.ack c.in-Some.ack c.in-Some.is brings.ack in
    let still : Stands back consumed d.receiving c.args.incoming.now = subst (λ (x : Receiving). Stands back consumed x c.args.incoming.now) (sym c.establish.ensures.receiving) stand.stands in
    goes_reply there back consumed new c.args.outgoing.now c.take_text.new.incoming c.take_text.result
    (went there back consumed new c.args.outgoing.now c.take_text.new.incoming (settled_as d new c.take_text.ensures.endpoint (settled_open d c.establish.ensures.phase))
    (waits_as there d.sending new.sending c.args.outgoing.now c.take_text.ensures.sending (c.establish.ensures.waits there acked.0 acked.1 stand.waits))
    (text_later back consumed s d.receiving new.receiving c.args.incoming.now c.take_text.new.incoming c.if-segment-2.false brings.text c.take_text.ensures.still (λ which text. c.take_text.ensures.stands back which consumed text still) still))
    (if_some (λ r. (r.syn ≡ false) × (r.rst ≡ false)) (λ r. r.syn ≡ false) c.take_text.result (λ r h. h.0) c.take_text.ensures.reply) c.take_text.ensures.answers
