use Rattle.std.proofs.Common.{◌≡◌, false, length, sym, subst, ℕ}
use Rattle.std.specs.Prelude.{Some, None}
use Rattle.tcp_stream.specs.Items.{items_of}
use Rattle.tcp_stream.specs.Stands.{Stands, room_of}
use Rattle.tcp_stream.specs.Waits.{AckComes}
use Rattle.tcp_stream.specs.declared.receiving.Receiving.{Receiving}
use Rattle.app_connection.specs.Worlds.{GetsText, replied}
use Rattle.app_connection.proofs.Going.{ack_of, brought, goes_at, goes_reply, if_some, says_bare, says_challenge, settled_as, settled_open, stand_reset, text_later, waits_as, went, went_now}
use Rattle.app_connection.proofs.connection.Connection.in_open.Goals as goal

pub returns-in_default-clause-goes : goal.returns-in_default-clause-goes
returns-in_default-clause-goes c = λ there back consumed comes stand. goes_at there back consumed c.args.self.now c.args.outgoing.now c.args.incoming.now None stand tt

pub returns-then-segment-clause-goes : goal.returns-then-segment-clause-goes
returns-then-segment-clause-goes c = λ there back consumed comes stand.
    let self = c.args.self.now in
    let reply = c.acknowledgement in
    goes_at there back consumed c.on_reset.new.self c.args.outgoing.now c.args.incoming.now _
    (stand_reset there back consumed self c.on_reset.new.self c.args.outgoing.now c.args.incoming.now c.on_reset.ensures.sending c.on_reset.ensures.receiving c.on_reset.ensures.stays stand)
    (says_challenge there back reply.result c.on_reset.result (says_bare there back reply.result reply.ensures.syn (reply.ensures.legal back consumed c.args.incoming.now stand.stands)) c.on_reset.ensures.reply)

pub returns-then-segment-2-clause-goes : goal.returns-then-segment-2-clause-goes
returns-then-segment-2-clause-goes c = λ there back consumed comes stand.
    let self = c.args.self.now in
    goes_reply there back consumed self c.args.outgoing.now c.args.incoming.now c.outside.result (went_now there back consumed self c.args.outgoing.now c.args.incoming.now stand) c.outside.ensures.syn
    (if_some _ _ c.outside.result (λ r h w read stands. h w read c.args.incoming.now stands) c.outside.ensures.legal)

pub returns-in_default-ack-clause-goes : goal.returns-in_default-ack-clause-goes
returns-in_default-ack-clause-goes c = λ there back consumed comes stand. goes_at there back consumed c.args.self.now c.args.outgoing.now c.args.incoming.now None stand tt

pub returns-then-is_before-clause-goes : goal.returns-then-is_before-clause-goes
returns-then-is_before-clause-goes c = λ there back consumed comes stand.
    let reply = c.acknowledgement-then-is_before in
    goes_at there back consumed c.args.self.now c.args.outgoing.now c.args.incoming.now (Some (replied reply.result)) stand (says_bare there back reply.result reply.ensures.syn (reply.ensures.legal back consumed c.args.incoming.now stand.stands))

pub returns-clause-goes : goal.returns-clause-goes
returns-clause-goes c = λ there back consumed comes stand.
    let s = c.args.segment.now in
    let d = c.on_ack.new.self in
    let new = c.take_text.new.self in
    let brings = brought there back s c.if-segment.false comes in
    let acked = ack_of (λ number. (which : ℕ) × AckComes there which number) s.ack c.in-Some-ack.ack c.in-Some-ack.is brings.ack in
    let still : Stands back consumed d.receiving c.args.incoming.now = subst (λ (x : Receiving). Stands back consumed x c.args.incoming.now) (sym c.on_ack.ensures.receiving) stand.stands in
    goes_reply there back consumed new c.args.outgoing.now c.take_text.new.incoming c.take_text.result
    (went there back consumed new c.args.outgoing.now c.take_text.new.incoming (settled_as d new c.take_text.ensures.endpoint (settled_as c.args.self.now d c.on_ack.ensures.endpoint (settled_open c.args.self.now c.requires.phase)))
    (waits_as there d.sending new.sending c.args.outgoing.now c.take_text.ensures.sending (c.on_ack.ensures.waits there acked.0 acked.1 stand.waits))
    (text_later back consumed s d.receiving new.receiving c.args.incoming.now c.take_text.new.incoming c.if-segment-2.false brings.text c.take_text.ensures.still (λ which text. c.take_text.ensures.stands back which consumed text still) still))
    (if_some (λ r. (r.syn ≡ false) × (r.rst ≡ false)) (λ r. r.syn ≡ false) c.take_text.result (λ r h. h.0) c.take_text.ensures.reply) c.take_text.ensures.answers

pub returns-clause-gets : goal.returns-clause-gets
returns-clause-gets c = λ synced rst syn some taken ack sent.
    let s = c.args.segment.now in
    subst (λ (r : Receiving). GetsText r c.take_text.new.self.receiving c.args.incoming.now c.take_text.new.incoming (room_of r (length c.args.incoming.now)) s.number (items_of false s.payload.now s.fin)) c.on_ack.ensures.receiving
    (c.take_text.ensures.gets syn some)
