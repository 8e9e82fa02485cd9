use Rattle.std.proofs.Common.{inr}
use Rattle.std.specs.Prelude.{None}
use Rattle.tcp_stream.specs.Waits.{from_of}
use Rattle.app_connection.proofs.Going.{sends_goes, sent_out}
use Rattle.app_connection.proofs.connection.Connection.cut.Goals as goal

pub returns-then-not-part-2-clause-goes : goal.returns-then-not-part-2-clause-goes
returns-then-not-part-2-clause-goes c = λ opened there back consumed buffer stand.
    let old = c.args.self.now in
    let part = c.segment-part in
    sends_goes there back consumed old part.new.self c.args.outgoing.now buffer (from_of old.sending c.args.offset) _ None opened part.ensures.waits stand tt

pub returns-clause-goes : goal.returns-clause-goes
returns-clause-goes c = λ opened there back consumed buffer stand.
    let old = c.args.self.now in
    let part = c.segment-part in
    sends_goes there back consumed old part.new.self c.args.outgoing.now buffer (from_of old.sending c.args.offset) _ _ opened part.ensures.waits stand
    (inr (record { text = inr (sent_out there (from_of old.sending c.args.offset) part.result.number _ (part.ensures.legal there stand.waits)); ack = c.next.ensures.legal back consumed buffer stand.stands }))
