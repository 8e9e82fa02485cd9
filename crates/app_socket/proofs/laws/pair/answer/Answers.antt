use Rattle.std.proofs.Common.{refl, sym, ◌∙◌, Bor}
use Rattle.wire_tcp_options.specs.declared.tcp.summary.TcpOptionSummary.{TcpOptionSummary}
use Rattle.app_connection.specs.declared.segment.Segment.{Segment}
use Rattle.app_socket.proofs.Answering.{came, reply_later, reply_once, windowed}
use Rattle.app_socket.proofs.Opened.{no_text_short}
use Rattle.app_socket.proofs.laws.pair.answer.Goals as goal

pub returns-then-is_some-clause-goes : goal.returns-then-is_some-clause-goes
returns-then-is_some-clause-goes c = λ a t run set at from some may.
    let it = c.step-reply in
    let e = it.ensures in
    let options : Bor TcpOptionSummary = record { ref_ptr = (0, 0); now = c.args.round.now.text.options } in
    let x : Bor Segment = record { ref_ptr = (0, 0); now = c.with_window-segment.result } in
    let same = windowed c.args.sent.now c.with_window-segment.result c.args.round.now.text.window c.with_window-segment.ensures in
    let it_came = came a c.args.there.now it.new.self c.args.answers.now c.args.text.now it.new.incoming t c.args.round.now c.args.sent.now _ options it.result run set at from some may same refl e.out e.steps e.stays e.gets e.learns e.timestamp in
    reply_once a c.args.there.now it.new.self c.args.answers.now c.args.text.now it.new.incoming t c.args.round.now c.args.sent.now x options it.result (sym c.is_some.ensures ∙ c.if-is_some.true) it_came at may same refl e.replies (e.text (λ x. x))

pub returns-clause-goes : goal.returns-clause-goes
returns-clause-goes c = λ a t run set at from some may.
    let it = c.step-reply in
    let e = it.ensures in
    let f = c.step.ensures in
    let options : Bor TcpOptionSummary = record { ref_ptr = (0, 0); now = c.args.round.now.text.options } in
    let x : Bor Segment = record { ref_ptr = (0, 0); now = c.with_window-segment.result } in
    let same = windowed c.args.sent.now c.with_window-segment.result c.args.round.now.text.window c.with_window-segment.ensures in
    let it_came = came a c.args.there.now it.new.self c.args.answers.now c.args.text.now it.new.incoming t c.args.round.now c.args.sent.now _ options it.result run set at from some may same refl e.out e.steps e.stays e.gets e.learns e.timestamp in
    reply_later a c.args.there.now it.new.self c.step.new.self c.args.answers.now c.args.text.now it.new.incoming c.step.new.incoming t c.args.round.now c.args.sent.now x options it.result c.step.result (sym c.is_some.ensures ∙ c.if-is_some.false) it_came at may same refl e.owes f.out f.steps f.sends (f.resends tt) (f.acknowledges tt)

pub returns-then-is_some-clause-short : goal.returns-then-is_some-clause-short
returns-then-is_some-clause-short c = no_text_short c.step-reply.result (c.step-reply.ensures.text (λ x. x))

pub returns-clause-short : goal.returns-clause-short
returns-clause-short c = c.step.ensures.short tt
