use Rattle.std.proofs.Common.{◌∙◌, ap, arith, ◌+◌}
use Rattle.tcp_stream.specs.declared.receiving.Receiving.{Receiving}
use Rattle.tcp_stream.proofs.Received.{room_fits}
use Rattle.tcp_stream.proofs.Keeping.{comes_first, fin_kept}
use Rattle.tcp_stream.proofs.receiving.Receiving.keep.Goals as goal

pub returns-then-not-keep_bytes-clause-stands : goal.returns-then-not-keep_bytes-clause-stands
returns-then-not-keep_bytes-clause-stands c = λ w consumed which it stands.
    c.keep_bytes.ensures.stands w consumed which _ (comes_first w which c.args.ahead c.min-n.result c.args.bytes.now c.args.fin it) stands

pub returns-then-ahead-n-clause-stands : goal.returns-then-ahead-n-clause-stands
returns-then-ahead-n-clause-stands c = λ w consumed which it stands.
    fin_kept w which c.args.ahead (c.args.ahead + c.min-n.result) c.args.bytes.now c.args.fin consumed c.keep_bytes.new.self c.keep_bytes.new.ring c.if-fin.true it
    (c.keep_bytes.ensures.stands w consumed which _ (comes_first w which c.args.ahead c.min-n.result c.args.bytes.now c.args.fin it) stands)
    (ap (λ (d : Receiving). d.is_open) c.keep_bytes.ensures.same ∙ c.requires.is_open)
    (omega (arith, c.if-n-bytes.true, c.if-ahead-n.true, c.requires.small, c.room-room.ensures, room_fits))
    (omega (arith, c.if-n-bytes.true))

pub returns-else-fin-clause-stands : goal.returns-else-fin-clause-stands
returns-else-fin-clause-stands c = λ w consumed which it stands.
    c.keep_bytes.ensures.stands w consumed which _ (comes_first w which c.args.ahead c.min-n.result c.args.bytes.now c.args.fin it) stands
