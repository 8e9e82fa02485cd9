use Rattle.std.proofs.Common.{Some, ◌∙◌, ap, sym}
use Rattle.ip_wire.proofs.ReadsOnce.{frame-once}
use Rattle.ip_wire.proofs.laws.back.composes_once.Goals as goal

pub returns : goal.returns
returns c = λ (v, is, r) (w, same, s).
    let (header, carried) = frame-once c.args.received c.args.bytes.now _ _ v w r s in
    (header, is ∙ ap Some carried ∙ sym same)
