use Rattle.std.proofs.Common.{◌∙◌, ap, sym}
use Rattle.std.specs.Option.{option_map}
use Rattle.ip_wire.proofs.Found.{frame-found, gives-frame, parses-frame, values-found}
use Rattle.ip_wire.proofs.FrameOf.{frame_of-Reads}
use Rattle.ip_wire.proofs.Options.{lacks, none_of}
use Rattle.ip_wire.specs.Frame.{frame_of}
use Rattle.ip_wire.proofs.frame.Frame.parse.Goals as goal

pub returns-then-is_read-clause-value : goal.returns-then-is_read-clause-value
returns-then-is_read-clause-value c = values-found c.args.caps.now c.args.bytes.now c.in-Ok.frame c.in-Ok.ensures.value (sym c.is_read.ensures ∙ c.if-is_read.true)

pub returns-then-is_read-clause-ok : goal.returns-then-is_read-clause-ok
returns-then-is_read-clause-ok c = parses-frame c.args.caps.now c.args.bytes.now c.in-Ok.frame c.in-Ok.ensures.value (sym c.is_read.ensures ∙ c.if-is_read.true)

pub returns-then-is_read-clause-reads : goal.returns-then-is_read-clause-reads
returns-then-is_read-clause-reads c = gives-frame c.args.caps.now c.args.bytes.now c.in-Ok.frame c.in-Ok.ensures.value

pub returns-else-is_read-clause-reads : goal.returns-else-is_read-clause-reads
returns-else-is_read-clause-reads c = λ v d.
    let none = lacks _ (sym c.is_read.ensures ∙ c.if-is_read.false) in
    ((λ gives. absurd gives), λ r. let apart = sym none ∙ ((gives-frame c.args.caps.now c.args.bytes.now c.in-Ok.frame c.in-Ok.ensures.value v d).1 r).1 in cc)

pub returns-else-is_read-clause-value : goal.returns-else-is_read-clause-value
returns-else-is_read-clause-value c =
    frame-found c.args.caps.now c.args.bytes.now c.in-Ok.frame c.in-Ok.ensures.value
    ∙ ap (option_map (λ d. (c.in-Ok.frame.header, d))) (lacks _ (sym c.is_read.ensures ∙ c.if-is_read.false))

pub returns-in-Err-clause-value : goal.returns-in-Err-clause-value
returns-in-Err-clause-value c =
    none_of (frame_of c.args.caps.now c.args.bytes.now) (λ (v, d) e. let r = (frame_of-Reads c.args.caps.now c.args.bytes.now v d).0 e in let none = c.in-Err.ensures.ok.1 r.reads_header.whole in cc)
