use Rattle.std.proofs.Common.{◌∙◌, sym}
use Rattle.ip_wire.proofs.Found.{gives-carried, parses-carried}
use Rattle.ip_wire.proofs.Options.{lacks}
use Rattle.ip_wire.proofs.frame.carried.Carried.parse.Goals as goal

pub returns-then-is_read-clause-ok : goal.returns-then-is_read-clause-ok
returns-then-is_read-clause-ok c = parses-carried c.args.caps.now c.args.ethertype c.args.bytes.now c.read-value.result c.read-value.ensures (sym c.is_read.ensures ∙ c.if-is_read.true)

pub returns-then-is_read-clause-reads : goal.returns-then-is_read-clause-reads
returns-then-is_read-clause-reads c = gives-carried c.args.caps.now c.args.ethertype c.args.bytes.now c.read-value.result c.read-value.ensures

pub returns-else-is_read-clause-reads : goal.returns-else-is_read-clause-reads
returns-else-is_read-clause-reads c = λ d.
    let none = lacks _ (sym c.is_read.ensures ∙ c.if-is_read.false) in
    ((λ gives. absurd gives), λ r. let apart = sym none ∙ (gives-carried c.args.caps.now c.args.ethertype c.args.bytes.now c.read-value.result c.read-value.ensures d).1 r in cc)
