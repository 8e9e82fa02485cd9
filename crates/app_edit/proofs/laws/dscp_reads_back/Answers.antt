use Rattle.std.proofs.Common.{◌∙◌, ap, is_some, unwrap_or}
use Rattle.app_edit.proofs.Kept.{found}
use Rattle.app_edit.proofs.ReadBack.{dscp-is, dscp-read}
use Rattle.app_edit.specs.Fields.{dscp_of, ecn_of}
use Rattle.app_edit.proofs.laws.dscp_reads_back.Goals as goal

pub returns : goal.returns
returns c p is =
    let xs = c.args.frame.now in
    let n = c.args.dscp in
    let made = dscp-is xs n p c.requires is in
    let new = c.set_dscp.ensures.bytes ∙ ap (λ r. unwrap_or r xs) made in
    let read = dscp-read p xs n (found c.of.result xs p c.of.ensures.value c.of.ensures.holds is) c.bytes_fit.ensures c.requires in
    (c.set_dscp.ensures.done ∙ ap is_some made, ap (dscp_of p.version) new ∙ read.0, ap (ecn_of p.version) new ∙ read.1)
