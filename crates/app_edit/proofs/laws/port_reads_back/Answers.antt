use Rattle.std.proofs.Common.{◌∙◌, ap, is_some, unwrap_or}
use Rattle.app_edit.proofs.Kept.{found}
use Rattle.app_edit.proofs.ReadBack.{port-read, port-set}
use Rattle.app_edit.specs.Fields.{port_of}
use Rattle.app_edit.proofs.laws.port_reads_back.Goals as goal

pub returns : goal.returns
returns c p s is one q =
    let xs = c.args.frame.now in
    let o = c.args.offload in
    let side = c.args.side in
    let n = c.args.port in
    let made = port-set o xs side n p s is one q in (
      c.set_port.ensures.done ∙ ap is_some made,
      ap (port_of side s) (c.set_port.ensures.bytes ∙ ap (λ r. unwrap_or r xs) made) ∙ port-read o p s xs side n (found c.of.result xs p c.of.ensures.value c.of.ensures.holds is) one q c.ranges.port.fits,
    )
