use Rattle.std.proofs.Common.{◌∙◌, ap, is_some, unwrap_or}
use Rattle.app_edit.proofs.Kept.{found}
use Rattle.app_edit.proofs.ReadBack.{hop_limit-is, hop_limit-read}
use Rattle.app_edit.specs.Fields.{hop_limit_of}
use Rattle.app_edit.proofs.laws.hop_limit_reads_back.Goals as goal

pub returns : goal.returns
returns c p is =
    let xs = c.args.frame.now in
    let n = c.args.hop_limit in
    let made = hop_limit-is xs n p is in (
      c.set_hop_limit.ensures.done ∙ ap is_some made,
      ap (hop_limit_of p.version) (c.set_hop_limit.ensures.bytes ∙ ap (λ r. unwrap_or r xs) made) ∙ hop_limit-read p xs n (found c.of.result xs p c.of.ensures.value c.of.ensures.holds is) c.ranges.hop_limit.fits,
    )
