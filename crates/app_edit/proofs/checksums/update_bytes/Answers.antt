use Rattle.std.proofs.Common.{◌∙◌, ◌+◌, ◌-◌, ◌<◌, ap, subst, sym}
use Rattle.ip_wire.specs.WordSum.{residue}
use Rattle.app_edit.proofs.PlacedSums.{stays_computed}
use Rattle.app_edit.proofs.checksums.update_bytes.Goals as goal

pub returns-clause-computed : goal.returns-clause-computed
returns-clause-computed c front rest parity whole some is =
    stays_computed (λ sum. 65535 - sum) front c.args.before.now c.args.after.now rest c.args.offset c.args.field c.update.result parity whole some is
    (λ n more was.
    c.update.ensures.computed n (subst (λ k. 0 < n + k) (sym c.sum_at-2.ensures) more) (was ∙ ap (λ k. 65535 - residue (n + k)) (sym c.sum_at.ensures))
    ∙ ap (λ k. 65535 - residue (n + k)) c.sum_at-2.ensures)
