use Rattle.std.proofs.Common.{◌∙◌, ap₂}
use Rattle.ip_wire.specs.Udp.{checksum_for}
use Rattle.app_edit.proofs.PlacedSums.{stays_computed, sum_at-bound, udp_stays_computed}
use Rattle.app_edit.specs.Checksums.{sum_at, updated_udp}
use Rattle.app_edit.proofs.checksums.update_udp_bytes.Goals as goal

pub returns-clause-computed : goal.returns-clause-computed
returns-clause-computed c front rest parity whole some is =
    let before = c.args.before.now in
    let after = c.args.after.now in
    let offset = c.args.offset in
    stays_computed checksum_for front before after rest offset c.args.field c.update_udp.result parity whole some is
    (λ n more was.
    c.update_udp.ensures ∙ ap₂ (λ a b. updated_udp c.args.field a b) c.sum_at.ensures c.sum_at-2.ensures
    ∙ udp_stays_computed n c.args.field (sum_at offset before) (sum_at offset after) (sum_at-bound offset before) more was)
