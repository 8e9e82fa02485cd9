use Rattle.std.proofs.Common.{◌≡◌, ◌+◌, ◌-◌, ℕ, ap, ◌∙◌, arith}
use Rattle.wire_checksum.specs.WordSum.{residue, updated}
use Rattle.wire_checksum.proofs.Updated.{stays_computed, stays_valid, updated-small}
use Rattle.wire_checksum.proofs.checksum.update.Goals as goal

pub returns-clause-value : goal.returns-clause-value
returns-clause-value c = ap (λ (n : ℕ). 65535 - n) (c.combine.ensures ∙ ap residue (omega arith))

pub returns-clause-valid : goal.returns-clause-valid
returns-clause-valid c rest some full =
    let checksum = c.args.checksum in
    let old = c.args.old in
    let new = c.args.new in
    let is : 65535 - c.combine.result ≡ updated checksum old new = returns-clause-value c in
    let small = updated-small checksum old new (omega arith) (omega arith) in
    stays_valid (rest + old + checksum) (rest + new + checksum) (rest + new + (65535 - c.combine.result)) checksum old new (omega arith) (omega arith) (omega (arith, is, small)) (omega (arith, some)) full

pub returns-clause-computed : goal.returns-clause-computed
returns-clause-computed c rest some was =
    returns-clause-value c ∙ stays_computed rest c.args.checksum c.args.old c.args.new (omega arith) some was
