use Rattle.std.proofs.Common.{◌≡◌, ◌∙◌, ◌+◌, ◌*◌, ◌/◌, ◌%◌, ◌==◌, ◌∷◌, ap, arith, false, if◌then◌else◌, rules, sum, sym}
use Rattle.ip_wire.specs.WordSum.{sum_of_bytes, words}
use Rattle.ip_wire.proofs.Residues.{residue-bound}
use Rattle.app_edit.proofs.PlacedSums.{swapped}
use Rattle.app_edit.proofs.checksums.sum_at.Goals as goal

pub returns-else-offset-eq0 : goal.returns-else-offset-eq0
returns-else-offset-eq0 c =
    let bytes = c.args.bytes.now in
    let r = c.sum_of-sum.result in
    let bound = residue-bound (sum (words bytes)) in
    let odd : (c.args.offset % 2 == 0) ≡ false = search rules in
    c.swap_bytes.ensures
    ∙ let turned : r % 256 * 256 + r / 256 % 256 ≡ 256 * (r % 256) + r / 256 = omega (arith, c.sum_of-sum.ensures, bound) in turned
    ∙ sym (swapped bytes r c.sum_of-sum.ensures) ∙ ap (λ b. sum_of_bytes (if b then bytes else 0 ∷ bytes)) (sym odd)
