use Rattle.std.proofs.Common.{◌≡◌, ◌+◌, take, sum, sym, ap, ◌∙◌, refl, arith}
use Rattle.std.proofs.lemmas.List.Sums.{sum_by_more}
use Rattle.std.proofs.lemmas.List.{take_all}
use Rattle.wire_checksum.specs.WordSum.{residue}
use Rattle.wire_checksum.proofs.Residues.{residue-of_zero, residue-no_carry, residue-carry}
use Rattle.wire_checksum.proofs.checksum.combine.Goals as goal
use Rattle.wire_checksum.proofs.checksum.combine.Goals.{then-sum-gt65535, else-sum-gt65535}

pub loop-number-init : goal.loop-number-init
loop-number-init c = record { small = omega arith; so_far = sym (residue-of_zero 0 refl) }

pub loop-number-preserved : goal.loop-number-preserved
loop-number-preserved c =
    let xs = c.args.sums.now in
    let i = c.loop-number.number-index in
    let n = c.from-sum.result in
    let s = c.loop-number.sum in
    let t = sum (take i xs) in
    let more : sum (take (i + 1) xs) ≡ t + n = sum_by_more (λ x. x) xs i 0 (omega arith) ∙ ap (λ k. t + k) (sym c.from-sum.ensures) in
    let fits = c.type_inv.sums i in
    let so_far = c.loop-number.invariant.so_far in
    let small = c.loop-number.invariant.small in
    elim c.if-sum-gt65535.branch [
      | then-sum-gt65535 w ↦ record { small = omega (arith, fits); so_far = w.sum-is ∙ residue-carry s t n so_far small (omega (arith, fits)) (omega arith) ∙ ap residue (sym more) }
      | else-sum-gt65535 w ↦ record { small = omega arith; so_far = w.sum-is ∙ residue-no_carry s t n so_far (omega arith) ∙ ap residue (sym more) }
    ]

pub returns : goal.returns
returns c = c.loop-number.invariant.so_far ∙ ap (λ l. residue (sum l)) (take_all c.loop-number.number-index c.args.sums.now (omega arith))
