use Rattle.std.proofs.Common.{◌≡◌, ◌+◌, ◌*◌, ◌/◌, ◌%◌, sym, ◌∙◌, arith}
use Rattle.wire_checksum.proofs.Residues.{residue-bound, residue-swap}
use Rattle.wire_checksum.proofs.totals.finish.Goals as goal

pub returns : goal.returns
returns c =
    let r = c.reduce.result in
    let bound = residue-bound c.args.total in
    c.swap_bytes.ensures
    ∙ let swapped : r % 256 * 256 + r / 256 % 256 ≡ 256 * (r % 256) + r / 256 = omega (arith, c.reduce.ensures, bound) in swapped
    ∙ sym (residue-swap c.args.total r c.reduce.ensures)
