use Rattle.std.proofs.Common.{◌+◌, ◌*◌, ◌/◌, ◌%◌, ap, ◌∙◌, arith}
use Rattle.wire_checksum.specs.WordSum.{residue}
use Rattle.wire_checksum.proofs.Chains.{carried}
use Rattle.wire_checksum.proofs.totals.around.Goals as goal

pub returns : goal.returns
returns c =
    let s = c.from.result + c.from-2.result in
    carried s (s % 18446744073709551616 + s / 18446744073709551616) (s / 18446744073709551616) (omega arith) (λ e. omega (arith, e))
    ∙ ap (λ n. residue (256 * (n + c.from-2.result))) c.from.ensures ∙ ap (λ n. residue (256 * (c.args.a + n))) c.from-2.ensures
