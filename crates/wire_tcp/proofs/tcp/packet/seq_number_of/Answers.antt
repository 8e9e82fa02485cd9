use Rattle.std.proofs.Common.{ℕ, ◌∙◌, ap, arith}
use Rattle.std.proofs.lemmas.Int.{of_z-to_z}
use Rattle.std.specs.Prelude.{ℤ}
use Rattle.std.specs.Int.{cast_signed, cast_unsigned, w32}
use Rattle.wire_tcp.proofs.tcp.packet.seq_number_of.Goals as goal

pub returns : goal.returns
returns c =
    let same = of_z-to_z w32 c.args.bits (omega arith) in
    ap (λ (z : ℤ). cast_unsigned w32 (cast_signed w32 (cast_unsigned w32 z))) c.cast_signed.ensures ∙ ap (λ (n : ℕ). cast_unsigned w32 (cast_signed w32 n)) same ∙ same
