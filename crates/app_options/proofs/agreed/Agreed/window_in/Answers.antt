use Rattle.std.proofs.Common.{ℕ, ◌≤◌, ◌*◌, ◌%◌, ◌^◌, arith}
use Rattle.std.proofs.lemmas.Nat.{mul-le}
use Rattle.std.proofs.Math.Nat.{pow-le-pow_right}
use Rattle.app_options.proofs.agreed.Agreed.window_in.Goals as goal

most : (field scale : ℕ) → field ≤ 65535 → scale ≤ 14 → (field * 2 ^ scale) % 4294967296 ≤ 1073725440
most field scale f s =
    let shift : 2 ^ scale ≤ 16384 = pow-le-pow_right (omega arith) s in
    omega (arith, mul-le field (2 ^ scale) 65535 16384 f shift)

pub returns-clause-most : goal.returns-clause-most
returns-clause-most c = most _ _ (omega arith) (omega arith)
