use Rattle.std.proofs.Common.{ℕ, ◌≡◌, ◌∙◌, ◌+◌, ◌*◌, ◌%◌, ◌^◌, ◌<◌, arith, ap₂, bit_or, refl}
use Rattle.std.proofs.lemmas.Nat.{or_shifted, shl_whole}
use Rattle.app_router.proofs.index.Node.bits.Goals as goal

joined : (a b x y : ℕ) → a ≡ x → b ≡ y → x < 2 ^ 64 → y < 2 ^ 64 → bit_or (a * 2 ^ 64 % 2 ^ 128) b ≡ x * 2 ^ 64 + y
joined a b x y a_is b_is x_fits y_fits =
    ap₂ (λ a b. bit_or (a * 2 ^ 64 % 2 ^ 128) b) a_is b_is
    ∙ ap₂ bit_or (shl_whole x 64 64 128 x_fits (omega arith)) refl
    ∙ or_shifted x 64 y y_fits

pub returns : goal.returns
returns c = joined c.from.result c.from-2.result c.args.self.now.high c.args.self.now.low c.from.ensures c.from-2.ensures (omega arith) (omega arith)
