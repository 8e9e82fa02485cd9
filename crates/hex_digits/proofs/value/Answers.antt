use Rattle.std.proofs.Common.{◌≡◌, ℕ, List, [], ◌∷◌, Option, Some, None, Result, Ok, Err, MatchResult, arith, ap, refl, slice_index}
use Rattle.hex.specs.Hex.{hex_digit_value, decode_sized, decode_pairs}
use Rattle.hex.specs.declared.error.FromHexError.{FromHexError}
use Rattle.hex_digits.proofs.value.Goals as goal

-- what decoding a zero and a byte finds for the byte
found : (b : ℕ) (o : Option ℕ) (r : Result (Unit {0}) FromHexError) (out : List ℕ) → hex_digit_value b ≡ o
    → MatchResult (decode_sized (48 ∷ b ∷ []) 1) (λ bytes. (r ≡ Ok tt) × (out ≡ bytes)) (λ e. r ≡ Err e)
    → r ≡ Ok tt → hex_digit_value b ≡ Some (slice_index out 0)
unfolding decode_pairs
found b (Some v) r out h m ok = let n = rw h at m in rw (h, n.1) (ap Some (omega arith))
found b None r out h m ok = let n = rw h at m in cc (n, ok)

pub returns-in-Ok : goal.returns-in-Ok
returns-in-Ok c _ =
    found c.args.digit _ c.decode_to_slice.result c.decode_to_slice.new.out refl (rw c.as_slice.ensures at c.decode_to_slice.ensures.value) c.in-Ok.is
