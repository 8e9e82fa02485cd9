use Rattle.std.proofs.Common.{◌≡◌, ℕ, ◌+◌, ◌*◌, ◌%◌, ◌<◌, Some, Ok, bit_or, arith, refl, sym, ◌∙◌, slice_index}
use Rattle.std.proofs.lemmas.Nat.{le_or_l, le_or_r, or_shifted}
use Rattle.hex.specs.Hex.{hex_digit_value, pair_value}
use Rattle.hex.proofs.Pairs.{decode_step, decode_done, decode_sized-pairs}
use Rattle.hex_digits.proofs.Digits.decode.Goals as goal

-- the value of two digits, as the sum of theirs
byte_of : (high low : ℕ) → high < 16 → low < 16 → bit_or (high * 16 % 256) low ≡ high * 16 + low
byte_of high low h l =
    let whole : high * 16 % 256 ≡ high * 16 = omega (arith, h) in
    rw whole (or_shifted high 4 low l)

-- two digits whose values are known
pair_of : (a b i high low : ℕ) → high < 16 → low < 16 → hex_digit_value a ≡ Some high → hex_digit_value b ≡ Some low
    → pair_value a b i ≡ Ok (bit_or (high * 16 % 256) low)
pair_of a b i high low h l p q = rw (p, q, byte_of high low h l) refl

pub pairs-preserved : goal.pairs-preserved
pairs-preserved c all =
    let text = c.args.text.now in
    let values = c.args.self.now.values in
    let at : ℕ = 2 * c.pairs.i in
    let a : ℕ = slice_index text at in
    let b : ℕ = slice_index text (at + 1) in
    let high : ℕ = slice_index values c.from.result in
    let low : ℕ = slice_index values c.from-in-pairs.result in
    let small : bit_or high low < 16 = omega (arith, all, le_or_r c.pairs.bits (bit_or high low)) in
    let h : high < 16 = omega (arith, small, le_or_l high low) in
    let l : low < 16 = omega (arith, small, le_or_r high low) in
    let is_a : c.from.result ≡ a = c.from.ensures in
    let is_b : c.from-in-pairs.result ≡ b = c.from-in-pairs.ensures in
    let byte_a = c.type_inv.text at in
    let byte_b = c.type_inv.text (at + 1) in
    let first : hex_digit_value a ≡ Some high = rw (sym is_a) (c.args.self.now.right c.from.result (omega (arith, is_a, byte_a)) h) in
    let second : hex_digit_value b ≡ Some low = rw (sym is_b) (c.args.self.now.right c.from-in-pairs.result (omega (arith, is_b, byte_b)) l) in
    decode_step text _ c.pairs.i _ (omega arith) (omega arith) (pair_of a b at high low h l first second)
    (c.pairs.invariant (omega (arith, all, le_or_l c.pairs.bits (bit_or high low))))

pub returns-clause-value : goal.returns-clause-value
returns-clause-value c =
    let d = decode_sized-pairs _ _ c.if-text-ne0.false c.if-text-out.false ∙ decode_done _ c.pairs.out c.pairs.i (omega arith) (omega arith) (c.pairs.invariant (omega arith)) in
    rw d (refl, refl)
