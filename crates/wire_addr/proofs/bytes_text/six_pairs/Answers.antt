use Rattle.std.proofs.Common.{arith, rules}
use Rattle.wire_addr.specs.Grammar.{IsHexBytes}
use Rattle.wire_addr.proofs.Pairs.{decided, six_full, six_pass, six_read}
use Rattle.wire_addr.proofs.bytes_text.six_pairs.Goals as goal

pub returns-then-hex_digit-gt15 : goal.returns-then-hex_digit-gt15
returns-then-hex_digit-gt15 c = λ octets h. omega (arith, c.hex_digit.ensures, c.if-hex_digit-gt15.true, (six_full c.args.mark c.args.text.now octets h (search rules)).0)

pub returns : goal.returns
returns c = rw c.then_some.ensures (decided (IsHexBytes c.args.mark c.args.text.now) _ _
    (λ all. six_read c.args.mark c.args.text.now _ _ _ _ _ _ _ _ _ _ _ _ (search rules) c.two_digits-a.ensures.value c.two_digits-b.ensures.value c.two_digits-c.ensures.value c.two_digits-d.ensures.value c.two_digits-e.ensures.value c.two_digits-f.ensures.value all)
    (λ octets h. six_pass c.args.mark c.args.text.now _ _ _ _ _ _ (search rules) c.two_digits-a.ensures.digits c.two_digits-b.ensures.digits c.two_digits-c.ensures.digits c.two_digits-d.ensures.digits c.two_digits-e.ensures.digits c.two_digits-f.ensures.digits
    (six_full c.args.mark c.args.text.now octets h (search rules))))
