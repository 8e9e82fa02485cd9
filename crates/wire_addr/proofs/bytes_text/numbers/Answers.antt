use Rattle.std.proofs.Common.{arith, inl, inr, lit≤}
use Rattle.wire_addr.proofs.Pairs.{by_colons, by_dashes, not_with, without_mark}
use Rattle.wire_addr.proofs.bytes_text.numbers.Goals as goal

pub returns-in_err-first_mark : goal.returns-in_err-first_mark
returns-in_err-first_mark c =
    without_mark c.args.text.now _ c.from_residual.ensures c.in_err-first_mark.ensures

pub returns-in-45 : goal.returns-in-45
returns-in-45 c =
    by_dashes c.args.text.now _ (not_with 58 _ c.args.text.now (omega (arith, c.in-45.is)) (λ octets. c.in_ok-first_mark.ensures 58 octets (lit≤ tt))) c.hex_bytes_joined.ensures

pub returns-in-58 : goal.returns-in-58
returns-in-58 c =
    by_colons c.args.text.now _ (not_with 45 _ c.args.text.now (omega (arith, c.in-58.is)) (λ octets. c.in_ok-first_mark.ensures 45 octets (lit≤ tt))) c.hex_bytes_joined-in-58.ensures

pub returns-in_default : goal.returns-in_default
returns-in_default c = λ octets. elim [
  | inl h ↦ not_with 45 _ c.args.text.now (omega (arith, c.in_default)) (λ octets. c.in_ok-first_mark.ensures 45 octets (lit≤ tt)) octets h
  | inr h ↦ not_with 58 _ c.args.text.now (omega (arith, c.in_default)) (λ octets. c.in_ok-first_mark.ensures 58 octets (lit≤ tt)) octets h
]
