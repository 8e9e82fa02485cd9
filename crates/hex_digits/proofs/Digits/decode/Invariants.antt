use Rattle.std.proofs.Common.{◌≡◌, ◌<◌, ◌*◌, take, drop}
use Rattle.hex.specs.Hex.{decode_pairs}
use Rattle.hex.proofs.Pairs.{prepend}
use Rattle.hex_digits.proofs.Digits.decode.Given as goal

-- if each byte so far was a digit, their pairs are decoded
abbrev pub invariant-pairs : goal.invariant-pairs
invariant-pairs l =
    l.bits < 16 → decode_pairs 0 l.text ≡ prepend (take l.i l.out) (decode_pairs (2 * l.i) (drop (2 * l.i) l.text))
