use Rattle.std.proofs.Common.{◌≡◌, take}
use Rattle.wire_addr.specs.Reading.{numbers_of, pieces_of, pieces_after, with_front}
use Rattle.wire_addr.proofs.bytes_text.fill.Given as goal

abbrev pub invariant-loop-value : goal.invariant-loop-value
invariant-loop-value l =
    numbers_of l.radix l.places 255 (pieces_of l.mark l.text)
    ≡ with_front (take l.value-index l.values) (numbers_of l.radix l.places 255 (pieces_after l.mark l.rest))
