use Rattle.std.proofs.Common.{◌≡◌, ◌∙◌, ◌<◌, ◌+◌, ◌-◌, ap, arith, length, sym, take}
use Rattle.std.proofs.lemmas.Grind.{common_steps}
use Rattle.c_read.proofs.Untagged.{linked-captured}
use Rattle.c_read.specs.Captured.{captured_of}
use Rattle.c_read.specs.Links.{linked_of}
use Rattle.c_read.proofs.laws.untagged_is_captured.Goals as goal

pub returns : goal.returns
returns c none =
    let bytes = c.args.captured.now in
    let len = c.args.len in
    let part : length bytes < len = c.requires.part in
    let all : take len bytes ≡ bytes = grind (arith, common_steps, part) in
    let sum : length bytes + (len - length bytes) ≡ len = omega (arith, part) in
    c.read_linked.ensures.value ∙ ap (linked_of 1 bytes) (sym sum) ∙ linked-captured bytes (len - length bytes) (omega (arith, part)) none
    ∙ sym (c.read_captured.ensures.value ∙ ap (λ b. captured_of b (len - length bytes)) all)
