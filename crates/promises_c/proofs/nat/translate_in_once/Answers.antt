use Rattle.std.proofs.Common.{◌<◌, ◌∙◌, ap, arith, length, of_z, subst, subst₂, sym, to_z, w32}
use Rattle.c_routing.specs.Nat.{TranslatesIn}
use Rattle.c_structs.specs.Written.{max_len}
use Rattle.promises_c.proofs.NatsOnce.{in_once}
use Rattle.promises_c.proofs.nat.translate_in_once.Goals as goal

pub returns-clause-returned : goal.returns-clause-returned
returns-clause-returned c =
    let w = subst₂ (λ m f. TranslatesIn c.args.nat.now m c.lk_translate_in-2.new.mappings c.args.now f c.lk_translate_in-2.new.frame c.lk_translate_in-2.result) (sym c.requires.mappings) (sym c.requires.frame) c.lk_translate_in-2.ensures.translates in
    ap (λ r. to_z w32 (of_z w32 r)) (in_once c.args.nat.now c.args.mappings.now _ _ c.args.now c.args.frame.now _ _ _ _ (omega (arith, c.lk_translate_in.auto.mappings)) (omega (arith, c.lk_translate_in-2.auto.mappings, ap length c.requires.mappings)) c.lk_translate_in.ensures.beyond
    (λ long. c.lk_translate_in-2.ensures.beyond (subst (λ m. max_len < length m) c.requires.mappings long) ∙ sym c.requires.mappings) c.lk_translate_in.ensures.translates w).returned

pub returns-clause-mappings : goal.returns-clause-mappings
returns-clause-mappings c =
    let w = subst₂ (λ m f. TranslatesIn c.args.nat.now m c.lk_translate_in-2.new.mappings c.args.now f c.lk_translate_in-2.new.frame c.lk_translate_in-2.result) (sym c.requires.mappings) (sym c.requires.frame) c.lk_translate_in-2.ensures.translates in
    (in_once c.args.nat.now c.args.mappings.now _ _ c.args.now c.args.frame.now _ _ _ _ (omega (arith, c.lk_translate_in.auto.mappings)) (omega (arith, c.lk_translate_in-2.auto.mappings, ap length c.requires.mappings)) c.lk_translate_in.ensures.beyond
    (λ long. c.lk_translate_in-2.ensures.beyond (subst (λ m. max_len < length m) c.requires.mappings long) ∙ sym c.requires.mappings) c.lk_translate_in.ensures.translates w).table

pub returns-clause-frame : goal.returns-clause-frame
returns-clause-frame c =
    let w = subst₂ (λ m f. TranslatesIn c.args.nat.now m c.lk_translate_in-2.new.mappings c.args.now f c.lk_translate_in-2.new.frame c.lk_translate_in-2.result) (sym c.requires.mappings) (sym c.requires.frame) c.lk_translate_in-2.ensures.translates in
    (in_once c.args.nat.now c.args.mappings.now _ _ c.args.now c.args.frame.now _ _ _ _ (omega (arith, c.lk_translate_in.auto.mappings)) (omega (arith, c.lk_translate_in-2.auto.mappings, ap length c.requires.mappings)) c.lk_translate_in.ensures.beyond
    (λ long. c.lk_translate_in-2.ensures.beyond (subst (λ m. max_len < length m) c.requires.mappings long) ∙ sym c.requires.mappings) c.lk_translate_in.ensures.translates w).frame
