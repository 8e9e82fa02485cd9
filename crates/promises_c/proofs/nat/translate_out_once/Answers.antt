use Rattle.std.proofs.Common.{ap, of_z, subst₂, sym, to_z, w32}
use Rattle.c_routing.specs.Nat.{TranslatesOut}
use Rattle.promises_c.proofs.NatsOnce.{out_once}
use Rattle.promises_c.proofs.nat.translate_out_once.Goals as goal

pub returns-clause-returned : goal.returns-clause-returned
returns-clause-returned c =
    let w = subst₂ (λ m f. TranslatesOut c.args.nat.now m c.lk_translate_out-2.new.mappings c.args.now f c.lk_translate_out-2.new.frame c.lk_translate_out-2.result) (sym c.requires.mappings) (sym c.requires.frame) c.lk_translate_out-2.ensures.translates in
    ap (λ r. to_z w32 (of_z w32 r)) (out_once c.args.nat.now c.args.mappings.now _ _ c.args.now c.args.frame.now _ _ _ _ c.requires.table c.lk_translate_out.ensures.translates w).returned

pub returns-clause-mappings : goal.returns-clause-mappings
returns-clause-mappings c =
    let w = subst₂ (λ m f. TranslatesOut c.args.nat.now m c.lk_translate_out-2.new.mappings c.args.now f c.lk_translate_out-2.new.frame c.lk_translate_out-2.result) (sym c.requires.mappings) (sym c.requires.frame) c.lk_translate_out-2.ensures.translates in
    (out_once c.args.nat.now c.args.mappings.now _ _ c.args.now c.args.frame.now _ _ _ _ c.requires.table c.lk_translate_out.ensures.translates w).table

pub returns-clause-frame : goal.returns-clause-frame
returns-clause-frame c =
    let w = subst₂ (λ m f. TranslatesOut c.args.nat.now m c.lk_translate_out-2.new.mappings c.args.now f c.lk_translate_out-2.new.frame c.lk_translate_out-2.result) (sym c.requires.mappings) (sym c.requires.frame) c.lk_translate_out-2.ensures.translates in
    (out_once c.args.nat.now c.args.mappings.now _ _ c.args.now c.args.frame.now _ _ _ _ c.requires.table c.lk_translate_out.ensures.translates w).frame
