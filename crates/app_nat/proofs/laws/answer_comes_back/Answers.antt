use Rattle.app_nat.proofs.Answered.{given-back}
use Rattle.app_nat.proofs.laws.answer_comes_back.Goals as goal

pub returns : goal.returns
returns c =
    given-back c.translate_out-out.result c.translate_in-back.result c.args.nat.now c.args.mappings.now c.translate_out-out.new.mappings c.args.later.now c.translate_in-back.new.mappings c.args.sent c.args.now
    c.args.frame.now c.translate_out-out.new.frame c.args.answer.now c.translate_in-back.new.frame c.translate_out-out.ensures.out c.translate_in-back.ensures.came c.translate_in-back.ensures.rejected
