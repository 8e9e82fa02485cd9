use Rattle.app_host.proofs.ReplyEnds.{answer_finishes, answer_resets, final_unanswered, segment_answered}
use Rattle.app_host.proofs.laws.answers_end.Goals as goal

pub returns : goal.returns
returns c = record {
  finishes = answer_finishes c.args.first.now c.args.second.now;
  resets = answer_resets c.args.first.now c.args.second.now;
  segments = segment_answered c.args.first.now c.args.second.now;
  final_ends = final_unanswered c.args.third.now;
  ends = λ f g h k a b. final_unanswered c.args.third.now h k (answer_finishes c.args.first.now c.args.second.now f g h a b);
}
