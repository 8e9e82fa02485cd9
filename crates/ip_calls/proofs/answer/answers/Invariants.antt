use Rattle.std.proofs.Common.{◌≡◌, vec_len}
use Rattle.ip_calls.proofs.answer.answers.Given as goal

abbrev pub invariant-loop-line : goal.invariant-loop-line
invariant-loop-line l = vec_len l.texts ≡ l.line-index
