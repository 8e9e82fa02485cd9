use Rattle.std.proofs.Common.{◌∙◌, ◌++◌, append_assoc, ap, codes, decimal, List, ℕ}
use Rattle.c_read.proofs.summary.headers.push_icmp.Goals as goal

pub returns-clause-bytes : goal.returns-clause-bytes
returns-clause-bytes c = c.push_number-2.ensures.bytes ∙ ap (λ (l : List ℕ). l ++ codes " code=" ++ decimal c.args.code) c.push_number.ensures.bytes ∙ simp append_assoc
