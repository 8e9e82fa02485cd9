use Rattle.std.proofs.Common.{◌≡◌, ◌∙◌, ◌≤◌, SFits, Some, length, rules, sym, w64}
use Rattle.c_icmp.proofs.HostAnswers.{of_struct}
use Rattle.c_icmp.specs.HostFields.{host_of}
use Rattle.c_structs.specs.Written.{max_len}
use Rattle.c_icmp.proofs.types.HostFields.answer.Goals as goal

pub returns-else-frame-gt-MAX_LEN-clause-answers : goal.returns-else-frame-gt-MAX_LEN-clause-answers
returns-else-frame-gt-MAX_LEN-clause-answers c =
    let is : host_of c.args.self.now ≡ Some c.in-Some.host = sym c.value.ensures ∙ c.in-Some.is in
    let fits : SFits w64 c.answer.result = search rules in
    let short : length c.args.frame.now ≤ max_len = search rules in
    of_struct _ _ _ _ _ _ is short c.answer.ensures.answers fits
