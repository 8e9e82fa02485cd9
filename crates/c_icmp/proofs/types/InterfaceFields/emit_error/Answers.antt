use Rattle.std.proofs.Common.{◌≡◌, ◌∙◌, ◌≤◌, SFits, Some, length, rules, sym, w64}
use Rattle.c_icmp.proofs.ErrorReplies.{of_interface}
use Rattle.c_icmp.specs.Errors.{own_interface}
use Rattle.c_structs.specs.Written.{max_len}
use Rattle.c_icmp.proofs.types.InterfaceFields.emit_error.Goals as goal

pub returns-else-frame-gt-MAX_LEN : goal.returns-else-frame-gt-MAX_LEN
returns-else-frame-gt-MAX_LEN c =
    let is : own_interface c.args.self.now ≡ Some c.in-Some.ours = sym c.interface.ensures ∙ c.in-Some.is in
    let fits : SFits w64 c.write_error.result = search rules in
    let short : length c.args.frame.now ≤ max_len = search rules in
    of_interface _ _ _ _ _ _ _ _ is short c.write_error.ensures fits
