use Rattle.std.proofs.Common.{◌∙◌}
use Rattle.app_nat.proofs.Faults.{payload-fault}
use Rattle.app_nat.specs.Errors.{message_fault}
use Rattle.app_nat.proofs.errors.IcmpError.parse.Goals as goal

pub returns-in-Err-parse_message-clause-rejected : goal.returns-in-Err-parse_message-clause-rejected
returns-in-Err-parse_message-clause-rejected c =
    payload-fault (message_fault c.args.side) c.args.frame.now c.in-Ok.payload.now c.in-Ok.header c.in-Ok.ensures.whole ∙ c.in-Err-parse_message.ensures.rejected
