use Rattle.std.proofs.Common.{rules}
use Rattle.app_nat.proofs.Translates.{disallowed, untranslated}
use Rattle.app_nat.proofs.translation.translate.Goals as goal

pub returns-in_err-packet-clause-rejected : goal.returns-in_err-packet-clause-rejected
returns-in_err-packet-clause-rejected c = search (rules, untranslated c.args.frame.now c.args.side c.args.port c.in_err-packet.field-0.0 c.in_err-packet.ensures.rejected)

pub returns-clause-rejected : goal.returns-clause-rejected
returns-clause-rejected c = disallowed c.rewrite.result c.args.frame.now c.args.side c.args.port c.rewrite.ensures.rejected c.rewrite.ensures.disallowed
