use Rattle.std.proofs.Common.{Some, ap, sym, ◌∙◌}
use Rattle.wire_addr.proofs.Steps.{mapped_none, mapped_is}
use Rattle.wire_addr.proofs.groups_text.dotted_end.Goals as goal

pub returns-in_err-dotted : goal.returns-in_err-dotted
returns-in_err-dotted c = rw (sym c.may_end_dotted.ensures ∙ c.if-not-may_end_dotted.false) (c.from_residual.ensures ∙ sym (mapped_none c.args.text.now c.in_err-dotted.ensures))

pub returns : goal.returns
returns c = rw (sym c.may_end_dotted.ensures ∙ c.if-not-may_end_dotted.false) (ap Some c.mapped.ensures ∙ sym (mapped_is c.args.text.now c.in_ok-dotted.field-0 c.in_ok-dotted.ensures))
