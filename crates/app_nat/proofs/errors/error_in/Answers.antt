use Rattle.std.proofs.Common.{◌∙◌, inl, rules, sym}
use Rattle.app_nat.proofs.Mapped.{undiffering}
use Rattle.app_nat.specs.Errors.{IsErrorKeptOutside}
use Rattle.app_nat.proofs.errors.error_in.Goals as goal

pub returns-in_err-error-clause-rejected : goal.returns-in_err-error-clause-rejected
returns-in_err-error-clause-rejected c =
    let kept : IsErrorKeptOutside c.args.nat.now c.args.mappings.now c.args.now c.args.frame.now c.in_err-error.field-0.0 = inl c.in_err-error.ensures.rejected in
    search (rules, kept)

pub returns-clause-came : goal.returns-clause-came
returns-clause-came c = record {
  header = c.in_ok-error.error.header;
  quoted = c.in_ok-error.error.quoted;
  outside = sym c.octets.ensures ∙ undiffering c.octets.result c.args.nat.now.outside c.ne.result c.ne.ensures c.if-ne.false;
  sent = sym c.octets-else-ne.ensures ∙ undiffering c.octets-else-ne.result c.args.nat.now.outside c.ne-else-ne.result c.ne-else-ne.ensures c.if-ne-2.false;
  inside = c.in-Some.inside;
  maps = c.in-Some.ensures.found;
  translated = c.rewrite.ensures;
}
