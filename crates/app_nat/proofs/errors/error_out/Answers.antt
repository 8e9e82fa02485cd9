use Rattle.std.proofs.Common.{inl, rules}
use Rattle.app_nat.specs.Errors.{IsErrorKeptInside}
use Rattle.app_nat.proofs.errors.error_out.Goals as goal

pub returns-in_err-error-clause-rejected : goal.returns-in_err-error-clause-rejected
returns-in_err-error-clause-rejected c =
    let kept : IsErrorKeptInside c.args.nat.now c.args.mappings.now c.args.now c.args.frame.now c.in_err-error.field-0.0 = inl c.in_err-error.ensures.rejected in
    search (rules, kept)
