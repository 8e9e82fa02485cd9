use Rattle.wire_addr.specs.Endpoint.{ReadsHost}
use Rattle.wire_addr.proofs.Rejections.{rejected}
use Rattle.wire_addr.proofs.EndTexts.{no_inner_host, no_plain_host}
use Rattle.wire_addr.proofs.ip_endpoint.host.Goals as goal

pub returns-in_err-parse_ascii-in-Some : goal.returns-in_err-parse_ascii-in-Some
returns-in_err-parse_ascii-in-Some c =
    rejected ReadsHost c.args.text.now _ c.from_residual.ensures.0 (no_inner_host c.args.text.now c.in-Some.inner.now c.in-Some.ensures c.in_err-parse_ascii-in-Some.ensures)

pub returns-in_err-parse_ascii-in-None : goal.returns-in_err-parse_ascii-in-None
returns-in_err-parse_ascii-in-None c =
    rejected ReadsHost c.args.text.now _ c.from_residual-in_err-parse_ascii-in-None.ensures.0 (no_plain_host c.args.text.now c.in-None.ensures c.in_err-parse_ascii-in-None.ensures)
