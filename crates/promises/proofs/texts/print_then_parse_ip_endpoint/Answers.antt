use Rattle.std.proofs.Common.{◌≡◌, rules, subst, sym}
use Rattle.ip_wire.specs.Endpoint.{ReadsEndpoint, endpoint_text}
use Rattle.promises.proofs.texts.print_then_parse_ip_endpoint.Goals as goal

pub returns : goal.returns
returns c =
    let same : c.as_bytes.result.now ≡ endpoint_text c.args.endpoint.now = search rules in
    absurd (c.in-Err.ensures c.args.endpoint.now (subst (λ t. ReadsEndpoint t c.args.endpoint.now) (sym same) c.print_reads_back_ip_endpoint.ensures))
