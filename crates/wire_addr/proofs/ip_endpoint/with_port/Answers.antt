use Rattle.wire_addr.proofs.EndTexts.{no_host_text, no_port_text}
use Rattle.wire_addr.proofs.ip_endpoint.with_port.Goals as goal

pub returns-in_err-address : goal.returns-in_err-address
returns-in_err-address c =
    no_port_text c.args.text.now _ _ _ _ c.in_err-address.ensures.value c.number_after.ensures.value c.from_residual.ensures.0

pub returns-in_err-host : goal.returns-in_err-host
returns-in_err-host c =
    no_host_text c.args.text.now _ _ _ _ c.in_ok-address.ensures.ok_part c.number_after.ensures.value c.in_err-host.ensures c.from_residual-in_err-host.ensures.0
