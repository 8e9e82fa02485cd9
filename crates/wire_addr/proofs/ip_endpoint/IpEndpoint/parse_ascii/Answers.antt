use Rattle.wire_addr.proofs.EndTexts.{IsWithoutPort, first_form, second_form}
use Rattle.wire_addr.specs.Endpoint.{IsWithPort}
use Rattle.wire_addr.proofs.ip_endpoint.IpEndpoint.parse_ascii.Goals as goal

pub returns-in-Err : goal.returns-in-Err
returns-in-Err c = first_form IsWithoutPort IsWithPort c.args.text.now c.without_port.result c.in-Err.ensures c.without_port.ensures

pub returns-in-Err-without_port : goal.returns-in-Err-without_port
returns-in-Err-without_port c = second_form IsWithoutPort IsWithPort c.args.text.now c.with_port-in-Err-without_port.result c.in-Err-without_port.ensures c.with_port-in-Err-without_port.ensures
