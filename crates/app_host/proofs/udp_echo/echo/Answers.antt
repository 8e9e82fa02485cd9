use Rattle.std.proofs.Common.{◌≡◌, ◌∙◌, ◌<◌, ◌≤◌, ap, rules}
use Rattle.app_host.proofs.Echoes.{echoed, swapped}
use Rattle.app_host.specs.Interface.{IsForUs, header_back}
use Rattle.ip_wire.specs.declared.Carried.TheVariants as carried
use Rattle.app_host.proofs.udp_echo.echo.Goals as goal

pub returns-in-Ok : goal.returns-in-Ok
returns-in-Ok c =
    let request = c.args.request.now in
    let v = c.in-Packet.header in
    let to_port : c.in-Udp.ports.dst_port ≡ c.args.port = search rules in
    let from_user : 1024 ≤ c.in-Udp.ports.src_port = search rules in
    let from_above : c.args.port < c.in-Udp.ports.src_port = search rules in
    let for_us : IsForUs c.args.ours.now request.header v = search rules in
    let back : c.header_back.result ≡ header_back v = search rules in
    let ports : c.ports_back-back.result ≡ swapped c.in-Udp.ports = search rules in
    echoed c.args.ours.now c.args.port request c.in-Ok.reply v c.in-Udp.ports c.in-Udp.payload (c.in-Packet.is ∙ ap (carried.Packet v) c.in-Udp.is) to_port from_user from_above for_us
    (rw (back, ports) at c.in-Ok.ensures.value) ((rw (back, ports) at c.in-Ok.ensures.ok).0 (search rules))
