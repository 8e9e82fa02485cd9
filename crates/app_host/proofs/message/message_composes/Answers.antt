use Rattle.std.proofs.Common.{◌≢◌, ◌++◌, ap, refl, rules, subst, sym, true}
use Rattle.app_host.proofs.Messages.{header-normal, no-transport, normal-is}
use Rattle.ip_wire.proofs.Composed.{reads_frame}
use Rattle.ip_wire.specs.Ethernet as ethernet
use Rattle.ip_wire.specs.Frame.{IsReadWhole, all_checked, other, packet}
use Rattle.ip_wire.specs.Ip as ip
use Rattle.ip_wire.specs.Ip.{next_header_of}
use Rattle.ip_wire.specs.declared.IpProtocol.TheVariants as protocol
use Rattle.app_host.proofs.message.message_composes.Goals as goal

pub returns : goal.returns
returns c q padding type names len =
    let h = c.args.header in
    let w = c.args.ip in
    let normal_ip = normal-is w names in
    let apart = no-transport w names in
    let reads = reads_frame all_checked true h w q padding (other q) (search rules) (search rules) (ap ethernet.number_of type) (search rules) len
    (λ v t. refl) (subst (λ w. next_header_of w ≢ protocol.Udp) (sym normal_ip) apart.0, subst (λ w. next_header_of w ≢ protocol.Tcp) (sym normal_ip) apart.1, refl) in
    let written = ethernet.bytes_of h ++ (ip.bytes_of w true ++ q) ++ padding in
    subst (λ l. IsReadWhole written l (packet w (other q))) (header-normal h w type)
    (subst (λ v. IsReadWhole written (ethernet.normal h) (packet v (other q))) normal_ip reads)
