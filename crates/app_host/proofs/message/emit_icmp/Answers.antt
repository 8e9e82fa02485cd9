use Rattle.std.proofs.Common.{◌≡◌, ◌+◌, length, rules, subst}
use Rattle.ip_wire.specs.Filled.{Fills}
use Rattle.ip_wire.specs.Frame.{all_checked}
use Rattle.ip_wire.specs.Ip.{dst_addr_of, src_addr_of}
use Rattle.wire_icmp.specs.Icmp.{bytes_of}
use Rattle.app_host.proofs.Messages.{computed}
use Rattle.app_host.proofs.message.emit_icmp.Goals as goal

pub returns : goal.returns
returns c =
    let v = c.args.ip.now in
    let payload = c.args.payload.now in
    let caps : c.default-caps.result ≡ all_checked = search rules in
    let src : c.src_addr-src_addr.result ≡ src_addr_of v = search rules in
    let dst : c.dst_addr-dst_addr.result ≡ dst_addr_of v = search rules in
    subst (λ b. Fills (bytes_of c.args.value.now payload (src_addr_of v) (dst_addr_of v) b) (8 + length payload) c.args.out.now c.try_emit.new.out c.try_emit.result)
    (computed v) (rw (caps, src, dst) at c.try_emit.ensures)
