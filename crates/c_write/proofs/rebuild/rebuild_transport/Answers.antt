use Rattle.std.proofs.Common.{◌≡◌, ◌∙◌, ap, rules, sym}
use Rattle.ip_wire.proofs.UdpLayer.{AreWords}
use Rattle.ip_wire.specs.Frame.{rebuilt_transport_by}
use Rattle.ip_wire.specs.Ip.{dst_addr_of, next_header_of, src_addr_of}
use Rattle.net_base.proofs.Spelled.{AreBytes}
use Rattle.c_write.proofs.TcpKept.{rebuilt-kept}
use Rattle.c_write.proofs.UdpKept.{rebuilt-udp-whole}
use Rattle.c_write.proofs.rebuild.rebuild_transport.Goals.{in_default-via-in-Udp+else-not-is_whole_udp, in_default-via-in-Tcp+else-not-is_kept, in_default-via-in_default}
use Rattle.c_write.proofs.rebuild.rebuild_transport.Goals as goal

pub returns-in_default : goal.returns-in_default
returns-in_default c =
    let header = c.args.header.now in
    let src = src_addr_of header in
    let dst = dst_addr_of header in
    let bytes = c.args.bytes.now in
    let are : AreBytes bytes = λ i. (c.type_inv.bytes i).fits in
    let words : AreWords src dst = record { src_bytes = search rules; dst_bytes = search rules } in
    let named : next_header_of header ≡ c.from.result = c.requires ∙ sym c.from.ensures in
    let kept : rebuilt_transport_by c.from.result src dst bytes ≡ bytes = elim c.in_default.branch [
      | in_default-via-in-Udp+else-not-is_whole_udp w ↦
          let (len, some) = w.is_whole_udp.ensures w.if-not-is_whole_udp.false in
          ap (λ p. rebuilt_transport_by p src dst bytes) w.in-Udp.is ∙ rebuilt-udp-whole src dst bytes are words len some
      | in_default-via-in-Tcp+else-not-is_kept w ↦
          let (plain, options) = w.is_kept.ensures w.if-not-is_kept.false in
          ap (λ p. rebuilt_transport_by p src dst bytes) w.in-Tcp.is ∙ rebuilt-kept src dst bytes are words plain options
      | in_default-via-in_default w ↦ let udp = w.in_default.not-Udp in let tcp = w.in_default.not-Tcp in search rules
    ] in
    rw (named, kept) c.try_copy.ensures
