use Rattle.std.proofs.Common.{◌≡◌, ◌∙◌, None, refl, sym}
use Rattle.ip_wire.proofs.Found.{unread-transport}
use Rattle.ip_wire.specs.Frame.{transport_by}
use Rattle.wire_addr.specs.declared.IpProtocol.TheVariants as protocol
use Rattle.wire_ip.specs.Ip.{dst_addr_of, next_header_of, src_addr_of}
use Rattle.net_base.specs.Checksum.{verifies}
use Rattle.wire_udp.specs.Udp.{payload_of, udp_of}
use Rattle.wire_tcp.specs.TcpRepr.{tcp_of}
use Rattle.ip_wire.proofs.frame.transport.Transport.read.Goals as goal

pub returns-in-Ok : goal.returns-in-Ok
returns-in-Ok c =
    let read = ((rw (c.new_unchecked-packet.ensures, c.src_addr.ensures, c.dst_addr.ensures) at c.in-Ok.ensures.reads) c.in-Ok.value).0 refl in
    let payload : c.payload.result.now ≡ payload_of c.args.bytes.now = rw c.new_unchecked-packet.ensures at c.payload.ensures in
    (sym c.next_header.ensures ∙ c.in-Udp.is, rw payload read)

pub returns-in-Err : goal.returns-in-Err
returns-in-Err c =
    let v = c.args.header.now in
    let named : next_header_of v ≡ protocol.Udp = sym c.next_header.ensures ∙ c.in-Udp.is in
    let none : udp_of (src_addr_of v) (dst_addr_of v) (verifies c.args.caps.now.udp) c.args.bytes.now ≡ None =
    rw (c.new_unchecked-packet.ensures, c.src_addr.ensures, c.dst_addr.ensures) at c.in-Err.ensures.value in
    let unread : transport_by c.args.caps.now (next_header_of v) (src_addr_of v) (dst_addr_of v) c.args.bytes.now ≡ None = rw (named, none) refl in
    (unread-transport c.args.caps.now v c.args.bytes.now unread, refl)

pub returns-in-Err-parse : goal.returns-in-Err-parse
returns-in-Err-parse c =
    let v = c.args.header.now in
    let named : next_header_of v ≡ protocol.Tcp = sym c.next_header.ensures ∙ c.in-Tcp.is in
    let none : tcp_of (src_addr_of v) (dst_addr_of v) (verifies c.args.caps.now.tcp) c.args.bytes.now ≡ None =
    rw (c.new_unchecked-packet-in-Tcp.ensures, c.src_addr-in-Tcp.ensures, c.dst_addr-in-Tcp.ensures) at c.in-Err-parse.ensures.value in
    let unread : transport_by c.args.caps.now (next_header_of v) (src_addr_of v) (dst_addr_of v) c.args.bytes.now ≡ None = rw (named, none) refl in
    (unread-transport c.args.caps.now v c.args.bytes.now unread, refl)
