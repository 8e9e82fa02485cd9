use Rattle.std.proofs.Common.{◌≡◌, ◌≢◌, ◌∙◌, None, drop, refl, rules, sym, true}
use Rattle.app_host.proofs.KindReplies.{unread}
use Rattle.app_host.specs.Skipped.{without_extensions}
use Rattle.ip_wire.proofs.Found.{unread-transport}
use Rattle.ip_wire.specs.Frame.{all_checked, packet_payload, transport_by}
use Rattle.ip_wire.specs.Ip.{dst_addr_of, next_header_of, src_addr_of}
use Rattle.ip_wire.specs.TcpRepr.{tcp_of}
use Rattle.ip_wire.specs.Udp as udp
use Rattle.ip_wire.specs.declared.Carried.TheVariants as carried
use Rattle.ip_wire.specs.declared.IpProtocol.TheVariants as protocol
use Rattle.ip_wire.specs.declared.Transport.TheVariants as transport
use Rattle.app_host.proofs.kinds.answer_packet.Goals as goal

pub answer_udp-requires : goal.answer_udp-requires
answer_udp-requires c =
    let caps : c.default-caps.result ≡ all_checked = search rules in
    let bytes = packet_payload c.args.header (drop 14 (without_extensions c.args.frame.now)) in
    let read = ((rw (c.new_unchecked-packet.ensures, c.src_addr-src_addr.ensures, c.dst_addr-dst_addr.ensures, caps, c.requires.payload) at c.in-Ok.ensures.reads) c.in-Ok.ports).0 refl in
    let payload : c.payload.result.now ≡ udp.payload_of bytes = rw (c.new_unchecked-packet.ensures, c.requires.payload) at c.payload.ensures in
    record { header = c.requires.link; carried = (c.requires.ethertype, c.requires.header, (sym c.next_header.ensures ∙ c.in-Udp.is, rw payload read)) }

pub returns-in-Err : goal.returns-in-Err
returns-in-Err c =
    let caps : c.default-caps.result ≡ all_checked = search rules in
    let v = c.args.header in
    let bytes = packet_payload v (drop 14 (without_extensions c.args.frame.now)) in
    let named : next_header_of v ≡ protocol.Udp = sym c.next_header.ensures ∙ c.in-Udp.is in
    let none : udp.udp_of (src_addr_of v) (dst_addr_of v) true bytes ≡ None =
    rw (c.new_unchecked-packet.ensures, c.src_addr-src_addr.ensures, c.dst_addr-dst_addr.ensures, caps, c.requires.payload) at c.in-Err.ensures.value in
    let fails : transport_by all_checked (next_header_of v) (src_addr_of v) (dst_addr_of v) bytes ≡ None = rw (named, none) refl in
    unread c.args.host.now c.args.frame.now (record { header = c.args.link; carried = carried.Packet v (transport.Unread c.args.payload) }) c.args.out.now
    (record { header = c.requires.link; carried = (c.requires.ethertype, c.requires.header, (unread-transport all_checked v bytes fails, c.requires.payload)) })
    refl

pub answer_tcp-requires : goal.answer_tcp-requires
answer_tcp-requires c =
    let caps : c.default-caps.result ≡ all_checked = search rules in
    let read = rw (c.new_unchecked-packet-in-Tcp.ensures, c.src_addr-src_addr.ensures, c.dst_addr-dst_addr.ensures, caps, c.requires.payload) at c.in-Ok-parse.ensures.ok in
    record { header = c.requires.link; carried = (c.requires.ethertype, c.requires.header, (sym c.next_header.ensures ∙ c.in-Tcp.is, read)) }

pub returns-in-Err-parse : goal.returns-in-Err-parse
returns-in-Err-parse c =
    let caps : c.default-caps.result ≡ all_checked = search rules in
    let v = c.args.header in
    let bytes = packet_payload v (drop 14 (without_extensions c.args.frame.now)) in
    let named : next_header_of v ≡ protocol.Tcp = sym c.next_header.ensures ∙ c.in-Tcp.is in
    let none : tcp_of (src_addr_of v) (dst_addr_of v) true bytes ≡ None =
    rw (c.new_unchecked-packet-in-Tcp.ensures, c.src_addr-src_addr.ensures, c.dst_addr-dst_addr.ensures, caps, c.requires.payload) at c.in-Err-parse.ensures.value in
    let fails : transport_by all_checked (next_header_of v) (src_addr_of v) (dst_addr_of v) bytes ≡ None = rw (named, none) refl in
    unread c.args.host.now c.args.frame.now (record { header = c.args.link; carried = carried.Packet v (transport.Unread c.args.payload) }) c.args.out.now
    (record { header = c.requires.link; carried = (c.requires.ethertype, c.requires.header, (unread-transport all_checked v bytes fails, c.requires.payload)) })
    refl

pub answer_other-requires : goal.answer_other-requires
answer_other-requires c =
    let not_udp : next_header_of c.args.header ≢ protocol.Udp = λ is. absurd (search (rules, is)) in
    let not_tcp : next_header_of c.args.header ≢ protocol.Tcp = λ is. absurd (search (rules, is)) in
    record { header = c.requires.link; carried = (c.requires.ethertype, c.requires.header, (not_udp, not_tcp, c.requires.payload)) }
