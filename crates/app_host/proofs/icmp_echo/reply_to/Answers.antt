use Rattle.std.proofs.Common.{◌≡◌, ◌∙◌, ◌≤◌, ◌+◌, Ok, Some, ap, arith, length, length-drop, rules, sym, subst}
use Rattle.ip_wire.specs.Frame.{all_checked, other, packet}
use Rattle.ip_wire.specs.Ip.{dst_addr_of, max_payload_len, next_header_of, src_addr_of, version_of}
use Rattle.wire_icmp.specs.Icmp.{packet_bytes, payload_of, protocol_of}
use Rattle.wire_icmp.specs.declared.IcmpRepr.TheVariants.{EchoRequest}
use Rattle.app_host.proofs.IcmpReplies.{echoed, no_request, verified}
use Rattle.app_host.specs.IcmpEcho.{IsIcmpEcho}
use Rattle.app_host.specs.Interface.{IsForUs, header_back}
use Rattle.app_host.specs.Message.{Gives}
use Rattle.app_host.proofs.icmp_echo.reply_to.Goals as goal

pub returns-in-EchoRequest : goal.returns-in-EchoRequest
returns-in-EchoRequest c =
    let ours = c.args.ours.now in
    let link = c.args.link.now in
    let v = c.args.header.now in
    let request = c.args.request.now in
    let is_icmp : next_header_of v ≡ protocol_of (version_of v) = search rules in
    let fits : length request ≤ max_payload_len v = search rules in
    let for_us : IsForUs ours link v = search rules in
    let caps : c.default-caps.result ≡ all_checked = search rules in
    let view : packet_bytes c.new_unchecked-packet.result ≡ request = search rules in
    let src : c.src_addr-src_addr.result ≡ src_addr_of v = search rules in
    let dst : c.dst_addr-dst_addr.result ≡ dst_addr_of v = search rules in
    let reads = rw (caps, view, src, dst, verified v) at c.parse.ensures.reads in
    let request_is = EchoRequest c.in-EchoRequest.ident c.in-EchoRequest.seq_no in
    let read = (reads request_is).0 (c.in-Ok.is ∙ ap Ok c.in-EchoRequest.is) in
    let short : 8 + length (payload_of request) ≤ length request = omega (arith, read.least, length-drop 8 request) in
    let back : c.header_back-back.result ≡ header_back v = search rules in
    let has : c.payload-data.result.now ≡ payload_of request = search rules in
    subst (λ f. Gives (IsIcmpEcho ours link (packet v (other request))) (Some f)) (sym (rw back at c.icmp.ensures))
    (echoed ours link v request c.in-EchoRequest.ident c.in-EchoRequest.seq_no c.payload-data.result (payload_of request) is_icmp read has short for_us fits)

pub returns-in_default : goal.returns-in_default
returns-in_default c =
    let v = c.args.header.now in
    let request = c.args.request.now in
    let caps : c.default-caps.result ≡ all_checked = search rules in
    let view : packet_bytes c.new_unchecked-packet.result ≡ request = search rules in
    let src : c.src_addr-src_addr.result ≡ src_addr_of v = search rules in
    let dst : c.dst_addr-dst_addr.result ≡ dst_addr_of v = search rules in
    let reads = rw (caps, view, src, dst, verified v) at c.parse.ensures.reads in
    no_request c.args.ours.now c.args.link.now v request c.parse.result reads (λ ident seq_no ok. let is = c.in-Ok.is in let same : c.in-Ok.value ≡ EchoRequest ident seq_no = cc in c.in_default.not-EchoRequest ident seq_no same)

pub returns-in-Err : goal.returns-in-Err
returns-in-Err c =
    let v = c.args.header.now in
    let request = c.args.request.now in
    let caps : c.default-caps.result ≡ all_checked = search rules in
    let view : packet_bytes c.new_unchecked-packet.result ≡ request = search rules in
    let src : c.src_addr-src_addr.result ≡ src_addr_of v = search rules in
    let dst : c.dst_addr-dst_addr.result ≡ dst_addr_of v = search rules in
    let reads = rw (caps, view, src, dst, verified v) at c.parse.ensures.reads in
    no_request c.args.ours.now c.args.link.now v request c.parse.result reads (λ ident seq_no ok. absurd (let is = c.in-Err.is in cc))
