use Rattle.std.proofs.Common.{◌≡◌, length, length-append, rules, arith}
use Rattle.ip_wire.proofs.Composed.{reads_datagram, reads_frame}
use Rattle.ip_wire.specs.Frame.{datagram}
use Rattle.net_base.specs.Checksum.{computes}
use Rattle.wire_ip.proofs.IpReadsBack.{IsInRange}
use Rattle.wire_ip.specs.Ip.{dst_addr_of, payload_len_of, src_addr_of}
use Rattle.wire_udp.proofs.UdpReadsBack as udp
use Rattle.wire_udp.specs.Udp as udp_header
use Rattle.ip_wire.proofs.laws.back.frame_composes_udp.Goals as goal

pub returns : goal.returns
returns c =
    let inner = c.args.inner in
    let value = c.args.value in
    let payload = c.args.payload.now in
    let src = src_addr_of inner in
    let dst = dst_addr_of inner in
    let written = udp_header.bytes_of value payload src dst (computes c.args.sent.udp) in
    let in_range : IsInRange inner = search rules in
    let udp_range : udp.IsInRange value payload src dst = record {
      src_port = search rules;
      dst_port = search rules;
      receiver = c.requires.receiver;
      payload_len = search rules;
      src_bytes = search rules;
      dst_bytes = search rules;
    } in
    let long : payload_len_of inner ≡ length written = simp length-append (omega (arith, c.requires.len)) in
    let read = reads_datagram c.args.received (computes c.args.sent.udp) inner value payload c.requires.protocol udp_range c.requires.checksum in
    reads_frame c.args.received (computes c.args.sent.ipv4) c.args.header inner written c.args.padding.now (datagram value payload) (search rules) (search rules)
    c.requires.names in_range long c.requires.packet_checksum read
