use Rattle.std.proofs.Common.{◌≡◌, ◌%◌, [], length, rules, ◌∙◌, sym}
use mir.Syntax.{named}
use Rattle.ip_wire.proofs.Composed.{reads_frame, reads_segment}
use Rattle.ip_wire.proofs.TcpLayer.{length-written}
use Rattle.ip_wire.specs.Frame.{segment}
use Rattle.net_base.specs.Checksum.{computes}
use Rattle.wire_addr.specs.IpAddress.{address_bytes}
use Rattle.wire_ip.proofs.IpReadsBack.{IsInRange}
use Rattle.wire_ip.specs.Ip.{dst_addr_of, payload_len_of, src_addr_of}
use Rattle.wire_tcp.proofs.TcpReadsBack.{IsWritable}
use Rattle.wire_tcp.proofs.ValueInRange.{value_in_range}
use Rattle.wire_tcp.specs.TcpRepr as tcp
use Rattle.ip_wire.proofs.laws.back.frame_composes_tcp.Goals as goal

pub returns : goal.returns
returns c =
    let inner = c.args.inner in
    let value = tcp.header_of c.args.value in
    let payload = c.args.value.payload.now in
    let src = src_addr_of inner in
    let dst = dst_addr_of inner in
    let written = tcp.bytes_of value payload src dst (computes c.args.sent.tcp) [] in
    let in_range : IsInRange inner = search rules in
    let writable : IsWritable value = record {
      in_range = value_in_range (record { mir = named 0; lft = c.lifetimes.0 }) c.args.value _ c.well_formed.1.1.0;
      sender = c.requires.sender;
      receiver = c.requires.receiver;
      most = c.requires.header_len;
    } in
    let src_bytes : length (address_bytes src) % 2 ≡ 0 = search rules in
    let dst_bytes : length (address_bytes dst) % 2 ≡ 0 = search rules in
    let long : payload_len_of inner ≡ length written = c.requires.len ∙ sym (length-written src dst value payload (computes c.args.sent.tcp)) in
    let read = reads_segment c.args.received (computes c.args.sent.tcp) inner value payload c.requires.protocol writable src_bytes dst_bytes c.requires.checksum in
    reads_frame c.args.received (computes c.args.sent.ipv4) c.args.header inner written c.args.padding.now (segment (tcp.normal value) payload) (search rules) (search rules)
    c.requires.names in_range long c.requires.packet_checksum read
