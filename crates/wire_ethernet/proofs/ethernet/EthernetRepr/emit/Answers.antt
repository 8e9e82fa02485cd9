use Rattle.std.proofs.Common.{slice_range, arith}
use Rattle.net_base.proofs.Written.{length_front}
use Rattle.wire_ethernet.proofs.EthernetEmitted.{header_written}
use Rattle.wire_ethernet.specs.Ethernet.{number_of}
use Rattle.wire_ethernet.proofs.ethernet.EthernetRepr.emit.Goals as goal

pub returns : goal.returns
returns c =
    let v = c.args.self.now in
    let old = c.args.frame.now.buffer.now in
    let first = c.write_six.new.bytes in
    let second = c.write_six-2.new.bytes in
    let dst = length_front 6 old first v.dst_addr.0 (omega arith) (omega arith) c.write_six.ensures in
    let src = length_front 6 (slice_range first 6 12) second v.src_addr.0 (omega arith) (omega arith) c.write_six-2.ensures in
    let written = header_written v.dst_addr.0 v.src_addr.0 (number_of v.ethertype) old first second c.write_u16.new.buf c.number.result dst src c.requires c.write_six.ensures c.write_six-2.ensures c.write_u16.ensures c.number.ensures in
    record { same_borrow = cc; same_length = omega arith; holds = written }
