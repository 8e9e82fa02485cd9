use Rattle.std.proofs.Common.{◌∙◌, sym, arith}
use Rattle.wire_tcp.specs.TcpRepr.{header_of}
use Rattle.wire_tcp.proofs.TcpEmitted.{begins_fixed, left_unsummed, segment_written, then_summed}
use Rattle.wire_tcp.proofs.tcp.repr.TcpRepr.emit.Goals as goal
use Rattle.std.proofs.lemmas.Grind.{common_steps}
use Rattle.std.proofs.lemmas.Bool.Decides.{nat_tests}

pub write_checksum-requires-clause-front : goal.write_checksum-requires-clause-front
write_checksum-requires-clause-front c = grind (arith, common_steps, nat_tests, segment_written, begins_fixed)

pub returns-then-tx : goal.returns-then-tx
returns-then-tx c =
    let v = header_of c.args.self.now in
    let payload = c.args.self.now.payload.now in
    let whole = segment_written v payload c.args.packet.now.buffer c.write_bytes.new.packet.buffer c.emit_options.new.packet.buffer c.write_bytes-2.new.packet.buffer
    c.fixed-fixed.result c.header_len-header_len.result c.header_len-header_len.ensures c.fixed-fixed.ensures c.write_bytes.ensures c.emit_options.ensures c.write_bytes-2.ensures in
    then_summed v c.args.src_addr.now c.args.dst_addr.now payload _ c.args.packet.now.buffer c.write_bytes-2.new.packet.buffer c.write_checksum.new.packet.buffer _ (sym c.tx.ensures ∙ c.if-tx.true) whole c.write_checksum.ensures

pub returns-else-tx : goal.returns-else-tx
returns-else-tx c =
    let v = header_of c.args.self.now in
    let payload = c.args.self.now.payload.now in
    let whole = segment_written v payload c.args.packet.now.buffer c.write_bytes.new.packet.buffer c.emit_options.new.packet.buffer c.write_bytes-2.new.packet.buffer
    c.fixed-fixed.result c.header_len-header_len.result c.header_len-header_len.ensures c.fixed-fixed.ensures c.write_bytes.ensures c.emit_options.ensures c.write_bytes-2.ensures in
    left_unsummed v c.args.src_addr.now c.args.dst_addr.now payload _ c.args.packet.now.buffer c.write_bytes-2.new.packet.buffer _ (sym c.tx.ensures ∙ c.if-tx.false) whole
