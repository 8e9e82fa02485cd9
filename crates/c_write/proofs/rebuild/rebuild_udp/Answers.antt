use Rattle.std.proofs.Common.{◌≡◌, ◌≢◌, ◌∙◌, ◌+◌, Some, None, length, rules, subst, sym, true}
use Rattle.ip_wire.proofs.UdpLayer.{AreWords, rebuilt-udp, rebuilt-udp-copied}
use Rattle.ip_wire.specs.Field.{field}
use Rattle.ip_wire.specs.Udp.{bytes_of, packet_len, payload_of, udp_of}
use Rattle.ip_wire.specs.Checksum.{computes, verifies}
use Rattle.net_base.proofs.Spelled.{AreBytes}
use Rattle.net_base.specs.Filled as filled
use Rattle.c_write.proofs.Framed.{length-udp}
use Rattle.c_write.proofs.UdpKept.{rebuilt-udp-kept}
use Rattle.c_write.proofs.rebuild.rebuild_udp.Goals as goal

pub returns-in-Ok : goal.returns-in-Ok
returns-in-Ok c =
    let src = c.args.src_addr in
    let dst = c.args.dst_addr in
    let bytes = c.args.bytes.now in
    let verified : verifies c.default-caps.result.udp ≡ true = search rules in
    let computed : computes c.default-caps.result.udp ≡ true = search rules in
    let read : udp_of src dst true bytes ≡ Some c.in-Ok.header = rw (verified, c.new_unchecked-packet.ensures) at c.in-Ok.ensures.value in
    let payload : c.payload.result.now ≡ payload_of bytes = rw c.new_unchecked-packet.ensures at c.payload.ensures in
    let packet = bytes_of c.in-Ok.header c.payload.result.now src dst true in
    let written : filled.Fills packet (8 + length c.payload.result.now) c.args.out.now c.try_emit.new.out c.try_emit.result = rw (computed) at c.try_emit.ensures in
    let size = length-udp c.in-Ok.header c.payload.result.now src dst in
    rw (rebuilt-udp src dst bytes c.in-Ok.header read, ← payload) (subst (λ n. filled.Fills packet n c.args.out.now c.try_emit.new.out c.try_emit.result) (sym size) written)

pub returns-in-Ok-2 : goal.returns-in-Ok-2
returns-in-Ok-2 c =
    let src = c.args.src_addr in
    let dst = c.args.dst_addr in
    let bytes = c.args.bytes.now in
    let verified : verifies c.default-caps.result.udp ≡ true = search rules in
    let read : udp_of src dst true bytes ≡ Some c.in-Ok.header = rw (verified, c.new_unchecked-packet.ensures) at c.in-Ok.ensures.value in
    let are : AreBytes bytes = λ i. (c.type_inv.bytes i).fits in
    let words : AreWords src dst = record { src_bytes = search rules; dst_bytes = search rules } in
    let sum : c.checksum.result ≡ field bytes 48 16 = rw c.new_unchecked-packet.ensures at c.checksum.ensures in
    let some : field bytes 48 16 ≢ 0 = rw (← sum) c.if-checksum-eq0.false in
    let len : c.from.result ≡ packet_len bytes = c.from.ensures ∙ rw c.new_unchecked-packet.ensures at c.len.ensures in
    rw (rebuilt-udp-kept src dst bytes c.in-Ok.header are words read some, ← len) c.try_copy.ensures

pub returns-in-Err : goal.returns-in-Err
returns-in-Err c =
    let src = c.args.src_addr in
    let dst = c.args.dst_addr in
    let bytes = c.args.bytes.now in
    let verified : verifies c.default-caps.result.udp ≡ true = search rules in
    let unread : udp_of src dst true bytes ≡ None = rw (verified, c.new_unchecked-packet.ensures) at c.in-Err.ensures.value in
    rw (rebuilt-udp-copied src dst bytes unread) c.try_copy-in-Err.ensures
