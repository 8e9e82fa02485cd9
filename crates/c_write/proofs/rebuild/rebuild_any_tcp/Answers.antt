use Rattle.std.proofs.Common.{◌≡◌, ◌∙◌, Some, None, false, true, rules}
use Rattle.ip_wire.proofs.TcpLayer.{rebuilt-tcp, rebuilt-tcp-copied}
use Rattle.ip_wire.proofs.UdpLayer.{AreWords}
use Rattle.ip_wire.specs.Tcp.{header_len, payload_of}
use Rattle.ip_wire.specs.TcpRepr.{Reads, header_of, tcp_of}
use Rattle.ip_wire.specs.Checksum.{computes, verifies}
use Rattle.c_write.proofs.TcpResummed.{fills-None, fills-Some, header-room}
use Rattle.c_write.proofs.rebuild.rebuild_any_tcp.Goals as goal

pub returns-in-Some : goal.returns-in-Some
returns-in-Some c =
    let src = c.args.src_addr in
    let dst = c.args.dst_addr in
    let bytes = c.args.bytes.now in
    let v = header_of c.in-Ok.segment in
    let p = c.in-Ok.segment.payload.now in
    let verified : verifies c.default-caps.result.tcp ≡ true = search rules in
    let unsummed : computes c.ignored-unsummed.result.tcp ≡ false = search rules in
    let read : tcp_of src dst true bytes ≡ Some v = rw (verified, c.new_unchecked-packet.ensures) at c.in-Ok.ensures.value in
    let reads : Reads bytes src dst true v p = rw (verified, c.new_unchecked-packet.ensures) at c.in-Ok.ensures.ok in
    let words : AreWords src dst = record { src_bytes = search rules; dst_bytes = search rules } in
    let filled = rw unsummed at c.in-Some.ensures in
    let n : c.from.result ≡ header_len bytes = c.from.ensures ∙ rw c.new_unchecked-packet.ensures at c.header_len.ensures in
    let written = rw (n, c.header_len-in-Some.ensures) at c.put_checksum.ensures in
    rw (rebuilt-tcp src dst bytes v read, ← reads.body) (fills-Some v src dst bytes p c.args.out.now c.try_emit.new.out c.put_checksum.new.out c.in-Some.len words reads filled written)

pub returns-in-None : goal.returns-in-None
returns-in-None c =
    let src = c.args.src_addr in
    let dst = c.args.dst_addr in
    let bytes = c.args.bytes.now in
    let v = header_of c.in-Ok.segment in
    let verified : verifies c.default-caps.result.tcp ≡ true = search rules in
    let read : tcp_of src dst true bytes ≡ Some v = rw (verified, c.new_unchecked-packet.ensures) at c.in-Ok.ensures.value in
    let payload : c.in-Ok.segment.payload.now ≡ payload_of bytes = rw c.new_unchecked-packet.ensures at c.in-Ok.ensures.ok.body in
    rw (rebuilt-tcp src dst bytes v read, ← payload) (fills-None v src dst c.in-Ok.segment.payload.now c.args.out.now c.try_emit.new.out c.in-None.ensures)

pub put_checksum-requires-clause-room : goal.put_checksum-requires-clause-room
put_checksum-requires-clause-room c =
    let v = header_of c.in-Ok.segment in
    let unsummed : computes c.ignored-unsummed.result.tcp ≡ false = search rules in
    let filled = rw unsummed at c.in-Some.ensures in
    rw c.header_len-in-Some.ensures (header-room v c.in-Ok.segment.payload.now c.args.out.now c.try_emit.new.out c.in-Some.len filled)

pub returns-in-Err : goal.returns-in-Err
returns-in-Err c =
    let src = c.args.src_addr in
    let dst = c.args.dst_addr in
    let bytes = c.args.bytes.now in
    let verified : verifies c.default-caps.result.tcp ≡ true = search rules in
    let unread : tcp_of src dst true bytes ≡ None = rw (verified, c.new_unchecked-packet.ensures) at c.in-Err.ensures.value in
    rw (rebuilt-tcp-copied src dst bytes unread) c.try_copy.ensures
