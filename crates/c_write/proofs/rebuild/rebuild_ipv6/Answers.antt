use Rattle.std.proofs.Common.{◌≡◌, ◌≤◌, ◌∙◌, ◌++◌, List, ℕ, Some, None, ap, arith, drop, length, refl, rules, slice_index, sym, take, true}
use Rattle.std.proofs.lemmas.Grind.{common_steps}
use Rattle.ip_wire.proofs.Frames.{rebuilt-ipv6, rebuilt-ipv6-copied, rebuilt_transport-fits}
use Rattle.ip_wire.specs.Field.{field}
use Rattle.ip_wire.specs.Frame.{rebuilt_transport}
use Rattle.ip_wire.specs.Ip.{bytes_of, with_payload_len}
use Rattle.ip_wire.specs.Ipv6.{HasLengths, Reads, header_of, ipv6_of, payload_of}
use Rattle.ip_wire.specs.Protocol.{protocol_of}
use Rattle.ip_wire.specs.Types.{Ipv6}
use Rattle.c_write.proofs.Filled.{filled-after}
use Rattle.c_write.proofs.rebuild.rebuild_ipv6.Goals as goal

payload-fits : (bytes : List ℕ) → HasLengths bytes → length (payload_of bytes) ≤ 65535
payload-fits bytes whole = grind (arith, common_steps, whole)

pub rebuild_transport-requires : goal.rebuild_transport-requires
rebuild_transport-requires c =
    let bytes = c.args.bytes.now in
    let header = (c.in-Ok.ensures.reads c.in-Ok.header).0 refl in
    let named : c.in-Ok.header.next_header ≡ protocol_of (field bytes 48 8) = rw c.new_unchecked-packet.ensures at header.next_header in
    let small = (c.type_inv.bytes 6).fits in
    let number : field bytes 48 8 ≡ slice_index bytes 6 = omega (arith, small) in
    named ∙ ap protocol_of number

pub put_ipv6-requires-clause-payload_len : goal.put_ipv6-requires-clause-payload_len
put_ipv6-requires-clause-payload_len c =
    let bytes = c.args.bytes.now in
    let header = Ipv6 c.in-Ok.header in
    let count : c.in_ok-payload_len-in-Ok.payload_len ≡ length (rebuilt_transport header c.payload.result.now) = search rules in
    let reads : Reads bytes c.in-Ok.header = rw c.new_unchecked-packet.ensures at (c.in-Ok.ensures.reads c.in-Ok.header).0 refl in
    let payload : c.payload.result.now ≡ payload_of bytes = rw c.new_unchecked-packet.ensures at c.payload.ensures in
    let len : length c.payload.result.now ≤ 65535 = rw payload (payload-fits bytes reads.lengths) in
    rw count (rebuilt_transport-fits header c.payload.result.now len)

pub returns-in_ok-payload_len-in-Ok : goal.returns-in_ok-payload_len-in-Ok
returns-in_ok-payload_len-in-Ok c =
    let bytes = c.args.bytes.now in
    let reads : Reads bytes c.in-Ok.header = rw c.new_unchecked-packet.ensures at (c.in-Ok.ensures.reads c.in-Ok.header).0 refl in
    let is : c.in-Ok.header ≡ header_of bytes = rw (← reads.payload_len, ← reads.next_header, ← reads.hop_limit, ← reads.src_addr, ← reads.dst_addr) refl in
    let read : ipv6_of bytes ≡ Some c.in-Ok.header = rw c.new_unchecked-packet.ensures at c.in-Ok.ensures.value in
    let payload : c.payload.result.now ≡ payload_of bytes = rw c.new_unchecked-packet.ensures at c.payload.ensures in
    let header = Ipv6 c.in-Ok.header in
    let inner = rebuilt_transport header c.payload.result.now in
    let count : c.in_ok-payload_len-in-Ok.payload_len ≡ length inner = search rules in
    let old = c.args.out.now in
    let front : c.in_ok-out-in-Ok.front.now ≡ take 40 old = search rules in
    let written : c.put_ipv6.new.out ≡ bytes_of (with_payload_len header (length inner)) true ++ drop 40 (take 40 old) =
    (rw (count, front) at c.put_ipv6.ensures) ∙ ap (λ h. bytes_of (with_payload_len (Ipv6 h) (length inner)) true ++ drop 40 (take 40 old)) (sym is) in
    rw (rebuilt-ipv6 bytes c.in-Ok.header read, ← payload) (filled-after (bytes_of (with_payload_len header (length inner)) true) inner old _ c.put_ipv6.new.out c.rebuild_transport.new.out 40 c.in_ok-payload_len-in-Ok.payload_len
    (search rules) (search rules) refl written (search rules) (search rules) (search rules))

pub returns-in-Err : goal.returns-in-Err
returns-in-Err c =
    let bytes = c.args.bytes.now in
    let unread : ipv6_of bytes ≡ None = rw c.new_unchecked-packet.ensures at c.in-Err.ensures.value in
    rw (rebuilt-ipv6-copied bytes unread) c.try_copy.ensures
