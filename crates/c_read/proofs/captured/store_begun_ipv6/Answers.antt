use Rattle.std.proofs.Common.{◌≡◌, drop, length, slice_range}
use Rattle.ip_wire.specs.Ipv6.{header_of}
use Rattle.c_read.proofs.CutBytes.{range-rest}
use Rattle.c_read.specs.FrameFields.{with_ipv6_fields}
use Rattle.c_read.proofs.captured.store_begun_ipv6.Goals as goal

pub returns-clause-value : goal.returns-clause-value
returns-clause-value c =
    let f = c.args.fields.now in
    let bytes = c.args.bytes.now in
    let v = header_of bytes in
    let next = with_ipv6_fields f bytes v v.payload_len in
    let rest : slice_range bytes 40 (length bytes) ≡ drop 40 bytes = range-rest 40 bytes in
    let src = rw c.new_unchecked-packet.ensures at c.src_addr.ensures in
    let dst = rw c.new_unchecked-packet.ensures at c.dst_addr.ensures in
    let header : c.store_ipv6_header.new.fields ≡ next =
    rw (
      c.new_unchecked-packet.ensures,
      src,
      dst,
      c.from.ensures,
      rw c.new_unchecked-packet.ensures at c.payload_len.ensures,
      rw c.new_unchecked-packet.ensures at c.hop_limit.ensures,
    ) at c.store_ipv6_header.ensures
    in
    rw (header, rest, src, dst) at c.store_cut_extended.ensures.value
