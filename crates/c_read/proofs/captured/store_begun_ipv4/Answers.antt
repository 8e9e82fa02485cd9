use Rattle.std.proofs.Common.{◌≡◌, ◌≢◌, ◌∙◌, Bool, ap, drop, false, length, refl, slice_range, sym, true}
use Rattle.ip_wire.specs.Ipv4.{header_len, header_of, is_fragment}
use Rattle.c_structs.specs.Written.{flag}
use Rattle.c_structs.specs.declared.types.FrameFields.{FrameFields}
use Rattle.c_read.proofs.CutBytes.{range-rest}
use Rattle.c_read.specs.Captured.{begun_ipv4}
use Rattle.c_read.specs.FrameFields.{with_ipv4_fields, with_part}
use Rattle.c_read.proofs.captured.store_begun_ipv4.Goals as goal

flagged : (b : Bool) → flag b ≢ 0 → b ≡ true
flagged true h = refl
flagged false h = absurd (h refl)

pub returns-else-fields-eq0-clause-value : goal.returns-else-fields-eq0-clause-value
returns-else-fields-eq0-clause-value c =
    let f = c.args.fields.now in
    let bytes = c.args.bytes.now in
    let v = header_of bytes in
    let next = with_ipv4_fields f bytes v v.payload_len in
    let payload = drop (header_len bytes) bytes in
    let first : c.from-header_len.result ≡ header_len bytes = rw (rw c.new_unchecked-packet.ensures at c.header_len.ensures) at c.from-header_len.ensures in
    let rest : slice_range bytes (header_len bytes) (length bytes) ≡ payload = range-rest (header_len bytes) bytes in
    let header : c.store_ipv4_header.new.fields ≡ next =
    rw (
      c.new_unchecked-packet.ensures,
      rw c.new_unchecked-packet.ensures at c.src_addr.ensures,
      rw c.new_unchecked-packet.ensures at c.dst_addr.ensures,
      first,
      c.from.ensures,
      rw c.new_unchecked-packet.ensures at c.total_len.ensures,
      rw c.new_unchecked-packet.ensures at c.hop_limit.ensures,
    ) at c.store_ipv4_header.ensures
    in
    let part : is_fragment bytes ≡ true = flagged (is_fragment bytes) (λ none. c.if-fields-eq0.false (ap (λ (g : FrameFields). g.is_fragment) header ∙ none)) in
    let made : c.store_part.new.fields ≡ with_part next payload = rw (header, first, rest) at c.store_part.ensures in
    let chosen : begun_ipv4 f bytes ≡ with_part next payload = rw part refl in
    made ∙ sym chosen
