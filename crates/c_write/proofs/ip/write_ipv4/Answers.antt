use Rattle.std.proofs.Common.{◌≡◌, ◌∙◌, ◌-◌, false, if◌then◌else◌, flat_map, length, ap, sym, arith, rules}
use Rattle.byteorder.specs.Endian.{big_bytes}
use Rattle.ip_wire.specs.Field.{with_field}
use Rattle.ip_wire.specs.Ipv4.{bytes_of, with_checksum}
use Rattle.ip_wire.specs.declared.IpRepr.TheVariants.{Ipv4}
use Rattle.c_write.proofs.Filled.{filled-header}
use Rattle.c_write.proofs.Ipv4Words.{ipv4-checksum, with-checksum}
use Rattle.c_write.specs.Headers.{header_bytes, with_ipv4_fields}
use Rattle.wire_checksum.specs.WordSum.{sum_of_bytes}
use Rattle.c_write.proofs.ip.write_ipv4.Goals as goal
use Rattle.c_write.proofs.ip.write_ipv4.Goals.{then-computed, else-computed}

pub returns : goal.returns
returns c =
    let h = c.args.header.now in
    let v = c.args.value.now in
    let words = c.ipv4_words-words.result in
    let plain = with_ipv4_fields h (bytes_of v false) in
    let value = c.ipv4_words-words.ensures.value in
    let written : length (flat_map (big_bytes 4) c.if-computed.words) ≡ 20 = sym (ap length c.write_u32_into.ensures) ∙ search rules in
    let header : flat_map (big_bytes 4) c.if-computed.words ≡ header_bytes h c.args.computed (Ipv4 v) =
    elim c.if-computed.branch [
      | then-computed w ↦
          let checksum = w.from.result in
          let complement = w.from.ensures ∙ ap (λ n. 65535 - n) (w.words.ensures ∙ ap sum_of_bytes value) in
          let summed : flat_map (big_bytes 4) c.if-computed.words ≡ with_field plain 80 16 checksum =
          ap (flat_map (big_bytes 4)) w.words-is ∙ with-checksum words checksum (search rules) c.ipv4_words-words.ensures.no_checksum (omega (arith, complement))
          ∙ ap (λ l. with_field l 80 16 checksum) value in
          summed ∙ ap (with_field plain 80 16) complement ∙ ipv4-checksum h v (sym (ap length summed) ∙ written)
          ∙ sym (ap (λ b. if b then with_checksum plain else plain) w.if-computed.true)
      | else-computed w ↦ ap (flat_map (big_bytes 4)) w.words-is ∙ value ∙ sym (ap (λ b. if b then with_checksum plain else plain) w.if-computed.false)
    ] in
    filled-header (header_bytes h c.args.computed (Ipv4 v)) c.args.out.now c.write_u32_into.new.dst _ c.split_at_mut-front.result.1.now 20
    c.write_u32_into.ensures header (search rules)
