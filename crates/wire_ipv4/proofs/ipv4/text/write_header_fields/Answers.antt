use Rattle.std.proofs.Common.{arith, rules}
use Rattle.std.proofs.lemmas.Grind.{common_steps}
use Rattle.net_base.specs.Field.{field}
use Rattle.net_base.proofs.Readings.{flag_test}
use Rattle.wire_ipv4.proofs.Ipv4Computed.{header_fields_text_values}
use Rattle.wire_ipv4.proofs.ipv4.text.write_header_fields.Goals as goal

pub returns : goal.returns
returns g c =
    let bytes = c.args.packet.now.buffer.now in
    let dont = flag_test c.dont_frag.result (field bytes 49 1) c.dont_frag.ensures in
    let more = flag_test c.more_frags.result (field bytes 50 1) c.more_frags.ensures in
    let text = header_fields_text_values bytes c.src_addr.result c.dst_addr.result c.next_header.result c.hop_limit.result c.frag_offset.result c.ident.result
    c.dont_frag.result c.more_frags.result c.src_addr.ensures c.dst_addr.ensures c.next_header.ensures c.hop_limit.ensures dont more c.frag_offset.ensures c.ident.ensures in
    rw text (first_of (search rules, grind (arith, common_steps)))
