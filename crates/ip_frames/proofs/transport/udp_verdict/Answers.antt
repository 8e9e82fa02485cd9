use Rattle.std.proofs.Common.{◌≡◌, ◌==◌, ◌∙◌, arith, false, is_some, rules, sym, true}
use Rattle.std.proofs.lemmas.Bool.Decides.{nat_tests}
use Rattle.std.proofs.lemmas.Grind.{common_steps}
use Rattle.ip_frames.proofs.ReadLines.{verdict-short, verdict-whole}
use Rattle.ip_wire.specs.Field.{field}
use Rattle.ip_wire.specs.Ip.{dst_addr_of, src_addr_of}
use Rattle.ip_wire.specs.Udp.{has_lengths, packet_bytes, pseudo_header_sum}
use Rattle.ip_wire.specs.Udp.{udp_of}
use Rattle.ip_frames.proofs.transport.udp_verdict.Goals as goal

pub returns-then-is_err : goal.returns-then-is_err
returns-then-is_err c =
    let short : has_lengths (packet_bytes c.args.packet.now) ≡ false = grind (arith, nat_tests, common_steps) in
    sym (verdict-short _ _ _ (λ whole. let apart : false ≡ true = sym short ∙ whole in cc))

pub returns : goal.returns
returns c =
    let bytes = packet_bytes c.args.packet.now in
    let src = src_addr_of c.args.header.now in
    let dst = dst_addr_of c.args.header.now in
    let whole : has_lengths bytes ≡ true = grind (arith, nat_tests, common_steps) in
    let read : c.is_ok-is_read.result ≡ is_some (udp_of src dst false bytes) = search rules in
    let partial : c.verify_partial_checksum.result ≡ (field bytes 48 16 == pseudo_header_sum src dst bytes) = search rules in
    c.unread_verdict.ensures ∙ verdict-whole _ _ _ _ _ whole read partial
