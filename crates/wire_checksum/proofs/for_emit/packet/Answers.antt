use Rattle.std.proofs.Common.{◌≡◌, ◌+◌, ◌*◌, ◌%◌, ◌++◌, ◌∙◌, ap, sym, arith, length, length-append, rules}
use Rattle.wire_addr.specs.IpAddress.{address_bytes}
use Rattle.wire_checksum.specs.PseudoHeader.{pseudo_header_bytes}
use Rattle.wire_checksum.specs.WordSum.{residue, sum_of_bytes}
use Rattle.wire_checksum.proofs.Chains.{and_more}
use Rattle.wire_checksum.proofs.PseudoSums.{total-joins, total_with_pseudo_header}
use Rattle.wire_checksum.proofs.for_emit.packet.Goals as goal

pub returns : goal.returns
returns c =
    let octets = c.args.front.now in
    let rest = c.args.rest.now in
    let src : length (address_bytes c.args.src_addr) % 2 ≡ 0 = search rules in
    let dst : length (address_bytes c.args.dst_addr) % 2 ≡ 0 = search rules in
    let whole = sym (length-append octets rest) in
    let front = c.pseudo_header_total-pseudo_header.ensures
    ∙ ap (λ n. sum_of_bytes (pseudo_header_bytes (address_bytes c.args.src_addr) (address_bytes c.args.dst_addr) c.args.next_header (n % 65536))) whole in
    let both = total-joins octets rest c.total_of_words.result c.total.result (omega (arith, c.requires.whole)) c.total_of_words.ensures c.total.ensures in
    c.finish.ensures
    ∙ c.around-2.ensures
    ∙ and_more c.around.result (c.pseudo_header_total-pseudo_header.result + c.total_of_words.result) c.total.result c.around.ensures
    ∙ ap (λ n. residue (256 * n)) (omega arith)
    ∙ total_with_pseudo_header c.args.src_addr c.args.dst_addr c.args.next_header (octets ++ rest) c.pseudo_header_total-pseudo_header.result
    (c.total_of_words.result + c.total.result) src dst front both
