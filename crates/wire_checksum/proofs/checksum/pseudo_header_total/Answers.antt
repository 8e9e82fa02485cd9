use Rattle.std.proofs.Common.{◌≡◌, ◌+◌, ◌*◌, ◌/◌, ◌%◌, length, rules, refl, ◌∙◌}
use Rattle.wire_addr.specs.Protocol.{number_of}
use Rattle.wire_addr.specs.IpAddress.{address_bytes}
use Rattle.wire_checksum.proofs.Chains.{and_more}
use Rattle.wire_checksum.proofs.PseudoSums.{total-pseudo_header}
use Rattle.wire_checksum.proofs.checksum.pseudo_header_total.Goals as goal

pub returns : goal.returns
returns c =
    let src : length (address_bytes c.args.src_addr) % 2 ≡ 0 = search rules in
    let dst : length (address_bytes c.args.dst_addr) % 2 ≡ 0 = search rules in
    let number : c.from-number.result ≡ number_of c.args.next_header = search rules in
    let first : c.from-2.result ≡ c.from-number.result % 256 * 256 + c.from-number.result / 256 % 256 = search rules in
    let low = c.args.length % 65536 in
    let second : c.from-3.result ≡ low % 256 * 256 + low / 256 % 256 = search rules in
    c.around-2.ensures
    ∙ and_more c.around.result (c.address_total.result + c.address_total-2.result) (c.from-2.result + c.from-3.result) c.around.ensures
    ∙ rw (first, second) (total-pseudo_header (address_bytes c.args.src_addr) (address_bytes c.args.dst_addr) c.args.next_header c.args.length _ _ c.from-number.result low
    src dst number (search rules) refl c.address_total.ensures.value c.address_total-2.ensures.value)
