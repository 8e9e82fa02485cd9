use Rattle.std.proofs.Common.{◌≡◌, ◌+◌, ◌-◌, ap, length, rules, ◌∙◌}
use Rattle.ip_wire.specs.Ipv4.{fragment_offset, packet_bytes, with_checksum}
use Rattle.app_fragment.specs.Ipv4Fragments.{fragment_len, has_more, with_ident, with_place}
use Rattle.app_fragment.proofs.ipv4.write_header.Goals as goal

pub returns : goal.returns
returns c =
    let bytes = c.args.packet.now in
    let view : packet_bytes c.new_unchecked-view.result ≡ bytes = search rules in
    let len : length c.args.header.now + (c.args.next - c.args.at) ≡ fragment_len bytes c.args.at c.args.next = ap (λ n. n + (c.args.next - c.args.at)) c.requires.room in
    let offset : c.offset_at-offset.result ≡ fragment_offset bytes + c.args.at = c.offset_at-offset.ensures ∙ ap (λ b. fragment_offset b + c.args.at) view in
    let more : c.has_more-more.result ≡ has_more bytes c.args.next = c.has_more-more.ensures ∙ ap (λ b. has_more b c.args.next) view in
    c.fill_checksum.ensures
    ∙ ap with_checksum (c.set_place.ensures
    ∙ ap (λ n. with_place n c.has_more-more.result c.offset_at-offset.result c.set_ident.new.header) len
    ∙ ap (λ b. with_place (fragment_len bytes c.args.at c.args.next) b c.offset_at-offset.result c.set_ident.new.header) more
    ∙ ap (λ n. with_place (fragment_len bytes c.args.at c.args.next) (has_more bytes c.args.next) n c.set_ident.new.header) offset
    ∙ ap (with_place (fragment_len bytes c.args.at c.args.next) (has_more bytes c.args.next) (fragment_offset bytes + c.args.at)) (c.set_ident.ensures ∙ ap (with_ident c.args.ident) c.copy_header.ensures))
