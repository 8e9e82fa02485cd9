use Rattle.std.proofs.Common.{◌≡◌, ◌∙◌, ◌+◌, ◌%◌, ◌/◌, ◌∷◌, ap, drop, length, rules, slice_index, slice_range}
use Rattle.ip_wire.specs.Field.{with_range}
use Rattle.net_base.proofs.Spelled.{AreBytes}
use Rattle.c_write.proofs.Ipv6Put.{put-ipv6}
use Rattle.c_write.proofs.rebuild.put_ipv6.Goals as goal

pub returns : goal.returns
returns c =
    let bytes = c.args.bytes.now in
    let are : AreBytes bytes = λ i. (c.type_inv.bytes i).fits in
    let old = c.args.out.now in
    let n = c.args.payload_len in
    let front : c.write_front.new.bytes ≡ 0x60 ∷ 0 ∷ 0 ∷ 0 ∷ n / 256 % 256 ∷ n % 256 ∷ slice_index bytes 6 ∷ slice_index bytes 7 ∷ drop 8 old = search rules in
    c.write_at.ensures ∙ ap (λ b. with_range b 8 (8 + length (slice_range bytes 8 40)) (slice_range bytes 8 40)) front
    ∙ put-ipv6 bytes old n are c.requires.whole c.requires.room
