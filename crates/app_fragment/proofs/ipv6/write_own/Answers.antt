use Rattle.std.proofs.Common.{ℕ, ◌≡◌, ◌-◌, ◌/◌, ◌==◌, List, ◌∷◌, ◌∙◌, ap, arith, length, not, rules, slice_index, slice_set}
use borrow.Rule.Slice.PartMut.{put_mid}
use Rattle.std.proofs.lemmas.List.{append-nil}
use Rattle.ip_wire.specs.Field.{field}
use Rattle.ip_wire.specs.Ipv6.{payload_len_of}
use Rattle.ip_wire.specs.Ipv6Fragment.{bytes_of}
use Rattle.ip_wire.proofs.Cells.{cells-all}
use Rattle.app_fragment.proofs.ipv6.write_own.Goals as goal

-- 8 bytes of which the first two and then the others were written
written : (header six : List ℕ) (x : ℕ) → length header ≡ 8
    → put_mid 2 (length (slice_set (slice_set header 0 x) 1 0) - 2) (slice_set (slice_set header 0 x) 1 0) six ≡ x ∷ 0 ∷ six
written header six x long = rw (cells-all 8 header long) (ap (λ (l : List ℕ). x ∷ 0 ∷ l) (append-nil six))

pub returns : goal.returns
returns c =
    let bytes = c.args.packet.now in
    let next : slice_index c.args.packet.now 6 ≡ field c.args.packet.now 48 8 = let small = c.type_inv.packet 6 in omega (arith, small) in
    let end : c.from.result ≡ payload_len_of c.args.packet.now = search rules in
    let six : c.emit.new.header ≡ bytes_of (record { frag_offset = c.args.at / 8; more_frags = not (c.args.next == payload_len_of bytes); ident = c.args.ident }) =
    c.emit.ensures ∙ ap (λ n. bytes_of (record { frag_offset = c.args.at / 8; more_frags = not (c.args.next == n); ident = c.args.ident })) end in
    written c.args.header.now c.emit.new.header (slice_index c.args.packet.now 6) c.requires.room ∙ (λ i. next i ∷ 0 ∷ six i)
