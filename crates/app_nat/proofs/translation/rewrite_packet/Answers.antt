use Rattle.std.proofs.Common.{◌≡◌, ◌∙◌, ◌-◌, List, ℕ, ap, length, rules, subst, sym, true}
use borrow.Rule.Slice.PartMut.{mid_of, put_mid}
use Rattle.app_edit.proofs.Layouts.{placed}
use Rattle.app_edit.specs.Layout.{layout_of}
use Rattle.app_edit.specs.declared.layout.Layout.{Layout}
use Rattle.app_nat.proofs.Translates.{IsWritten, written}
use Rattle.app_nat.specs.Nat.{CarriesPorts, translated_packet, with_addr, with_address, with_port}
use Rattle.ip_wire.specs.Field.{with_range}
use Rattle.ip_wire.specs.Frame.{ipv4_payload}
use Rattle.ip_wire.specs.Ipv4.{Reads, header_len, total_len}
use Rattle.ip_wire.specs.declared.IpVersion.TheVariants.{Ipv4}
use Rattle.app_nat.proofs.translation.rewrite_packet.Goals as goal

done : (c : goal.After-slice_known-3-1) → IsWritten c.args.side c.args.header c.args.packet.now c.set_addr.new.packet c.args.addr c.args.port
done c =
    let bytes = c.args.packet.now in
    let reads = c.requires.carries.1.reads.0 in
    let part = c.rewrite_transport.new.payload in
    let layout : c.of-layout.result ≡ layout_of Ipv4 bytes = c.of-layout.ensures in
    let payload : mid_of c.of-layout.result.start (c.of-layout.result.end - c.of-layout.result.start) bytes ≡ ipv4_payload bytes =
    ap (λ (l : Layout). mid_of l.start (l.end - l.start) bytes) layout in
    let inner : put_mid c.of-layout.result.start (c.of-layout.result.end - c.of-layout.result.start) bytes part ≡ with_range bytes (header_len bytes) (total_len bytes) part =
    placed c.of-layout.result Ipv4 bytes part layout reads.lengths.within in
    written c.args.side c.args.header bytes part c.set_addr.new.packet c.args.addr c.args.port
    (search rules) reads (c.rewrite_transport.auto.payload ∙ ap length payload) (rw payload at c.rewrite_transport.ensures.reads) (rw payload at c.rewrite_transport.ensures.bytes)
    (c.set_addr.ensures.bytes ∙ ap (with_address c.args.side c.args.addr) inner)
    (λ w r. c.set_addr.ensures.reads w (subst (λ (l : List ℕ). Reads l true w) (sym inner) r))

pub returns-clause-carries : goal.returns-clause-carries
returns-clause-carries c t a h = subst (λ (l : List ℕ). CarriesPorts l (with_addr c.args.side c.args.addr c.args.header) (with_port c.args.side c.args.port t)) (search rules) ((done c).carries t a h)

pub returns-clause-bytes : goal.returns-clause-bytes
returns-clause-bytes c = subst (λ (l : List ℕ). l ≡ translated_packet c.args.side c.args.addr c.args.port c.args.packet.now) (search rules) (done c).as_said
