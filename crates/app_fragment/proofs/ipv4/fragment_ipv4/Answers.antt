use Rattle.std.proofs.Common.{◌≡◌, ◌+◌, ◌-◌, ap, refl, rules, subst, sym, ◌∙◌, drop}
use Rattle.ip_wire.specs.Ipv4.{header_len, packet_bytes}
use Rattle.app_fragment.proofs.Pieces.{IsFragment, is_fragment}
use Rattle.app_fragment.proofs.ipv4.fragment_ipv4.Goals as goal

pub returns-clause-reads : goal.returns-clause-reads
returns-clause-reads c =
    let bytes = c.args.packet.now in
    let next = c.next_place-next.result in
    let may = c.if-not-may_be_fragmented.ensures.0 refl in
    let view : packet_bytes c.new_unchecked.result ≡ bytes = search rules in
    let header : c.from.result ≡ header_len bytes = c.from.ensures ∙ c.header_len.ensures ∙ ap header_len view in
    let f = subst (IsFragment c.args.ident bytes c.args.at next) (sym c.write.ensures)
    (is_fragment c.args.ident bytes (drop _ c.args.out.now) c.args.at next c.bytes_fit.ensures may.valid.lengths c.next_place-next.ensures.order c.next_place-next.ensures.within may.within) in
    (f.lengths, f.version ∙ may.valid.version, f.checksum, f.total ∙ sym (ap (λ n. n + (next - c.args.at)) header))
