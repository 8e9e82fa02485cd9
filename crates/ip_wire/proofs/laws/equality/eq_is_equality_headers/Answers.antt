use Rattle.std.proofs.Common.{ap}
use Rattle.std.specs.Cmp.{unsigned_Decides}
use Rattle.std.proofs.lemmas.Bool.Decides.{Decides-and, Decides-like}
use Rattle.wire_ipv4.specs.declared.Ipv4FragKey.{Ipv4FragKey}
use Rattle.wire_ipv4.specs.declared.Ipv4Repr.{Ipv4Repr}
use Rattle.wire_ipv6.specs.declared.Ipv6Repr.{Ipv6Repr}
use Rattle.ip_wire.proofs.laws.equality.eq_is_equality_headers.Goals as goal

pub returns-clause-ipv4 : goal.returns-clause-ipv4
returns-clause-ipv4 c a b =
    let is = c.eq_is_equality.ensures in
    let last = Decides-and _ _ (is.ip_protocol a.next_header b.next_header) (Decides-and _ _ (unsigned_Decides a.payload_len b.payload_len) (unsigned_Decides a.hop_limit b.hop_limit)) in
    Decides-like
    _
    (λ e. let (src_addr, (dst_addr, (next_header, (payload_len, hop_limit)))) = e in λ i. record { src_addr = src_addr i; dst_addr = dst_addr i; next_header = next_header i; payload_len = payload_len i; hop_limit = hop_limit i })
    (λ is. (ap (λ (v : Ipv4Repr). v.src_addr) is, (ap (λ (v : Ipv4Repr). v.dst_addr) is, (ap (λ (v : Ipv4Repr). v.next_header) is, (ap (λ (v : Ipv4Repr). v.payload_len) is, ap (λ (v : Ipv4Repr). v.hop_limit) is)))))
    (Decides-and _ _ (is.ipv4_address a.src_addr b.src_addr) (Decides-and _ _ (is.ipv4_address a.dst_addr b.dst_addr) last))

pub returns-clause-ipv6 : goal.returns-clause-ipv6
returns-clause-ipv6 c a b =
    let is = c.eq_is_equality.ensures in
    let last = Decides-and _ _ (is.ip_protocol a.next_header b.next_header) (Decides-and _ _ (unsigned_Decides a.payload_len b.payload_len) (unsigned_Decides a.hop_limit b.hop_limit)) in
    Decides-like
    _
    (λ e. let (src_addr, (dst_addr, (next_header, (payload_len, hop_limit)))) = e in λ i. record { src_addr = src_addr i; dst_addr = dst_addr i; next_header = next_header i; payload_len = payload_len i; hop_limit = hop_limit i })
    (λ is. (ap (λ (v : Ipv6Repr). v.src_addr) is, (ap (λ (v : Ipv6Repr). v.dst_addr) is, (ap (λ (v : Ipv6Repr). v.next_header) is, (ap (λ (v : Ipv6Repr). v.payload_len) is, ap (λ (v : Ipv6Repr). v.hop_limit) is)))))
    (Decides-and _ _ (is.ipv6_address a.src_addr b.src_addr) (Decides-and _ _ (is.ipv6_address a.dst_addr b.dst_addr) last))

pub returns-clause-frag_key : goal.returns-clause-frag_key
returns-clause-frag_key c a b =
    let is = c.eq_is_equality.ensures in
    Decides-like
    _
    (λ e. let (id, (src_addr, (dst_addr, protocol))) = e in λ i. record { id = id i; src_addr = src_addr i; dst_addr = dst_addr i; protocol = protocol i })
    (λ is. (ap (λ (v : Ipv4FragKey). v.id) is, (ap (λ (v : Ipv4FragKey). v.src_addr) is, (ap (λ (v : Ipv4FragKey). v.dst_addr) is, ap (λ (v : Ipv4FragKey). v.protocol) is))))
    (Decides-and _ _ (unsigned_Decides a.id b.id) (Decides-and _ _ (is.ipv4_address a.src_addr b.src_addr) (Decides-and _ _ (is.ipv4_address a.dst_addr b.dst_addr) (is.ip_protocol a.protocol b.protocol))))
