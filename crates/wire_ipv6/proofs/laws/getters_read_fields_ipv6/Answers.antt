use Rattle.std.proofs.Common.{◌≡◌, ℕ, List, length, rules, subst, sym, ap, ◌∙◌, arith}
use Rattle.std.specs.Int.{w128, from_be_bytes}
use Rattle.byteorder.specs.Endian.{big_number}
use Rattle.wire_addr.proofs.Numbers.{from_be_bytes_16}
use Rattle.wire_addr.specs.Prefix.{number_of}
use Rattle.net_base.proofs.Ranges.{range-number}
use Rattle.net_base.proofs.Spelled.{AreBytes}
use Rattle.wire_ipv6.specs.Ipv6.{packet_bytes}
use Rattle.wire_ipv6.specs.Ipv6Fields.{got}
use Rattle.wire_ipv6.specs.declared.laws.Ipv6Getting.{Ipv6Getting}
use Rattle.wire_ipv6.proofs.laws.getters_read_fields_ipv6.Goals as goal

by_sixteen : (xs : List ℕ) → from_be_bytes w128 xs ≡ big_number 16 xs
by_sixteen xs = omega arith

-- the big-endian number of sixteen bytes
spelled : (xs : List ℕ) → length xs ≡ 16 → number_of xs ≡ big_number 16 xs
spelled xs sixteen = sym (from_be_bytes_16 xs sixteen) ∙ by_sixteen xs

pub returns-in-SrcAddr : goal.returns-in-SrcAddr
returns-in-SrcAddr c =
    let are : AreBytes (packet_bytes c.args.packet.now) = subst AreBytes c.as_bytes.ensures c.bytes_fit.ensures in
    let sixteen : length c.src_addr.result ≡ 16 = search rules in
    subst (λ (g : Ipv6Getting). c.to_bits.result ≡ got g (packet_bytes c.args.packet.now)) (sym c.in-SrcAddr.is)
    (c.to_bits.ensures.value ∙ spelled c.src_addr.result sixteen ∙ ap (big_number 16) c.src_addr.ensures ∙ range-number (packet_bytes c.args.packet.now) 8 16 are)

pub returns-in-DstAddr : goal.returns-in-DstAddr
returns-in-DstAddr c =
    let are : AreBytes (packet_bytes c.args.packet.now) = subst AreBytes c.as_bytes.ensures c.bytes_fit.ensures in
    let sixteen : length c.dst_addr.result ≡ 16 = search rules in
    subst (λ (g : Ipv6Getting). c.to_bits-in-DstAddr.result ≡ got g (packet_bytes c.args.packet.now)) (sym c.in-DstAddr.is)
    (c.to_bits-in-DstAddr.ensures.value ∙ spelled c.dst_addr.result sixteen ∙ ap (big_number 16) c.dst_addr.ensures ∙ range-number (packet_bytes c.args.packet.now) 24 16 are)
