use Rattle.std.proofs.Common.{◌≡◌, ◌≤◌, ◌%◌, ◌==◌, inr, rules, sym, ◌∙◌, ap, slice_range, take, length, arith}
use Rattle.ip_wire.specs.Field.{field}
use Rattle.ip_wire.specs.Ipv4 as ipv4
use Rattle.ip_wire.specs.Ipv6 as ipv6
use Rattle.ip_wire.specs.Ipv6Fragment.{frag_offset_of, header_bytes, more_frags_of}
use Rattle.ip_wire.proofs.Readings.{flag_test}
use Rattle.app_fragment.proofs.Versions.{class_ecn, has_place, six}
use Rattle.app_fragment.specs.Fragments.{fragment}
use Rattle.app_fragment.specs.Ipv4Fragments as v4
use Rattle.app_fragment.specs.Parts.{IsIpv6, ipv4_key, ipv6_fragment, ipv6_key}
use Rattle.app_fragment.proofs.part.ipv6_part.Goals as goal

pub returns-clause-reads : goal.returns-clause-reads
returns-clause-reads c =
    let p = c.args.packet.now in
    let v : IsIpv6 c.args.packet.now = c.has_fragment_header.ensures.0 c.if-not-has_fragment_header.false in
    let room : 48 ≤ length c.args.packet.now = omega (arith, v.lengths, v.whole) in
    let start : c.part_header_len-start.result ≡ 48 = c.part_header_len-start.ensures ∙ six p _ _ v.version in
    let view : ipv6.packet_bytes c.new_unchecked-view.result ≡ c.args.packet.now = search rules in
    let part : header_bytes c.new_unchecked-fragment.result ≡ slice_range c.args.packet.now 42 c.part_header_len-start.result = search rules in
    let fields : header_bytes c.new_unchecked-fragment.result ≡ slice_range c.args.packet.now 42 48 = part ∙ ap (λ n. slice_range c.args.packet.now 42 n) start in
    let place = has_place c.args.packet.now room in
    let first : c.from.result ≡ field c.args.packet.now 336 13 = c.from.ensures ∙ c.frag_offset.ensures ∙ ap frag_offset_of fields ∙ place.first in
    let more : c.more_frags.result ≡ (field c.args.packet.now 351 1 == 1) =
    flag_test c.more_frags.result (more_frags_of (header_bytes c.new_unchecked-fragment.result)) c.more_frags.ensures
    ∙ ap (λ n. n == 1) (ap more_frags_of fields ∙ place.more) in
    let total : c.total_len.result ≡ ipv6.total_len c.args.packet.now = c.total_len.ensures ∙ ap ipv6.total_len view in
    let read : fragment c.from.result c.more_frags.result (slice_range c.args.packet.now c.part_header_len-start.result c.total_len.result) ≡ ipv6_fragment c.args.packet.now =
    λ i. record { first = first i; more = more i; bytes = slice_range c.args.packet.now (start i) (total i) } in
    record {
      valid = record { valid = inr v; same = six p (ipv4_key p) (ipv6_key p) v.version ∙ sym c.ipv6_key.ensures };
      fragment = read ∙ sym (six p (v4.fragment_of p) (ipv6_fragment p) v.version);
      ecn =
          ap (λ n. n % 4) (c.traffic_class.ensures ∙ ap (λ b. field b 4 8) view) ∙ class_ecn c.args.packet.now (omega (arith, room))
          ∙ sym (six p (ipv4.ecn_of p) (field p 10 2) v.version);
      header = ap (λ n. take n c.args.packet.now) c.part_header_len-start.ensures;
    }
