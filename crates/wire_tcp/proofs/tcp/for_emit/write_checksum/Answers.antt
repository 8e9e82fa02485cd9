use Rattle.std.proofs.Common.{◌≡◌, ◌-◌, ◌++◌, ◌∙◌, drop, sym, ap, rules}
use Rattle.net_base.specs.Field.{with_field}
use Rattle.wire_tcp.specs.Tcp.{packet_bytes_mut, segment_sum}
use Rattle.wire_tcp.proofs.tcp.for_emit.write_checksum.Goals as goal

pub returns : goal.returns
returns c =
    let bytes = packet_bytes_mut c.args.packet.now in
    let src = c.args.src_addr.now in
    let dst = c.args.dst_addr.now in
    let sum : c.packet-sum.result ≡ segment_sum src dst (c.args.fixed.now ++ drop 20 bytes) = search rules in
    let all : c.packet-sum.result ≡ segment_sum src dst bytes = sum ∙ ap (segment_sum src dst) (sym c.requires.front) in
    record {
      same_borrow = cc;
      same_length = search rules;
      holds = search (rules, ap (λ n. with_field bytes 128 16 (65535 - n)) all);
    }
