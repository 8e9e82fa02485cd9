use Rattle.std.proofs.Common.{rules}
use Rattle.wire_ipv6.proofs.Ipv6Changed.{reads-dst_addr, reads-hop_limit, reads-next_header, reads-payload_len, reads-src_addr, reads-unread}
use Rattle.wire_ipv6.proofs.laws.one_value_changes_ipv6.Goals as goal

pub returns : goal.returns
returns c =
    let bytes = c.args.bytes.now in
    record {
      hop_limit = reads-hop_limit bytes c.args.octet c.args.value (search rules) c.requires;
      next_header = reads-next_header bytes c.args.octet c.args.value (search rules) c.requires;
      src_addr = reads-src_addr bytes c.args.address c.args.value (search rules) c.requires;
      dst_addr = reads-dst_addr bytes c.args.address c.args.value (search rules) c.requires;
      payload_len = λ len small fits. reads-payload_len bytes len c.args.value small fits c.requires;
      unread = λ first width x some low high. reads-unread bytes first width x c.args.value (λ i. (c.type_inv.bytes i).fits) some low high c.requires;
    }
