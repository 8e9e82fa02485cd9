use Rattle.std.proofs.Common.{◌≡◌, ◌<◌, ◌∙◌, length, arith, rules}
use Rattle.net_base.proofs.Written.{length-written}
use Rattle.wire_ipv6.proofs.Ipv6Emitted.{IsInRange, written-bytes_of}
use Rattle.wire_addr.specs.Protocol.{number_of}
use Rattle.wire_ipv6.proofs.ipv6.repr.Ipv6Repr.emit.Goals as goal

pub returns : goal.returns
returns c =
    let v = c.args.self.now in
    let old = c.args.packet.now.buffer in
    let before = c.set_next_header.new.self.buffer in
    let between = c.set_src_addr.new.self.buffer in
    let src : length v.src_addr ≡ 16 = let e = length-written before between 8 24 v.src_addr (omega arith) (omega arith) c.set_src_addr.ensures in omega arith in
    let dst : length v.dst_addr ≡ 16 = let e = length-written between c.set_dst_addr.new.self.buffer 24 40 v.dst_addr (omega arith) (omega arith) c.set_dst_addr.ensures in omega arith in
    let number : number_of v.next_header < 256 = search rules in
    let in_range : IsInRange v = record {
      src_addr = src;
      dst_addr = dst;
      next_header = number;
      payload_len = c.requires.payload_len;
      hop_limit = search rules;
    } in
    let whole = written-bytes_of old.now v c.requires.room in_range in
    record {
      same_borrow = cc;
      same_length = omega arith;
      holds = c.set_dst_addr.ensures.holds
          ∙ rw (
            c.set_src_addr.ensures.holds,
            c.set_next_header.ensures.holds,
            c.set_hop_limit.ensures.holds,
            c.set_payload_len.ensures.holds,
            c.set_first_word.ensures.holds,
          ) whole;
    }
