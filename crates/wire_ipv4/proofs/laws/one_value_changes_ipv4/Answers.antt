use Rattle.std.proofs.Common.{ℕ, ◌<◌, ◌≤◌, ◌+◌, ◌⊎◌, false, inl, inr, arith, rules}
use Rattle.net_base.proofs.Spelled.{AreBytes}
use Rattle.net_base.specs.Field.{with_field}
use Rattle.wire_ipv4.specs.Ipv4.{Reads}
use Rattle.wire_ipv4.proofs.Ipv4Changed.{reads_checksum, reads-dst_addr, reads-hop_limit, reads-next_header, reads-no_value, reads-src_addr}
use Rattle.wire_ipv4.proofs.laws.one_value_changes_ipv4.Goals as goal

pub returns : goal.returns
returns c =
    let bytes = c.args.bytes.now in
    let v = c.args.value in
    let are : AreBytes bytes = λ i. (c.type_inv.bytes i).fits in
    let no_value : (first width x : ℕ) → 0 < width → ((8 ≤ first) × (first + width ≤ 16)) ⊎ ((32 ≤ first) × (first + width ≤ 64)) → Reads (with_field bytes first width x) false v =
    λ first width x some place. reads-no_value bytes first width x false v are some place c.requires in
    record {
      hop_limit = reads-hop_limit bytes c.args.octet false false v (search rules) c.requires (λ no. cc);
      next_header = reads-next_header bytes c.args.octet false false v (search rules) c.requires (λ no. cc);
      src_addr = reads-src_addr bytes c.args.address false false v (search rules) c.requires (λ no. cc);
      dst_addr = reads-dst_addr bytes c.args.address false false v (search rules) c.requires (λ no. cc);
      checksum = reads_checksum bytes c.args.word false false v c.requires (λ no. cc);
      dscp = no_value 8 6 c.args.octet (omega arith) (inl (omega arith, omega arith));
      ecn = no_value 14 2 c.args.octet (omega arith) (inl (omega arith, omega arith));
      ident = no_value 32 16 c.args.word (omega arith) (inr (omega arith, omega arith));
      dont_frag = no_value 49 1 c.args.word (omega arith) (inr (omega arith, omega arith));
      more_frags = no_value 50 1 c.args.word (omega arith) (inr (omega arith, omega arith));
      frag_offset = no_value 51 13 c.args.word (omega arith) (inr (omega arith, omega arith));
    }
