use Rattle.std.proofs.Common.{◌∙◌, arith}
use Rattle.wire_ipv6.proofs.Ipv6FragmentEmitted.{flag-small, with_header}
use Rattle.wire_ipv6.specs.Ipv6Fragment.{flag}
use Rattle.wire_ipv6.proofs.ipv6fragment.repr.Ipv6FragmentRepr.emit.Goals as goal

pub returns : goal.returns
returns c =
    let v = c.args.self.now in
    let old = c.args.header.now.buffer.now in
    let whole = with_header old v.frag_offset (flag v.more_frags) v.ident (flag-small v.more_frags) c.requires in
    record {
      same_borrow = cc;
      same_length = omega arith;
      holds = c.set_ident.ensures.holds ∙ rw (c.set_more_frags.ensures.holds, c.set_frag_offset.ensures.holds, c.clear_reserved.ensures.holds) whole;
    }
