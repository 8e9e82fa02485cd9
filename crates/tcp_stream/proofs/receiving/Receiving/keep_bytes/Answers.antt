use Rattle.std.proofs.Common.{sym, subst, arith, inl, inr, ◌+◌, length}
use Rattle.tcp_stream.specs.Ranges.{has, is_within}
use Rattle.tcp_stream.specs.Stands.{Stands}
use Rattle.tcp_stream.specs.declared.ranges.Ranges.{Ranges}
use Rattle.tcp_stream.proofs.Spans.{added_none, either, top_added, within_left, within_out, within_right}
use Rattle.tcp_stream.proofs.Keeping.{bytes_kept}
use Rattle.tcp_stream.proofs.receiving.Receiving.keep_bytes.Goals as goal

pub returns-then-not-add-clause-stands : goal.returns-then-not-add-clause-stands
returns-then-not-add-clause-stands c = λ w consumed which rest it stands.
    subst (λ (r : Ranges). Stands w consumed (record c.args.self.now { ranges = r }) c.args.ring.now) (sym (c.add.ensures.refused c.if-not-add.true)) stands

pub returns-clause-len : goal.returns-clause-len
returns-clause-len c =
    let most = top_added c.args.self.now.ranges c.add.new.self c.args.ahead (c.args.ahead + length c.args.bytes.now) (c.add.ensures.kept c.if-not-add.false) in
    omega (arith, c.requires.fits, c.requires.len)

pub returns-clause-stands : goal.returns-clause-stands
returns-clause-stands c = λ w consumed which rest it stands.
    let self = c.args.self.now in
    let to = c.args.ahead + length c.args.bytes.now in
    let known = c.add.ensures.kept c.if-not-add.false in
    bytes_kept w which c.args.ahead c.args.bytes.now rest consumed self c.args.ring.now c.put.new.buffer it stands c.requires.ahead c.requires.is_open c.requires.begin c.requires.fits c.requires.len c.requires.small c.put.ensures c.add.new.self c.args.ahead
    (λ n is. elim (either (has self.ranges n) (is_within c.args.ahead to n) _ (known n) is) [ inl before ↦ inl before | inr here ↦ inr (within_left c.args.ahead to n here, within_right c.args.ahead to n here) ])
    (added_none (has self.ranges 0) (is_within c.args.ahead to 0) _ (known 0) stands.keeps.gap (within_out c.args.ahead to 0 (inl c.requires.ahead)))
