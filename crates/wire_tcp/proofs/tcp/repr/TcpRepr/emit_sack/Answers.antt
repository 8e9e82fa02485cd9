use Rattle.std.proofs.Common.{◌∙◌, sym, ap, subst, ◌+◌, arith, List, ℕ}
use Rattle.net_base.specs.Field.{with_range}
use Rattle.net_base.specs.Borrow.{Holds}
use Rattle.wire_tcp.specs.TcpRepr.{header_of}
use Rattle.wire_tcp.proofs.TcpEmitted.{length-ranges, texts-ranges}
use Rattle.wire_tcp.proofs.tcp.repr.TcpRepr.emit_sack.Goals as goal

pub write_option-requires-then-count_ranges-ne0-clause-room : goal.write_option-requires-then-count_ranges-ne0-clause-room
write_option-requires-then-count_ranges-ne0-clause-room c =
    let long = length-ranges (header_of c.args.self.now) c.if-self.false (sym c.is_some.ensures ∙ c.if-is_some.true) (λ e. c.if-count_ranges-ne0.true (c.count_ranges.ensures.count ∙ e)) in
    let room = c.requires in
    omega (arith, long, room)

pub returns-then-count_ranges-ne0-clause-end : goal.returns-then-count_ranges-ne0-clause-end
returns-then-count_ranges-ne0-clause-end c =
    let long = length-ranges (header_of c.args.self.now) c.if-self.false (sym c.is_some.ensures ∙ c.if-is_some.true) (λ e. c.if-count_ranges-ne0.true (c.count_ranges.ensures.count ∙ e)) in
    c.write_option-then-count_ranges-ne0.ensures.end ∙ ap (λ (n : ℕ). c.args.at + n) (sym long)

pub returns-then-count_ranges-ne0-clause-written : goal.returns-then-count_ranges-ne0-clause-written
returns-then-count_ranges-ne0-clause-written c =
    let is = texts-ranges (header_of c.args.self.now) c.if-self.false (sym c.is_some.ensures ∙ c.if-is_some.true) (λ e. c.if-count_ranges-ne0.true (c.count_ranges.ensures.count ∙ e)) in
    let r = c.write_option-then-count_ranges-ne0 in
    subst (λ (t : List ℕ). Holds c.args.packet.now.buffer r.new.packet.buffer (with_range c.args.packet.now.buffer.now c.args.at r.result t)) is r.ensures.written
