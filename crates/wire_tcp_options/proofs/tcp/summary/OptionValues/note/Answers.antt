use Rattle.std.proofs.Common.{◌≡◌, ◌∙◌, ℕ, Some, ap, arith, drop, rules}
use Rattle.byteorder.specs.Endian.{big_number}
use Rattle.wire_tcp_options.proofs.Items.{take_left}
use Rattle.wire_tcp_options.proofs.Summaries.{noted, noted_other, noted_stamp, only_byte}
use Rattle.wire_tcp_options.specs.TcpItems.{item}
use Rattle.wire_tcp_options.specs.TcpSummary.{summary_in}
use Rattle.wire_tcp_options.proofs.tcp.summary.OptionValues.note.Goals as goal

pub returns-in-2-clause-values : goal.returns-in-2-clause-values
returns-in-2-clause-values c = λ xs e.
    let read : c.read_u16.result ≡ big_number 2 c.args.content.now = search rules in
    ap (λ (n : ℕ). record (summary_in c.args.self.now) { max_segment_size = Some n }) read ∙ noted _ xs (item c.args.kind c.args.content.now) 2 e c.in-2.is

pub returns-in-3-clause-values : goal.returns-in-3-clause-values
returns-in-3-clause-values c = λ xs e.
    ap (λ (n : ℕ). record (summary_in c.args.self.now) { window_scale = Some n }) (only_byte c.args.content.now (c.requires.item.window_scale c.in-3.is))
    ∙ noted _ xs (item c.args.kind c.args.content.now) 3 e c.in-3.is

pub returns-in-4-clause-values : goal.returns-in-4-clause-values
returns-in-4-clause-values c = λ xs e. noted _ xs (item c.args.kind c.args.content.now) 4 e c.in-4.is

pub returns-in-5-clause-values : goal.returns-in-5-clause-values
returns-in-5-clause-values c = λ xs e. noted _ xs (item c.args.kind c.args.content.now) 5 e c.in-5.is

pub returns-in-8-clause-values : goal.returns-in-8-clause-values
returns-in-8-clause-values c = λ xs e.
    let first : c.read_u32-tsval.result ≡ big_number 4 c.args.content.now = search rules in
    let second : c.read_u32-tsecr.result ≡ big_number 4 (drop 4 c.args.content.now) = simp take_left at c.read_u32-tsecr.ensures in
    rw (first, second) (noted_stamp _ xs (item c.args.kind c.args.content.now) e c.in-8.is c.if-content-eq8.true)

pub returns-else-content-eq8-clause-values : goal.returns-else-content-eq8-clause-values
returns-else-content-eq8-clause-values c = λ xs e. noted_other _ xs (item c.args.kind c.args.content.now) e (omega arith) (λ _. c.if-content-eq8.false)

pub returns-clause-values : goal.returns-clause-values
returns-clause-values c = λ xs e. noted_other _ xs (item c.args.kind c.args.content.now) e (omega arith) (λ k. absurd (omega arith))

pub returns-in-5-clause-whole : goal.returns-in-5-clause-whole
returns-in-5-clause-whole c = λ _. let (n, some, whole) = c.requires.item.sack_ranges c.in-5.is in omega (arith, whole)
