use Rattle.std.proofs.Common.{◌≡◌, ◌+◌, ◌*◌, length, arith, subst₂, sym}
use Rattle.app_router.proofs.Elements.{counted}
use Rattle.app_router.proofs.TableParts.{hints_between, parts, table}
use Rattle.app_router.specs.Table.{AreHints}
use Rattle.app_router.proofs.table.fill.Goals as goal

pub returns-clause-table : goal.returns-clause-table
returns-clause-table c blocks index =
    let ranges = c.list_ranges.ensures.ranges blocks index in
    let count : length blocks ≡ length c.args.nodes.now = counted blocks c.args.nodes.now index in
    let entries_len : length c.enter.new.parts ≡ 2 * (length blocks + 1) = omega (arith, count, c.enter.ensures.parts_len, c.split_at_mut-parts.ensures.front_len) in
    let hints_len : length c.enter.new.hints ≡ length blocks + 1 = omega (arith, count, c.enter.ensures.hints_len, c.split_at_mut-hints.ensures.front_len) in
    let ranges_len : length c.list_ranges.new.ranges ≡ 2 * (length blocks + 1) =
    omega (arith, count, c.list_ranges.ensures.len, c.split_at_mut-hints.ensures.back_len, c.split_at_mut-parts.ensures.back_len, c.requires.len) in
    table blocks c.enter.new.parts c.enter.new.hints c.list_ranges.new.ranges entries_len hints_len ranges_len
    (parts blocks c.list_ranges.new.ranges c.enter.new.parts ranges c.enter.ensures.entries)
    (λ p below undivided. c.enter.ensures.filled c.list_ranges.ensures.first p below
    (λ k inside. let few = c.list_ranges.ensures.few blocks index k inside in
    (c.list_ranges.ensures.beside blocks index (2 * length c.enter.new.parts) p undivided k inside, omega (arith, few, count, c.requires.few))))
    ranges

pub returns-clause-hints : goal.returns-clause-hints
returns-clause-hints c =
    let n = length c.args.nodes.now in
    let entries_len : length c.enter.new.parts ≡ 2 * (n + 1) = omega (arith, c.enter.ensures.parts_len, c.split_at_mut-parts.ensures.front_len) in
    let hints_len : length c.enter.new.hints ≡ n + 1 = omega (arith, c.enter.ensures.hints_len, c.split_at_mut-hints.ensures.front_len) in
    let ranges_len : length c.list_ranges.new.ranges ≡ 2 * (n + 1) =
    omega (arith, c.list_ranges.ensures.len, c.split_at_mut-hints.ensures.back_len, c.split_at_mut-parts.ensures.back_len, c.requires.len) in
    subst₂ AreHints ranges_len (sym (hints_between n c.enter.new.parts c.enter.new.hints c.list_ranges.new.ranges entries_len hints_len)) c.enter.ensures.hints
