use Rattle.std.proofs.Common.{ℕ, List, ◌≡◌, ◌∙◌, ◌+◌, ◌*◌, ◌/◌, ◌^◌, ◌≤◌, ◌-◌, length, rules, take, ap₂, subst, sym, arith}
use Rattle.std.proofs.lemmas.List.{length-take-le}
use Rattle.app_router.specs.Table.{AreEnough, AreFilled, AreParts, IsAnswer, IsInPart, IsUndivided, entries_in, half_at}
use Rattle.ip_wire.specs.Prefix.{number_of}
use Rattle.ip_wire.specs.declared.IpAddress.TheVariants.{Ipv4}
use Rattle.app_router.proofs.table.answer.Goals as goal

pub returns-then-entry-ge-WHOLE-clause-answer : goal.returns-then-entry-ge-WHOLE-clause-answer
returns-then-entry-ge-WHOLE-clause-answer c blocks are_so_many table bytes are same =
    let cells = c.args.cells.now in
    let unit = c.args.count + 1 in
    let parts = take (2 * unit) cells in
    let enough : AreEnough blocks cells = omega (arith, are_so_many, c.if-cells-len.false, c.len.ensures, c.if-count-gt-MAX_ROUTES.false) in
    let is_table : AreParts blocks parts = subst (λ n. AreParts blocks (entries_in n cells)) are_so_many (table.parts enough) in
    let len : length parts ≡ 2 * unit = length-take-le (2 * unit) cells (omega (arith, c.if-cells-len.false, c.len.ensures, c.if-count-gt-MAX_ROUTES.false)) in
    let count : 2 * length parts ≡ 4 * unit = omega (arith, len) in
    let is : c.from.result ≡ number_of bytes = c.from.ensures ∙ sym same in
    let p = c.from.result * (4 * unit) / 2 ^ 32 in
    let inside : IsInPart (2 * length parts) p (number_of bytes) = ap₂ (λ a n. a * n / 2 ^ 32) (sym is) count in
    let entry : c.half-entry.result ≡ half_at parts p = subst (λ (l : List ℕ). c.half-entry.result ≡ half_at l p) c.split_at.ensures.front c.half-entry.ensures in
    subst (λ e. IsAnswer blocks (Ipv4 bytes) (e - 2 ^ 31)) (sym entry)
    (is_table p (search rules) (subst (λ e. 2 ^ 31 ≤ e) entry c.if-entry-ge-WHOLE.true) bytes are inside)

pub returns-clause-some : goal.returns-clause-some
returns-clause-some c blocks are_so_many small table enough undivided =
    let cells = c.args.cells.now in
    let unit = c.args.count + 1 in
    let parts = take (2 * unit) cells in
    let are_filled : AreFilled blocks parts = subst (λ n. AreFilled blocks (entries_in n cells)) are_so_many (table.filled enough) in
    let len : length parts ≡ 2 * unit = length-take-le (2 * unit) cells (omega (arith, c.if-cells-len.false, c.len.ensures, c.if-count-gt-MAX_ROUTES.false)) in
    let count : 2 * length parts ≡ 4 * unit = omega (arith, len) in
    let p = c.from.result * (4 * unit) / 2 ^ 32 in
    let of_addr : IsUndivided blocks (4 * unit) p = subst (λ a. IsUndivided blocks (4 * unit) (a * (4 * unit) / 2 ^ 32)) (sym c.from.ensures) undivided in
    let entry : c.half-entry.result ≡ half_at parts p = subst (λ (l : List ℕ). c.half-entry.result ≡ half_at l p) c.split_at.ensures.front c.half-entry.ensures in
    let whole : 2 ^ 31 ≤ half_at parts p = are_filled p (search rules) (subst (λ n. IsUndivided blocks n p) (sym count) of_addr) in
    absurd (omega (arith, whole, entry, c.if-entry-ge-WHOLE.false))
