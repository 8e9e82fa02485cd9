-- One table is made of an index, and by it the same route is chosen.
use Rattle.std.proofs.Common.{ℕ, ℤ, ◌≡◌, ◌+◌, ◌*◌, ◌<◌, ◌≤◌, ◌&&◌, ◌^◌, Bool, true, List, MatchOption, Option, None, Some, ap, arith, if◌then◌else◌, length, nat_le, nat_lt, rules, subst, subst₂, sym}
use Rattle.app_router.proofs.Elements.{counted}
use Rattle.app_router.specs.Table.{IsTable}
use Rattle.app_router.specs.declared.index.Node.{Node}
use Rattle.ip_wire.specs.declared.IpCidr.{IpCidr}
use Rattle.promises_c.proofs.RoutesOnce.{IsSame, written_once}
use Rattle.c_routing.proofs.Tables.{in_bounds-itself}
use Rattle.c_routing.specs.Lengths.{in_bounds}
use Rattle.c_routing.specs.Routes.{IsIndexOf, IsTableOf, MakesTable, WritesTable, table_failure, table_len}
use Rattle.c_routing.specs.declared.routes.Route.{Route}
use Rattle.c_structs.specs.Written.{failure_code, max_len}
use Rattle.c_structs.specs.declared.failures.Failure.{Failure}
use Rattle.c_structs.specs.declared.failures.Failure.TheVariants as failure

-- ---- the table

pub makes_once : (nodes : List Node) (old new other : List ℕ) (a b : ℤ) → MakesTable nodes old new a → MakesTable nodes old other b
    → IsSame (table_len nodes) new other a b
makes_once nodes old new other a b =
    written_once (table_len nodes) (table_failure nodes (length old)) old new other a b (WritesTable nodes old) (λ list answer v. (v.count, v.following))

-- ---- its room

-- whether an index has a table in so many cells
abbrev has_table : ℕ → ℕ → Bool
has_table count room = nat_lt count (2 ^ 26) && nat_le (5 * (count + 1)) room && nat_le room max_len

fitting : (count room : ℕ) → count < 67108864 → 5 * (count + 1) ≤ room → room ≤ max_len → has_table count room ≡ true
fitting count room fewer fits short = grind arith

abbrev failure_if : Bool → Option Failure
failure_if fits = if fits then None else Some failure.NoRoom

-- the cells of such an index are the table of its routes
pub made : (routes : List Route) (nodes : List Node) (old new : List ℕ) (answer : ℤ) → IsIndexOf routes nodes → length nodes < 67108864
    → table_len nodes ≤ length old → length old ≤ max_len → length new ≡ length old → MakesTable nodes old new answer → IsTableOf routes (in_bounds nodes) (in_bounds new)
made routes nodes old new answer index fewer room short same v =
    let why : table_failure nodes (length old) ≡ None = ap failure_if (fitting (length nodes) (length old) fewer room short) in
    let written : WritesTable nodes old new answer =
    subst (λ o. MatchOption o (WritesTable nodes old new answer) (λ w. (answer ≡ failure_code w) × (new ≡ old))) why v in
    subst₂ (IsTableOf routes) (sym (in_bounds-itself nodes (omega (arith, fewer)))) (sym (in_bounds-itself new (omega (arith, short, same)))) (written.table routes index)

pub short_index : (routes : List Route) (nodes : List Node) → length nodes < 67108864 → IsIndexOf routes nodes → IsIndexOf routes (in_bounds nodes)
short_index routes nodes fewer index = subst (IsIndexOf routes) (sym (in_bounds-itself nodes (omega (arith, fewer)))) index

-- ---- fewer cells

not-enough : (blocks : List IpCidr) (cells : List ℕ) → length cells < 5 * (length blocks + 1) → IsTable blocks cells
not-enough blocks cells fewer = record {
  parts = λ enough. absurd (omega (arith, fewer, enough));
  filled = λ enough. absurd (omega (arith, fewer, enough));
  ranges = λ enough. absurd (omega (arith, fewer, enough));
}

no-more : (cells : List ℕ) → length (in_bounds cells) ≤ length cells
unfolding in_bounds
no-more cells = search rules

pub too_few_cells : (routes : List Route) (nodes : List Node) (cells : List ℕ) → length cells < table_len nodes → IsIndexOf routes nodes
    → IsTableOf routes nodes (in_bounds cells)
too_few_cells routes nodes cells fewer index =
    let less : length (in_bounds cells) < 5 * (length index.blocks + 1) = omega (arith, fewer, no-more cells, counted index.blocks nodes index.index) in
    record { blocks = index.blocks; listed = index.listed; index = index.index; table = not-enough index.blocks (in_bounds cells) less }
