-- The table that is written.
use Rattle.std.proofs.Common.{ℕ, ℤ, pos, ◌≡◌, ◌∙◌, ◌+◌, ◌*◌, ◌++◌, List, MatchOption, None, ap, arith, drop, length, subst, sym}
use Rattle.std.proofs.Math.Seq.{drop-append_seam}
use Rattle.app_router.proofs.Elements.{counted}
use Rattle.app_router.proofs.TableParts.{hints_before, longer}
use Rattle.app_router.specs.Index.{IsIndex}
use Rattle.app_router.specs.Table.{AreHints, IsTable, hints_in}
use Rattle.app_router.specs.declared.index.Node.{Node}
use Rattle.ip_wire.specs.declared.IpCidr.{IpCidr}
use Rattle.c_structs.specs.Written.{failure_code}
use Rattle.c_routing.specs.Routes.{MakesTable, WritesTable, table_failure, table_len}

pub table-written : (nodes : List Node) (old made : List ℕ) (len : ℕ) (answer : ℤ) → table_failure nodes (length old) ≡ None → len ≡ table_len nodes → length made ≡ len
    → ((blocks : List IpCidr) → IsIndex blocks nodes → IsTable blocks made) → AreHints (2 * (length nodes + 1)) (hints_in (length nodes) made)
    → answer ≡ pos len → MakesTable nodes old (made ++ drop len old) answer
table-written nodes old made len answer none long same table hints is =
    let rest = drop len old in
    let new = made ++ rest in
    let following : drop (table_len nodes) new ≡ drop (table_len nodes) old =
    subst (λ n. drop n new ≡ drop n old) long (subst (λ n. drop n new ≡ rest) same (drop-append_seam made rest)) in
    subst (λ o. MatchOption o (WritesTable nodes old new answer) (λ why. (answer ≡ failure_code why) × (new ≡ old))) (sym none) (record {
      count = is ∙ ap pos long;
      table = λ routes of. record {
        blocks = of.blocks;
        listed = of.listed;
        index = of.index;
        table = longer of.blocks made rest (omega (arith, same, long, counted of.blocks nodes of.index)) (table of.blocks of.index);
      };
      hints = subst (AreHints (2 * (length nodes + 1))) (sym (hints_before (length nodes) made rest (omega (arith, same, long)))) hints;
      following = following;
    })
