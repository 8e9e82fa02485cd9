-- A search for options, and a summary of them, has one result.
use Rattle.std.proofs.Common.{ℕ, ◌≡◌, List, Result, ap, sym, ◌∙◌}
use Rattle.net_base.specs.declared.error.Error.{Error}
use Rattle.wire_tcp_options.proofs.OptionLists.{one_list}
use Rattle.wire_tcp_options.proofs.Walks.{one_long_walk}
use Rattle.wire_tcp_options.specs.TcpItems.{Item}
use Rattle.wire_tcp_options.specs.TcpSummary.{Summarizes, summary_of}
use Rattle.wire_tcp_options.specs.TcpWalk.{Answers, answer_of, first_of}
use Rattle.wire_tcp_options.specs.declared.tcp.summary.TcpOptionSummary.{TcpOptionSummary}

pub one_answer : {A : Type 0} (bytes : List ℕ) (kind : ℕ) (value : Item → A) (default : A) (a b : Result A Error)
    → Answers bytes kind value default a → Answers bytes kind value default b → a ≡ b
one_answer bytes kind value default a b (marks, rest, walk, is) (others, left, other, also) =
    let (same_marks, same_rest) = one_long_walk bytes marks others rest left walk other in
    is ∙ ap (λ ms. answer_of value default (first_of kind ms) rest) same_marks
    ∙ ap (λ r. answer_of value default (first_of kind others) r) same_rest ∙ sym also

pub one_summary : (bytes : List ℕ) (a b : TcpOptionSummary) → Summarizes bytes a → Summarizes bytes b → a ≡ b
one_summary bytes a b (items, tail, list, is) (others, left, other, also) =
    is ∙ ap summary_of (one_list bytes items others tail left list other).0 ∙ sym also
