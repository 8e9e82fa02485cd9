use Rattle.std.proofs.Common.{ℕ, ◌≡◌, ◌++◌, ◌∷◌, List, append_assoc, ap, subst, sym, ◌∙◌, arith, rules}
use Rattle.std.proofs.lemmas.Grind.{common_steps, put_two}
use Rattle.std.proofs.lemmas.List.{append-nil}
use Rattle.std.specs.Fmt.{HasWritten}
use Rattle.std.specs.Result.{IsOk}
use Rattle.wire_tcp_options.proofs.Items.{item_read}
use Rattle.wire_tcp.proofs.TcpTexts.{options_text-empty, options_text-item, options_text-malformed, options_text-mark, shown-item}
use Rattle.wire_tcp_options.specs.TcpOption.{Begins}
use Rattle.wire_tcp.specs.TcpText.{item_text, options_text, shown}
use Rattle.wire_tcp_options.specs.declared.tcp.option.TcpOption.{TcpOption}
use Rattle.wire_tcp.proofs.tcp.text.OptionsDisplay.fmt.Goals as goal
use Rattle.std.proofs.lemmas.Bool.Decides.{nat_tests}

pub loop-rest-preserved : goal.loop-rest-preserved
loop-rest-preserved g c =
    let (done, split, wrote) = c.loop-rest.invariant in
    let (i, is, reading, begins) = item_read c.in-Ok.option c.loop-rest.rest.now c.in-Ok.next.now c.in-Ok.ensures.ok c.in_default-option.not-EndOfList in
    let ok : IsOk c.write_option.result = search rules in (
      done ++ item_text i,
      split ∙ ap (λ (t : List ℕ). done ++ t) (options_text-item c.loop-rest.rest.now i c.in-Ok.next.now is begins)
          ∙ sym (append_assoc done (item_text i) (options_text c.in-Ok.next.now)),
      λ plain.
          let before = wrote plain in
          put_two g.W.Write.write_str_gives _ _ _ done (shown c.in-Ok.option) (done ++ item_text i) before
          (c.write_option.ensures before.plain ok) (ap (λ (t : List ℕ). done ++ t) (shown-item c.in-Ok.option i reading)),
    )

pub returns-in_default-clause-writes : goal.returns-in_default-clause-writes
returns-in_default-clause-writes g c = grind (arith, common_steps, nat_tests, put_two, options_text-malformed)

pub returns-after-loop-rest-clause-writes : goal.returns-after-loop-rest-clause-writes
returns-after-loop-rest-clause-writes g c = grind (arith, common_steps, nat_tests, options_text-empty, append-nil)

pub returns-in-EndOfList-clause-writes : goal.returns-in-EndOfList-clause-writes
returns-in-EndOfList-clause-writes g c =
    let (done, split, wrote) = c.loop-rest.invariant in
    let mark : c.loop-rest.rest.now ≡ 0 ∷ c.in-Ok.next.now =
    subst (λ (o : TcpOption). Begins o c.loop-rest.rest.now c.in-Ok.next.now) c.in-EndOfList.is c.in-Ok.ensures.ok in
    λ plain ok.
    subst (λ (t : List ℕ). HasWritten g.W.Write.write_str_gives c.args.f.now t c.loop-rest.f)
    (sym (split ∙ ap (λ (t : List ℕ). done ++ t) (options_text-mark c.loop-rest.rest.now c.in-Ok.next.now mark) ∙ append-nil done)) (wrote plain)
