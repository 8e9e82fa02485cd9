use Rattle.std.proofs.Common.{refl, rules, sym, ◌∙◌}
use Rattle.std.proofs.lemmas.Bool.{false≢true}
use Rattle.promises.proofs.calls.classes.scope_of_class.Goals as goal

pub returns-then-is_multicast : goal.returns-then-is_multicast
returns-then-is_multicast c =
    let member = c.is_multicast.ensures.0 c.if-is_multicast.true in
    record {
      multicast = λ _. search rules;
      link_local = λ apart _. absurd (apart member);
      global = λ apart _ _. absurd (apart member);
      other = λ apart _ _ _. absurd (apart member);
    }

pub returns-then-is_link_local : goal.returns-then-is_link_local
returns-then-is_link_local c =
    let member = c.is_link_local.ensures.0 c.if-is_link_local.true in
    record {
      multicast = λ is. absurd (false≢true (sym c.if-is_multicast.false ∙ c.is_multicast.ensures.1 is));
      link_local = λ _ _. refl;
      global = λ _ apart _. absurd (apart member);
      other = λ _ apart _ _. absurd (apart member);
    }
