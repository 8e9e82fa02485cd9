use Rattle.std.proofs.Common.{[], ◌∷◌, rules, subst}
use Rattle.app_fragment.specs.Datagram.{IsWhole}
use Rattle.app_fragment.proofs.Slots.{rest-kept}
use Rattle.app_fragment.proofs.partials.give_back.Goals as goal

pub returns-in-Some : goal.returns-in-Some
returns-in-Some c = record {
  whole = λ key of. subst (λ k. IsWhole k (c.args.packet.now ∷ []) c.in-Some.len c.write_alone.new.out) of.same c.in-Some.ensures.whole;
  least = c.in-Some.ensures.least;
  room = c.in-Some.ensures.room;
  rest = rest-kept _ c.args.out.now c.write_alone.new.out c.in-Some.len c.in-Some.ensures.bytes (search rules) c.in-Some.ensures.room;
}
