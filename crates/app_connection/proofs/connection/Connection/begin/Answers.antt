use Rattle.std.proofs.Common.{◌≡◌, refl, sym, subst, ℕ, List, [], ◌∷◌, length, arith}
use Rattle.tcp_stream.specs.Endpoint.{Item, Syn}
use Rattle.tcp_stream.specs.Network.{Send, happens, start, number_at}
use Rattle.tcp_stream.specs.Items.{items_of}
use Rattle.tcp_stream.specs.Waits.{Waits, from_of}
use Rattle.app_connection.proofs.Going.{fresh_stands}
use Rattle.app_connection.proofs.connection.Connection.begin.Goals as goal

pub returns-clause-waits : goal.returns-clause-waits
returns-clause-waits c =
    let w = start c.args.iss in
    let first : items_of c.segment.result.syn c.segment.result.payload.now c.segment.result.fin ≡ Syn ∷ [] = c.segment.ensures.first c.new-self.ensures.syn refl in
    let zero : from_of c.new-self.result 0 ≡ 0 = omega arith in
    subst (λ (l : List Item). Waits (happens w (Send 0 (length l))) c.segment.new.self c.args.outgoing.now) first
    (subst (λ (n : ℕ). Waits (happens w (Send n (length (items_of c.segment.result.syn c.segment.result.payload.now c.segment.result.fin)))) c.segment.new.self c.args.outgoing.now) zero
    (c.segment.ensures.waits w (c.new-self.ensures.waits c.args.outgoing.now)))

pub returns-clause-sent : goal.returns-clause-sent
returns-clause-sent c = record {
  which = 0;
  segment = record { place = 0; number = number_at c.args.iss 0; items = Syn ∷ [] };
  there = refl;
  same = omega arith;
  brings = refl;
  recent = omega arith;
}

pub returns-clause-begins : goal.returns-clause-begins
returns-clause-begins c = λ back buffer fresh. fresh_stands (start 0) back c.new-self-2.result buffer refl refl (c.new-self-2.ensures.stands 0 buffer) fresh

pub returns-clause-shut : goal.returns-clause-shut
returns-clause-shut c = sym (c.new-self-2.ensures.stands 0 []).holds.is_open
