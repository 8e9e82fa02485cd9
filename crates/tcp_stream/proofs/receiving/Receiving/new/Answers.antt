use Rattle.std.proofs.Common.{refl, arith, sym, ◌∙◌, []}
use Rattle.std.proofs.lemmas.Bool.{false≢true}
use Rattle.tcp_stream.proofs.receiving.Receiving.new.Goals as goal

pub returns-clause-stands : goal.returns-clause-stands
returns-clause-stands c = λ initial buffer. record {
  reached = record { initial = initial; events = []; is = refl };
  holds = record { is_open = refl; next = λ is. absurd (false≢true is); held = refl; ended = refl };
  keeps = record {
    gap = c.new.ensures.none 0;
    bytes = λ n some. absurd (false≢true (sym (c.new.ensures.none n) ∙ some));
    fin = λ some. absurd (omega arith);
    opened = λ n some. absurd (false≢true (sym (c.new.ensures.none n) ∙ some));
    opened_fin = λ some. absurd (omega arith);
  };
}
