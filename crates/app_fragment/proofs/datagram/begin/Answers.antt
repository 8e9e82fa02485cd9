use Rattle.std.proofs.Common.{inl, refl, ◌≡◌, IsTrue, false, arith}
use Rattle.app_fragment.proofs.Collected.{none_len}
use Rattle.app_fragment.proofs.datagram.begin.Goals as goal

pub returns-clause-empty : goal.returns-clause-empty
returns-clause-empty c = λ buffer.
    let is = c.clear.ensures buffer in
    let none : c.clear.result.len ≡ 0 = none_len c.clear.result.len is.reached.ended in
    record {
      all = tt;
      assembles = is;
      header = inl (refl, tt);
      within = omega (arith, none);
      inside = tt;
      fits = omega (arith, none);
      ce = (λ some. absurd (some refl), λ (bad : IsTrue false). absurd (cc));
      not_ect = (λ some. absurd (some refl), λ (bad : IsTrue false). absurd (cc));
      unmixed = λ m. let bad : IsTrue false = m.0 in cc;
    }
