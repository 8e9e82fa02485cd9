-- The SACK blocks tell what came.
use Rattle.std.proofs.Common.{◌≡◌, ◌∙◌, sym, ℕ, ◌+◌, ◌%◌, ◌<◌, List, ◌∷◌, true, false, length, get_or, arith}
use Rattle.std.specs.Prelude.{◌==◌, Option, None, Some}
use Rattle.std.proofs.lemmas.Bool.{cond_both, cases_lt, false≢true}
use Rattle.std.proofs.lemmas.Bool.Decides.{nat_tests}
use mathlib.Core.Logic.{inl, inr}
use Rattle.tcp_stream.specs.Network.{World, number_at}
use Rattle.tcp_stream.specs.Ranges.{has, covers, order_of, block_of, blocks_of}
use Rattle.tcp_stream.specs.Ring.{ring}
use Rattle.tcp_stream.specs.Stands.{Stands, AreTold, IsTold}
use Rattle.tcp_stream.proofs.Standing.{reached_good}
use Rattle.tcp_stream.proofs.Spans.{range-ordered, within_in, has_first, has_second, has_third, has_fourth, has_fifth, has_sixth, has_seventh, has_eighth}
use Rattle.tcp_stream.specs.declared.ranges.Range.{Range}
use Rattle.tcp_stream.specs.declared.ranges.Ranges.{Ranges}
use Rattle.tcp_stream.specs.declared.receiving.Receiving.{Receiving}

-- what the three ranges have is kept
record Among (s : Ranges) (t : Range × Range × Range) : Type 0 where
  one : (n : ℕ) → covers t.0 n ≡ true → has s n ≡ true
  two : (n : ℕ) → covers t.1 n ≡ true → has s n ≡ true
  three : (n : ℕ) → covers t.2 n ≡ true → has s n ≡ true

among : (s : Ranges) (a b c : Range) → ((n : ℕ) → covers a n ≡ true → has s n ≡ true) → ((n : ℕ) → covers b n ≡ true → has s n ≡ true) → ((n : ℕ) → covers c n ≡ true → has s n ≡ true) → Among s (a, b, c)
among s a b c one two three = record { one = one; two = two; three = three }

ordered : (s : Ranges) (newest : ℕ) → Among s (order_of s newest)
unfolding order_of
ordered s newest = cond_both (covers s.second newest) _ _ (λ (t : Range × Range × Range). Among s t) (λ here. among s s.second s.first s.third (λ n. has_second s n) (λ n. has_first s n) (λ n. has_third s n)) (λ not_second. cond_both (covers s.third newest) _ _ (λ (t : Range × Range × Range). Among s t) (λ here. among s s.third s.first s.second (λ n. has_third s n) (λ n. has_first s n) (λ n. has_second s n)) (λ not_third. cond_both (covers s.fourth newest) _ _ (λ (t : Range × Range × Range). Among s t) (λ here. among s s.fourth s.first s.second (λ n. has_fourth s n) (λ n. has_first s n) (λ n. has_second s n)) (λ not_fourth. cond_both (covers s.fifth newest) _ _ (λ (t : Range × Range × Range). Among s t) (λ here. among s s.fifth s.first s.second (λ n. has_fifth s n) (λ n. has_first s n) (λ n. has_second s n)) (λ not_fifth. cond_both (covers s.sixth newest) _ _ (λ (t : Range × Range × Range). Among s t) (λ here. among s s.sixth s.first s.second (λ n. has_sixth s n) (λ n. has_first s n) (λ n. has_second s n)) (λ not_sixth. cond_both (covers s.seventh newest) _ _ (λ (t : Range × Range × Range). Among s t) (λ here. among s s.seventh s.first s.second (λ n. has_seventh s n) (λ n. has_first s n) (λ n. has_second s n)) (λ not_seventh. cond_both (covers s.eighth newest) _ _ (λ (t : Range × Range × Range). Among s t) (λ here. among s s.eighth s.first s.second (λ n. has_eighth s n) (λ n. has_first s n) (λ n. has_second s n)) (λ not_eighth. among s s.first s.second s.third (λ n. has_first s n) (λ n. has_second s n) (λ n. has_third s n))))))))

module _ (w : World) (consumed : List ℕ) (c : Receiving) (b : List ℕ) (stands : Stands w consumed c b) where
  is_told : (r : Range) → ((n : ℕ) → covers r n ≡ true → has c.ranges n ≡ true) → r.from < r.to → IsTold w ((c.next + r.from) % 4294967296, (c.next + r.to) % 4294967296)
  is_told r inside some =
      let good = reached_good w stands.reached in
      let here : has c.ranges r.from ≡ true = inside r.from (within_in r.from r.to r.from (omega arith) some) in
      let is_open : c.is_open ≡ true = stands.keeps.opened r.from here in
      let next : c.next ≡ number_at w.initial (length w.receiver.got) = stands.holds.next is_open ∙ good.knows.0 (stands.holds.is_open ∙ is_open) in
      record {
        from = r.from;
        to = r.to;
        after = elim (cases_lt 0 r.from) [
          | inl more ↦ more
          | inr none ↦ absurd (false≢true (sym stands.keeps.gap ∙ inside 0 (within_in r.from r.to 0 (omega arith) (omega arith))))
        ];
        some = some;
        left = omega (arith, next);
        right = omega (arith, next);
        byte = λ n. get_or (ring c.start b) (c.len + n) 0;
        came = λ n le lt. stands.keeps.bytes n (inside n (within_in r.from r.to n le lt));
      }

  used : (r : Range) → (r.from == r.to) ≡ false → r.from < r.to
  used r is = grind (arith, nat_tests, range-ordered r)

  told : (r : Range) (rest : List (Option (ℕ × ℕ))) → ((n : ℕ) → covers r n ≡ true → has c.ranges n ≡ true) → AreTold w rest → AreTold w (block_of c.next r ∷ rest)
  told r rest inside others = cond_both (r.from == r.to) None (Some ((c.next + r.from) % 4294967296, (c.next + r.to) % 4294967296)) (λ (o : Option (ℕ × ℕ)). AreTold w (o ∷ rest)) (λ none. others) (λ some. (is_told r inside (used r some), others))

  pub blocks_told : AreTold w (blocks_of c.ranges c.next c.newest)
  blocks_told =
      let it = ordered c.ranges c.newest in
      let t = order_of c.ranges c.newest in
      told t.0 _ it.one (told t.1 _ it.two (told t.2 _ it.three tt))
