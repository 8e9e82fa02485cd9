use Rattle.std.proofs.Common.{◌≡◌, refl, sym, subst, arith, ◌+◌, ◌-◌, ◌++◌, ℕ, take, drop}
use Rattle.tcp_stream.specs.Network.{run, start}
use Rattle.tcp_stream.proofs.Received.{read_stands}
use Rattle.tcp_stream.proofs.Standing.{held_delivers}
use Rattle.tcp_stream.proofs.Keeping.{keeps_read}
use Rattle.tcp_stream.proofs.receiving.Receiving.read.Goals as goal
use Rattle.tcp_stream.specs.Stands.{Stands}
use Rattle.tcp_stream.specs.declared.receiving.Receiving.{Receiving}

pub returns-clause-stands : goal.returns-clause-stands
returns-clause-stands c = λ w consumed stands.
    let self = c.args.self.now in
    let b = c.args.ring.now in
    let n = c.min-n.result in
    let d : Receiving = record self { start = c.wrapped-self.result; len = self.len - n } in
    let size : self.start + n - self.start ≡ n = omega arith in
    subst (λ (k : ℕ). Stands w (consumed ++ take k (drop self.start b)) d b) (sym size) (record {
      reached = stands.reached;
      holds = read_stands w.receiver consumed self d b n c.wrapped-self.result stands.holds c.requires.begin (omega (arith, c.requires.len)) c.wrapped-self.ensures.inside c.wrapped-self.ensures.same (omega (arith, c.min-n.ensures, c.min.ensures)) (omega (arith, c.min-n.ensures)) refl;
      keeps = keeps_read w self b n c.wrapped-self.result stands.keeps c.requires.begin c.requires.len c.wrapped-self.ensures.inside c.wrapped-self.ensures.same (omega (arith, c.min-n.ensures, c.min.ensures));
    })

pub returns-clause-delivers : goal.returns-clause-delivers
returns-clause-delivers c = λ initial events consumed stands.
    held_delivers (run events (start initial)) _ _ c.args.ring.now (returns-clause-stands c _ consumed stands)
