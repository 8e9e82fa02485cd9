use Rattle.std.proofs.Common.{◌≡◌, ◌∙◌, ap, subst, arith, ◌+◌, ◌++◌, ℕ, List, length, take}
use Rattle.std.proofs.lemmas.List.{length-take-le}
use Rattle.tcp_stream.specs.Ring.{ring, placed}
use Rattle.tcp_stream.proofs.Pending.{write_waits, placed_front}
use Rattle.tcp_stream.proofs.Places.{length-ring}
use Rattle.tcp_stream.proofs.sending.Sending.write.Goals as goal

pub returns-clause-waits : goal.returns-clause-waits
returns-clause-waits c = λ w waits.
    let self = c.args.self.now in
    let n = c.min-n.result in
    let bytes = take n c.args.bytes.now in
    let long : length bytes ≡ n = length-take-le n c.args.bytes.now (omega arith) in
    let front = placed_front self.len bytes (ring self.start c.args.ring.now) (omega (arith, length-ring self.start c.args.ring.now (omega arith))) in
    let is : take (self.len + n) (ring self.start c.put.new.buffer) ≡ take self.len (ring self.start c.args.ring.now) ++ bytes =
    ap (λ (l : List ℕ). take (self.len + n) l) c.put.ensures ∙ subst (λ (m : ℕ). take (self.len + m) (placed self.len bytes (ring self.start c.args.ring.now)) ≡ take self.len (ring self.start c.args.ring.now) ++ bytes) long front in
    write_waits w self c.args.ring.now c.put.new.buffer bytes n c.if-self.false waits is
