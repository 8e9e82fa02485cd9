use Rattle.std.proofs.Common.{rules, ◌≡◌, ap, subst, ℕ, List, ◌++◌}
use Rattle.std.specs.Prelude.{take, drop}
use Rattle.c_socket.specs.Calls.{Delivers}
use Rattle.c_socket.proofs.Delivered.{delivers_twice}
use Rattle.c_socket.proofs.bytes.read_twice.Goals as goal

pub returns-clause-delivers : goal.returns-clause-delivers
returns-clause-delivers c =
    let first = c.read_part-first in
    let incoming = c.args.incoming.now in
    let middle = c.read_part-first.new.out in
    let last = c.read_part.new.out in
    let n = c.read_part-first.result in
    let m = c.read_part.result in
    let front : c.split_at_mut-rest.result.0.now ≡ take n middle = search rules in
    let rest : c.split_at_mut-rest.result.1.now ≡ drop n middle = search rules in
    let second : Delivers first.new.streams c.read_part.new.streams incoming (drop n middle) last m =
    subst (λ (l : List ℕ). Delivers first.new.streams c.read_part.new.streams incoming l last m) rest c.read_part.ensures.delivers in
    delivers_twice c.args.streams.now first.new.streams c.read_part.new.streams incoming c.args.out.now middle last _ n m
    first.ensures.delivers second (ap (λ (l : List ℕ). l ++ last) front)
