use Rattle.std.proofs.Common.{rules, arith, ◌≡◌, ◌≤◌, ◌<◌, ◌^◌, inr, sym, ap, subst, ℕ, List, ◌++◌, length, w64}
use Rattle.std.specs.Prelude.{take, drop}
use Rattle.std.proofs.lemmas.Int.{to_z_pos}
use Rattle.app_connection.specs.declared.connection.Connection.{Connection}
use Rattle.app_socket.specs.Fields.{socket_of}
use Rattle.app_socket.specs.declared.socket.Socket.{Socket}
use Rattle.c_socket.specs.Calls.{Delivers}
use Rattle.c_socket.proofs.Delivered.{delivers_front}
use Rattle.c_socket.proofs.Kept.{handed}
use Rattle.c_socket.proofs.bytes.read.Goals as goal

pub returns : goal.returns
returns c =
    let incoming = c.args.incoming.now in
    let before = c.args.out.now in
    let filled = c.read_twice-count.new.out in
    let after = filled ++ c.split_at_mut-front.result.1.now in
    let len = c.usable.result in
    let old = c.connection-streams.result in
    let new = c.read_twice-count.new.streams in
    let count = c.read_twice-count.result in
    let front : c.split_at_mut-front.result.0.now ≡ take len before = search rules in
    let rest : c.split_at_mut-front.result.1.now ≡ drop len before = search rules in
    let short : length c.split_at_mut-front.result.0.now < 2 ^ 63 = search (arith, rules) in
    let few : count ≤ length c.split_at_mut-front.result.0.now = c.read_twice-count.ensures.few in
    let part : Delivers old new incoming (take len before) filled count =
    subst (λ (l : List ℕ). Delivers old new incoming l filled count) front c.read_twice-count.ensures.delivers in
    let whole : Delivers old new incoming before after count =
    delivers_front old new incoming before filled after len count part (subst (λ (l : List ℕ). count ≤ length l) front few)
    (ap (λ (l : List ℕ). filled ++ l) rest) in
    inr (
      count,
      to_z_pos w64 count (omega (arith, few, short)),
      handed (λ (s t : Connection). Delivers s t incoming before after count)
          old (socket_of c.args.connection.now).connection new (socket_of c.set_connection.new.self).connection c.connection-streams.ensures
          (sym (ap (λ (s : Socket). s.connection) c.set_connection.ensures)) whole,
    )
