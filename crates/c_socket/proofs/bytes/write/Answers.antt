use Rattle.std.proofs.Common.{rules, arith, ◌≤◌, inr, sym, ap, subst, ℕ, List, length, w64}
use Rattle.std.proofs.lemmas.Int.{to_z_pos}
use Rattle.app_connection.specs.declared.connection.Connection.{Connection}
use Rattle.app_connection.specs.Endpoints.{OutFits}
use Rattle.app_socket.specs.Fields.{socket_of}
use Rattle.app_socket.specs.declared.socket.Socket.{Socket}
use Rattle.c_structs.specs.Written.{max_len, within}
use Rattle.c_socket.specs.Calls.{Written}
use Rattle.c_socket.proofs.Kept.{handed}
use Rattle.c_socket.proofs.bytes.write.Goals as goal

pub returns : goal.returns
returns c =
    let before = c.args.outgoing.now in
    let after = c.write-count.new.outgoing in
    let old = c.connection-streams.result in
    let new = c.write-count.new.self in
    let count = c.write-count.result in
    let e = c.write-count.ensures in
    let few : count ≤ length c.within.result.now = e.few in
    let short : length c.within.result.now ≤ max_len = c.within.ensures.fits in
    let fits : OutFits old.sending (length before) = search rules in
    let part : Written old new before after c.within.result.now count =
    record { fits = fits; few = few; writes = e.writes; none = e.none } in
    let whole : Written old new before after (within c.args.bytes.now) count =
    subst (λ (l : List ℕ). Written old new before after l count) c.within.ensures.value part in
    inr (
      count,
      to_z_pos w64 count (omega (arith, few, short)),
      handed (λ (s t : Connection). Written s t before after (within c.args.bytes.now) count)
          old (socket_of c.args.connection.now).connection new (socket_of c.set_connection.new.self).connection c.connection-streams.ensures
          (sym (ap (λ (s : Socket). s.connection) c.set_connection.ensures)) whole,
    )
