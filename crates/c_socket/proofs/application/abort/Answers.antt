use Rattle.std.proofs.Common.{◌≡◌, true, inl, inr, pos, refl, sym}
use Rattle.std.specs.Prelude.{option_map}
use Rattle.app_connection.specs.Worlds.{replied}
use Rattle.app_connection.proofs.Going.{each_reply}
use Rattle.app_socket.specs.Fields.{socket_of}
use Rattle.app_socket.specs.declared.socket.Socket.{Socket}
use Rattle.c_socket.specs.Application.{Aborts}
use Rattle.c_socket.specs.Segments.{IsReset}
use Rattle.c_socket.proofs.Kept.{carried}
use Rattle.c_socket.proofs.application.abort.Goals as goal

pub returns-in-Some : goal.returns-in-Some
returns-in-Some c =
    let old = c.value-socket.result in
    let new = c.abort-reset.new.self in
    let before = c.args.out.now in
    let after = c.reset_of.result in
    let e = c.in-Some.ensures in
    let reset : IsReset after = c.reset_of.ensures e.reset in
    let aborts : Aborts old new before after (pos 1) =
    record {
      same = e.same;
      closed = e.closed;
      sending = e.sending;
      receiving = e.receiving;
      given = option_map replied c.abort-reset.result;
      reset = each_reply (λ s. s.rst ≡ true) c.abort-reset.result c.abort-reset.ensures.reset;
      steps = c.abort-reset.ensures.steps;
      stores = inl (refl, reset);
    } in
    carried (λ (s t : Socket). Aborts s t before after (pos 1)) old (socket_of c.args.connection.now) new (socket_of c.fields.result)
    c.value-socket.ensures (sym c.fields.ensures) aborts

pub returns-in-None : goal.returns-in-None
returns-in-None c =
    let old = c.value-socket.result in
    let new = c.abort-reset.new.self in
    let before = c.args.out.now in
    let e = c.abort-reset.ensures in
    let aborts : Aborts old new before before (pos 0) =
    record {
      same = e.same;
      closed = e.closed;
      sending = e.sending;
      receiving = e.receiving;
      given = option_map replied c.abort-reset.result;
      reset = each_reply (λ s. s.rst ≡ true) c.abort-reset.result e.reset;
      steps = e.steps;
      stores = inr (refl, refl);
    } in
    carried (λ (s t : Socket). Aborts s t before before (pos 0)) old (socket_of c.args.connection.now) new (socket_of c.fields.result)
    c.value-socket.ensures (sym c.fields.ensures) aborts
