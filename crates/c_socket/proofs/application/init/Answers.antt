use Rattle.std.proofs.Common.{rules, ◌≡◌, ◌∙◌, SFits, ap, sym, subst, [], Bool, w32}
use Rattle.std.proofs.lemmas.Int.{to_z-of_z}
use Rattle.tcp_stream.specs.Network.{start}
use Rattle.tcp_stream.specs.Stands.{Stands}
use Rattle.app_connection.specs.Endpoints.{OutFits}
use Rattle.app_socket.specs.declared.options.Options.{Options}
use Rattle.app_socket.specs.declared.socket.Socket.{Socket}
use Rattle.c_structs.specs.Written.{is_set}
use Rattle.c_socket.proofs.application.init.Goals as goal

pub returns-clause-options : goal.returns-clause-options
returns-clause-options c =
    let with_eager : Bool → Options = λ is. record { mss = c.args.mss; keep_alive = c.args.keep_alive; is_eager = is } in
    let fits : SFits w32 c.args.is_eager = search rules in
    let eager : c.is_set.result ≡ is_set c.args.is_eager = c.is_set.ensures ∙ ap is_set (to_z-of_z w32 c.args.is_eager fits) in
    ap (λ (s : Socket). s.options) c.fields.ensures ∙ c.new.ensures.options ∙ ap with_eager eager

pub returns-clause-stands : goal.returns-clause-stands
returns-clause-stands c = λ buffer. subst (λ (s : Socket). Stands (start 0) [] s.connection.receiving buffer) (sym c.fields.ensures) (c.new.ensures.stands buffer)

pub returns-clause-out : goal.returns-clause-out
returns-clause-out c = λ size some small. subst (λ (s : Socket). OutFits s.connection.sending size) (sym c.fields.ensures) (c.new.ensures.out size some small)
