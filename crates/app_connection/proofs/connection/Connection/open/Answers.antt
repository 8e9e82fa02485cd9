use Rattle.std.proofs.Common.{true, false, refl, sym, subst, ℕ, [], ◌∷◌}
use Rattle.std.specs.Prelude.{Some, None}
use Rattle.tcp_stream.specs.Endpoint.{Syn}
use Rattle.app_connection.specs.Steps.{first}
use Rattle.app_connection.specs.Worlds.{IsOut, replied}
use Rattle.app_connection.specs.declared.segment.Reply.{Reply}
use Rattle.app_connection.specs.declared.state.Phase.TheVariants as phase
use Rattle.app_connection.proofs.Going.{goes_at, opened_stand, says_first}
use Rattle.app_connection.proofs.connection.Connection.open.Goals as goal

pub returns-in-Closed-clause-begins : goal.returns-in-Closed-clause-begins
returns-in-Closed-clause-begins c = λ none back buffer fresh.
    let there = first c.args.iss in
    let d = c.begin.new.self in
    let syn : Reply = record { number = c.args.iss; ack = None; syn = true; rst = false } in
    goes_at there back [] (record d { phase = phase.SynSent }) c.args.outgoing.now buffer (Some (replied syn))
    (opened_stand there back d c.args.outgoing.now buffer c.begin.ensures.waits (c.begin.ensures.begins back buffer fresh) (subst (λ (n : ℕ). IsOut there n (Syn ∷ [])) (sym c.begin.ensures.iss) c.begin.ensures.sent) c.begin.ensures.shut)
    (says_first there back (replied syn) c.begin.ensures.sent refl refl)
