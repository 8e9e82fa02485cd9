-- The phase of a connection in a state.
use Rattle.std.proofs.Common.{◌≡◌, refl, sym, ◌∙◌, Bool, true, false}
use Rattle.std.specs.Prelude.{not}
use Rattle.app_connection.specs.States.{state_at, state_from, state_in}
use Rattle.app_connection.specs.declared.connection.Connection.{Connection}
use Rattle.app_connection.specs.declared.state.Phase.{Phase}
use Rattle.app_connection.specs.declared.state.Phase.TheVariants as phase
use Rattle.app_connection.specs.declared.state.State.{State}
use Rattle.app_connection.specs.declared.state.State.TheVariants as state

-- what a connection that was established is not
record IsLater (s : State) : Type 0 where
  listen : s ≡ state.Listen → ⊥
  sent : s ≡ state.SynSent → ⊥
  received : s ≡ state.SynReceived → ⊥

is_later : (closed acked came first : Bool) → IsLater (state_at closed acked came first)
is_later false acked false first = record { listen = λ e. absurd (cc); sent = λ e. absurd (cc); received = λ e. absurd (cc) }
is_later false acked true first = record { listen = λ e. absurd (cc); sent = λ e. absurd (cc); received = λ e. absurd (cc) }
is_later true false false first = record { listen = λ e. absurd (cc); sent = λ e. absurd (cc); received = λ e. absurd (cc) }
is_later true true false first = record { listen = λ e. absurd (cc); sent = λ e. absurd (cc); received = λ e. absurd (cc) }
is_later true false true false = record { listen = λ e. absurd (cc); sent = λ e. absurd (cc); received = λ e. absurd (cc) }
is_later true false true true = record { listen = λ e. absurd (cc); sent = λ e. absurd (cc); received = λ e. absurd (cc) }
is_later true true true false = record { listen = λ e. absurd (cc); sent = λ e. absurd (cc); received = λ e. absurd (cc) }
is_later true true true true = record { listen = λ e. absurd (cc); sent = λ e. absurd (cc); received = λ e. absurd (cc) }

sent_in : (p : Phase) (s : State) → IsLater s → state_in p s ≡ state.SynSent → p ≡ phase.SynSent
sent_in phase.Closed s later is = absurd (cc)
sent_in phase.Listen s later is = absurd (cc)
sent_in phase.SynSent s later is = refl
sent_in phase.SynReceived s later is = absurd (cc)
sent_in phase.Open s later is = absurd (later.sent is)

received_in : (p : Phase) (s : State) → IsLater s → state_in p s ≡ state.SynReceived → p ≡ phase.SynReceived
received_in phase.Closed s later is = absurd (cc)
received_in phase.Listen s later is = absurd (cc)
received_in phase.SynSent s later is = absurd (cc)
received_in phase.SynReceived s later is = refl
received_in phase.Open s later is = absurd (later.received is)

open_in : (p : Phase) (s : State) → (state_in p s ≡ state.Closed → ⊥) → (state_in p s ≡ state.Listen → ⊥) → (state_in p s ≡ state.SynSent → ⊥) → (state_in p s ≡ state.SynReceived → ⊥) → p ≡ phase.Open
open_in phase.Closed s shut listens sent received = absurd (shut refl)
open_in phase.Listen s shut listens sent received = absurd (listens refl)
open_in phase.SynSent s shut listens sent received = absurd (sent refl)
open_in phase.SynReceived s shut listens sent received = absurd (received refl)
open_in phase.Open s shut listens sent received = refl

later_of : (c : Connection) → IsLater (state_at c.sending.is_closed (not c.sending.has_fin) c.receiving.has_fin c.is_peer_first)
later_of c = is_later c.sending.is_closed (not c.sending.has_fin) c.receiving.has_fin c.is_peer_first

pub phase_sent : (c : Connection) (s : State) → s ≡ state_from c → s ≡ state.SynSent → c.phase ≡ phase.SynSent
phase_sent c s value is = sent_in c.phase _ (later_of c) (sym value ∙ is)

pub phase_received : (c : Connection) (s : State) → s ≡ state_from c → s ≡ state.SynReceived → c.phase ≡ phase.SynReceived
phase_received c s value is = received_in c.phase _ (later_of c) (sym value ∙ is)

pub phase_open : (c : Connection) (s : State) → s ≡ state_from c → (s ≡ state.Closed → ⊥) → (s ≡ state.Listen → ⊥) → (s ≡ state.SynSent → ⊥) → (s ≡ state.SynReceived → ⊥) → c.phase ≡ phase.Open
phase_open c s value shut listens sent received = open_in c.phase _ (λ e. shut (value ∙ e)) (λ e. listens (value ∙ e)) (λ e. sent (value ∙ e)) (λ e. received (value ∙ e))
