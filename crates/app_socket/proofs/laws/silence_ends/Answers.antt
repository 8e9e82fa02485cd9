use Rattle.std.proofs.Common.{◌≡◌, ◌⊎◌, inl, inr, refl, sym, ◌∙◌, ap, subst, Bool, true, false, arith}
use Rattle.std.specs.Prelude.{not}
use Rattle.app_connection.specs.declared.connection.Connection.{Connection}
use Rattle.app_connection.specs.declared.state.Phase.{Phase}
use Rattle.app_connection.specs.Endpoints.{endpoint_of}
use Rattle.app_connection.specs.SetUp.{In_closed}
use Rattle.app_connection.specs.States.{has_peer, state_at, state_from, state_in}
use Rattle.app_connection.proofs.Going.{shut_phase}
use Rattle.app_socket.specs.declared.socket.Socket.{Socket}
use Rattle.app_socket.proofs.laws.silence_ends.Goals as goal

either : (b : Bool) → (b ≡ true) ⊎ (b ≡ false)
either true = inl refl
either false = inr refl

-- an endpoint in CLOSED has no peer
shut_none : (c : Connection) → endpoint_of c ≡ In_closed → has_peer (state_from c) ≡ false
shut_none c is = subst (λ (p : Phase). has_peer (state_in p (state_at c.sending.is_closed (not c.sending.has_fin) c.receiving.has_fin c.is_peer_first)) ≡ false) (sym (shut_phase c is)) refl

pub returns : goal.returns
returns c = λ ends.
    let it = c.step-2 in
    elim (either (has_peer (state_from c.loop-time.socket.connection))) [
      | inl has ↦ shut_none it.new.self.connection (it.ensures.ends tt has (omega (arith, c.loop-time.invariant.later, ends)))
      | inr none ↦ ap (λ (x : Socket). has_peer (state_from x.connection)) (it.ensures.idle tt none) ∙ none
    ]
