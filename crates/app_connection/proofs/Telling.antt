-- What a state says of the histories.
use Rattle.std.proofs.Common.{◌≡◌, refl, sym, ◌∙◌, ap, subst, ℕ, zero, suc, ◌<◌, List, [], ◌∷◌, ◌++◌, Bool, true, false, length, map, drop, arith, length-append}
use Rattle.std.specs.Prelude.{not}
use Rattle.std.proofs.lemmas.Bool.{false≢true, cases_lt}
use Rattle.std.proofs.lemmas.List.{drop_all}
use mathlib.Core.Logic.{inl, inr}
use Rattle.tcp_stream.specs.Endpoint.{Item, Byte, Fin}
use Rattle.tcp_stream.specs.Network.{World, stream, end_of, is_ended}
use Rattle.tcp_stream.specs.Items.{syn_of}
use Rattle.tcp_stream.specs.Waits.{Waits, pending}
use Rattle.tcp_stream.specs.declared.sending.Sending.{Sending}
use Rattle.app_connection.specs.States.{state_at}
use Rattle.app_connection.specs.Worlds.{Stand, TellsState, IsDone}
use Rattle.app_connection.specs.declared.connection.Connection.{Connection}

-- what remains of a stream that was closed has its end
all_ended : (written : List ℕ) → is_ended (map Byte written ++ (Fin ∷ [])) ≡ true
all_ended [] = refl
all_ended (b ∷ written) = all_ended written

rest_ended : (written : List ℕ) (n : ℕ) → n < length (map Byte written ++ (Fin ∷ [])) → is_ended (drop n (map Byte written ++ (Fin ∷ []))) ≡ true
rest_ended [] zero lt = refl
rest_ended [] (suc n) lt = absurd (omega arith)
rest_ended (b ∷ written) zero lt = all_ended written
rest_ended (b ∷ written) (suc n) lt = rest_ended written n (omega arith)

stream_ended : (written : List ℕ) (n : ℕ) → n < length (stream written true) → is_ended (drop n (stream written true)) ≡ true
stream_ended written zero lt = all_ended written
stream_ended written (suc n) lt = rest_ended written n (omega arith)

-- bytes and a SYN have no end
bytes_open : (bytes : List ℕ) → is_ended (map Byte bytes ++ []) ≡ false
bytes_open [] = refl
bytes_open (b ∷ bytes) = bytes_open bytes

pending_open : (syn fin : Bool) (bytes : List ℕ) → fin ≡ false → is_ended (syn_of syn ++ (map Byte bytes ++ end_of fin)) ≡ false
pending_open syn true bytes is = absurd (false≢true (sym is))
pending_open true false bytes is = bytes_open bytes
pending_open false false bytes is = bytes_open bytes

-- a FIN that is no longer kept was acknowledged, with all before it
pub done : (w : World) (c : Sending) (buffer : List ℕ) → Waits w c buffer → c.is_closed ≡ true → c.has_fin ≡ false → IsDone w
done w c buffer waits closed fin = elim (cases_lt w.acked (length (stream w.written w.closed))) [
  | inl lt ↦ absurd (false≢true (sym none ∙ sym (ap is_ended waits.held) ∙ some lt))
  | inr le ↦ omega (arith, waits.flight, waits.within)
]
  where
    is : w.closed ≡ true
    is = sym waits.closed ∙ closed

    some : w.acked < length (stream w.written w.closed) → is_ended (drop w.acked (stream w.written w.closed)) ≡ true
    some lt = subst (λ (b : Bool). w.acked < length (stream w.written b) → is_ended (drop w.acked (stream w.written b)) ≡ true) (sym is) (stream_ended w.written w.acked) lt

    none : is_ended (pending c buffer) ≡ false
    none = pending_open c.has_syn c.has_fin _ fin

-- one that is kept was not
waits_fin : (w : World) (c : Sending) (buffer : List ℕ) → Waits w c buffer → c.has_fin ≡ true → w.acked < length (stream w.written w.closed)
waits_fin w c buffer waits fin = elim (cases_lt w.acked (length (stream w.written w.closed))) [
  | inl lt ↦ lt
  | inr le ↦ absurd (some (sym (ap length waits.held) ∙ ap length (drop_all w.acked (stream w.written w.closed) le)))
]
  where
    long : (f : Bool) (l m : List Item) → f ≡ true → length (l ++ (m ++ end_of f)) ≡ 0 → ⊥
    long true l m is zero_long = omega (arith, length-append l (m ++ (Fin ∷ [])), length-append m (Fin ∷ []))
    long false l m is zero_long = false≢true is

    some : length (pending c buffer) ≡ 0 → ⊥
    some = long c.has_fin (syn_of c.has_syn) _ fin

tells_at : (closed fin came first : Bool) (there back : World) → closed ≡ there.closed → (closed ≡ true → fin ≡ false → IsDone there)
    → (fin ≡ true → there.acked < length (stream there.written there.closed)) → is_ended back.receiver.got ≡ came → TellsState (state_at closed (not fin) came first) there back
tells_at false fin false first there back is all some end = (sym is, end)
tells_at false fin true first there back is all some end = (sym is, end)
tells_at true true false first there back is all some end = (sym is, some refl, end)
tells_at true false false first there back is all some end = (sym is, all refl refl, end)
tells_at true true true false there back is all some end = (sym is, some refl, end)
tells_at true true true true there back is all some end = (sym is, some refl, end)
tells_at true false true false there back is all some end = (sym is, all refl refl, end)
tells_at true false true true there back is all some end = tt

pub tells_open : (there back : World) (consumed : List ℕ) (c : Connection) (outgoing incoming : List ℕ) → Stand there back consumed c outgoing incoming
    → TellsState (state_at c.sending.is_closed (not c.sending.has_fin) c.receiving.has_fin c.is_peer_first) there back
tells_open there back consumed c outgoing incoming stand =
    tells_at c.sending.is_closed c.sending.has_fin c.receiving.has_fin c.is_peer_first there back stand.waits.closed (done there c.sending outgoing stand.waits) (waits_fin there c.sending outgoing stand.waits) stand.stands.holds.ended
