-- What one event makes of the fields of a socket.
use Rattle.std.proofs.Common.{◌≡◌, inl, inr, refl, sym, ℕ, ℤ, List, length}
use Rattle.std.specs.Prelude.{Option}
use Rattle.app_connection.specs.declared.segment.Segment.{Segment}
use Rattle.app_socket.specs.Fields.{socket_of}
use Rattle.app_socket.specs.declared.fields.SocketFields.{SocketFields}
use Rattle.app_socket.specs.declared.socket.Socket.{Socket}
use Rattle.app_socket.specs.declared.step.Event.{Event}
use Rattle.c_socket.specs.Calls.{Fits, Meets, Met, Steps, Stores}
use Rattle.c_socket.specs.declared.segment.SegmentFields.{SegmentFields}
use Rattle.c_socket.proofs.Kept.{carried, moved}

-- an event came to a socket, and its fields are kept
pub met : (e : Event) (s t : Socket) (old new : SocketFields) (outgoing before after : List ℕ) (now : ℕ) (given : Option Segment) (out out' : SegmentFields) (code : ℤ)
    → s ≡ socket_of old → socket_of new ≡ t → Fits s (length outgoing) (length before) → Steps s t outgoing before after now e given
    → Stores t (length before) now given out out' code → Met (λ (f : Event). f ≡ e) old new outgoing before after now out out' code
met e s t old new outgoing before after now given out out' code same kept fits steps stores = record {
  e = e;
  is = refl;
  given = given;
  fits = moved (λ (x : Socket). Fits x (length outgoing) (length before)) s (socket_of old) same fits;
  steps = carried (λ (x y : Socket). Steps x y outgoing before after now e given) s (socket_of old) t (socket_of new) same (sym kept) steps;
  stores = moved (λ (x : Socket). Stores x (length before) now given out out' code) t (socket_of new) (sym kept) stores;
}

-- the same of an event that is like it
pub meets_as : (Was Is : Event → Type 0) (old new : SocketFields) (outgoing before after : List ℕ) (now : ℕ) (out out' : SegmentFields) (code : ℤ)
    → ((e : Event) → Was e → Is e) → Meets Was old new outgoing before after now out out' code → Meets Is old new outgoing before after now out out' code
meets_as Was Is old new outgoing before after now out out' code f (inl none) = inl none
meets_as Was Is old new outgoing before after now out out' code f (inr m) = inr (record {
  e = m.e;
  is = f m.e m.is;
  given = m.given;
  fits = m.fits;
  steps = m.steps;
  stores = m.stores;
})
