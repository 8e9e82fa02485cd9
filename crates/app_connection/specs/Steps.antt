-- What the calls of a connection promise so that they compose, whatever comes between them.
-- Pinned by: `connection/figures`
use Rattle.std.specs.Prelude.{ℕ, ◌≡◌, ◌++◌, List, [], ◌∷◌, true, false, Option, Some, None, IfSome}
use Rattle.tcp_stream.specs.Endpoint.{Syn}
use Rattle.tcp_stream.specs.Network.{World, Send, Write, happens, start}
use Rattle.tcp_stream.specs.Stands.{IsReached, SegmentComes, Stands}
use Rattle.tcp_stream.specs.Waits.{Waits}
use Rattle.app_connection.specs.declared.connection.Connection.{Connection}
use Rattle.app_connection.specs.declared.segment.Segment.{Segment}
use Rattle.app_connection.specs.declared.state.Phase.TheVariants as phase
use Rattle.app_connection.specs.declared.step.Event.{Event}
use Rattle.app_connection.specs.declared.step.Event.TheVariants as event
use Rattle.app_connection.specs.Events.{ComesBy, called}
use Rattle.app_connection.specs.Sequence.{after}
use Rattle.app_connection.specs.States.{has_peer, may_close, state_from}
use Rattle.app_connection.specs.Worlds.{Goes, Said, Stand, said}

-- a history that begins with this number: its SYN is sent
abbrev pub first : ℕ → World
first iss = happens (start iss) (Send 0 1)

-- the receiver of a history has taken nothing
pub record IsFresh (w : World) : Type 0 where
  pub reached : IsReached w
  pub shut : w.receiver.is_open ≡ false
  pub empty : w.receiver.got ≡ []

-- The active open: the SYN goes out.
pub record Dials (iss : ℕ) (new : Connection) (outgoing incoming : List ℕ) (result : Option Said) : Type 0 where
  pub state : new.phase ≡ phase.SynSent
  pub sent : result ≡ Some (record { number = iss; items = Syn ∷ []; ack = None; rst = false })
  pub goes : (back : World) → IsFresh back → Goes (first iss) back [] new outgoing incoming result

-- The passive open, after this SYN came: it is answered.
pub record Hears (s : Segment) (iss : ℕ) (new : Connection) (outgoing incoming : List ℕ) (result : Option Said) : Type 0 where
  pub state : new.phase ≡ phase.SynReceived
  pub sent : result ≡ Some (record { number = iss; items = Syn ∷ []; ack = Some (after s.number); rst = false })
  pub syn : s.syn ≡ true
  pub rst : s.rst ≡ false
  pub goes :
      (back : World) (which : ℕ) → IsFresh back → SegmentComes back which s.number (said s).items
      → Goes (first iss) back [] new outgoing incoming result

-- The event opens a connection: its own history begins, and nothing was taken of the peer's.
abbrev pub Opens : Event → Connection → List ℕ → List ℕ → Option Said → Type 0
Opens event.Listen new outgoing incoming result = ⊥
Opens (event.Open iss) new outgoing incoming result = Dials iss new outgoing incoming result
Opens (event.Arrives segment iss) new outgoing incoming result = Hears segment.now iss new outgoing incoming result
Opens (event.Send offset count) new outgoing incoming result = ⊥
Opens event.Close new outgoing incoming result = ⊥
Opens event.Abort new outgoing incoming result = ⊥

-- An event without a peer changes neither half, and only a RST goes out.
pub record Rests (old new : Connection) (before after : List ℕ) (result : Option Said) : Type 0 where
  pub sending : new.sending ≡ old.sending
  pub receiving : new.receiving ≡ old.receiving
  pub incoming : after ≡ before
  pub reset : IfSome result (λ s. s.rst ≡ true)

-- `step`
pub record Steps (old new : Connection) (outgoing before after : List ℕ) (e : Event) (result : Option Said) : Type 0 where
  pub rests : has_peer (state_from old) ≡ false → has_peer (state_from new) ≡ false → Rests old new before after result
  pub opens : has_peer (state_from old) ≡ false → has_peer (state_from new) ≡ true → Opens e new outgoing after result
  pub active : (iss : ℕ) → e ≡ event.Open iss → has_peer (state_from old) ≡ false → has_peer (state_from new) ≡ true
  pub goes :
      has_peer (state_from old) ≡ true → (there back : World) (consumed : List ℕ) → ComesBy e there back
      → Stand there back consumed old outgoing before
      → Goes (called e (may_close (state_from old)) there) back consumed new outgoing after result

-- `write`, which took these bytes
pub record Writes (old new : Connection) (before after bytes : List ℕ) : Type 0 where
  pub same : new ≡ record old { sending = new.sending }
  pub waits :
      has_peer (state_from old) ≡ true → (w : World) → Waits w old.sending before
      → Waits (happens w (Write bytes)) new.sending after
  pub closed : old.sending.is_closed ≡ true → bytes ≡ []
  pub none : has_peer (state_from old) ≡ false → bytes ≡ []
  pub stays : has_peer (state_from old) ≡ false → (new ≡ old) × (after ≡ before)

-- `read`, which gave these bytes
pub record Reads (old new : Connection) (incoming bytes : List ℕ) : Type 0 where
  pub same :
      new ≡ record old { receiving = record old.receiving { start = new.receiving.start; len = new.receiving.len } }
  pub stands :
      (back : World) (consumed : List ℕ) → Stands back consumed old.receiving incoming
      → Stands back (consumed ++ bytes) new.receiving incoming
