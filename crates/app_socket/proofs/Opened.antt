-- What holds of a connection that is set up.
use Rattle.std.proofs.Common.{◌≡◌, ◌⊎◌, inr, refl, ◌∙◌, ap, subst, ℕ, ◌+◌, ◌<◌, List, Bool, true, false, length, arith}
use Rattle.std.specs.Prelude.{Option, Some, None, IfSome, is_some, not, nat_lt, ◌==◌, ◌||◌, ◌&&◌, if◌then◌else◌}
use Rattle.std.proofs.lemmas.Bool.Decides.{nat_tests}
use Rattle.tcp_stream.specs.Network.{World}
use Rattle.tcp_stream.specs.Stands.{Stands, IsAnswer}
use Rattle.tcp_stream.specs.declared.receiving.Receiving.{Receiving}
use Rattle.app_connection.specs.declared.connection.Connection.{Connection}
use Rattle.app_connection.specs.declared.segment.Segment.{Segment}
use Rattle.app_connection.specs.declared.state.Phase.{Phase}
use Rattle.app_connection.specs.declared.state.Phase.TheVariants as phase
use Rattle.app_connection.specs.declared.state.State.{State}
use Rattle.app_connection.specs.declared.state.State.TheVariants as state
use Rattle.app_connection.specs.Endpoints.{len_of, one, spoken}
use Rattle.app_connection.specs.Promises.{HasNoText}
use Rattle.app_connection.specs.States.{state_from, state_in, has_peer}
use Rattle.app_connection.specs.declared.segment.Reply.{Reply}
use Rattle.app_socket.specs.Limits.{is_held}
use Rattle.app_socket.specs.Promises.{HasShortText}
use Rattle.app_socket.specs.Times.{is_open}
use Rattle.app_socket.specs.declared.socket.Socket.{Socket}

open_in : (p : Phase) (s : State) → is_open (state_in p s) ≡ true → p ≡ phase.Open
open_in phase.Closed s is = absurd (cc)
open_in phase.Listen s is = absurd (cc)
open_in phase.SynSent s is = absurd (cc)
open_in phase.SynReceived s is = absurd (cc)
open_in phase.Open s is = refl

-- the phase of a synchronized state
pub open_phase : (c : Connection) → is_open (state_from c) ≡ true → c.phase ≡ phase.Open
open_phase c is = open_in c.phase _ is

has_of_open : (s : State) → is_open s ≡ true → has_peer s ≡ true
has_of_open state.Closed is = absurd (cc)
has_of_open state.Listen is = absurd (cc)
has_of_open state.SynSent is = refl
has_of_open state.SynReceived is = refl
has_of_open state.Established is = refl
has_of_open state.FinWait1 is = refl
has_of_open state.FinWait2 is = refl
has_of_open state.CloseWait is = refl
has_of_open state.Closing is = refl
has_of_open state.LastAck is = refl
has_of_open state.TimeWait is = refl

-- it has a peer
pub open_has_peer : (c : Connection) → is_open (state_from c) ≡ true → has_peer (state_from c) ≡ true
open_has_peer c is = has_of_open _ is

-- it is not in CLOSED
pub open_not_shut : (c : Connection) → is_open (state_from c) ≡ true → state_from c ≡ state.Closed → ⊥
open_not_shut c is shut = let h : false ≡ true = subst (λ (x : State). is_open x ≡ true) shut is in absurd (cc)

-- a segment that takes no sequence number has no items
pub no_items : (P : Segment → Type 0) (o : Option Segment) → IfSome o (λ s. len_of s ≡ 0) → IfSome o (λ s. 0 < len_of s → P s)
no_items P None bare = tt
no_items P (Some s) bare = λ some. absurd (omega (arith, some, bare))

-- what holds of the acknowledgement of a segment holds of the receiving half as it is after it
pub answers_as : (o : Option Segment) (r t : Receiving) (incoming : List ℕ) → t ≡ r
    → IfSome o (λ s. (back : World) (consumed buffer : List ℕ) → Stands back consumed r buffer → IfSome s.ack (λ number. IsAnswer back number))
    → IfSome o (λ s. (back : World) (consumed : List ℕ) → Stands back consumed t incoming → (s.rst ≡ true) ⊎ IfSome s.ack (λ number. IsAnswer back number))
answers_as None r t incoming is answers = tt
answers_as (Some s) r t incoming is answers = λ back consumed stands. inr (answers back consumed incoming (subst (λ (x : Receiving). Stands back consumed x incoming) is stands))

-- the end of the peer's patience does not change
pub patience_on : (o : Option ℕ) (old mid new : ℕ) → new ≡ mid → IfSome o (λ at. mid ≡ old) → IfSome o (λ at. new ≡ old)
patience_on None old mid new same still = tt
patience_on (Some at) old mid new same still = same ∙ still

-- a segment without text has short text
pub no_text_short : (o : Option Segment) → HasNoText o → HasShortText o
no_text_short None none = tt
no_text_short (Some s) none = omega (arith, ap length none.0)

-- a reply is a segment
pub is_spoken : (o : Option Segment) → is_some o ≡ is_some (spoken o)
is_spoken None = refl
is_spoken (Some s) = refl

pub is_said : (b : Bool) (r : Reply) → is_some (if b then Some r else None) ≡ b
is_said true r = refl
is_said false r = refl

-- A receiving half without the peer's SYN answers no acknowledgement. The reply of another one goes out unless it is held back.
pub answers_exactly : (synced rest held : Bool) (o q : Option Segment) → is_some o ≡ (synced && rest) → (is_some o ≡ false → q ≡ None) → (synced ≡ true → is_some q ≡ (is_some o && not held))
    → is_some q ≡ ((synced && rest) && not held)
answers_exactly true rest held o q said none some = some refl ∙ ap (λ (b : Bool). b && not held) said
answers_exactly false rest held o q said none some = ap is_some (none said)

and_none : (b : Bool) → (b && false) ≡ false
and_none true = refl
and_none false = refl

not_limited_by : (syn rst fin : Bool) (n : ℕ) → syn ≡ false → rst ≡ false → 0 < n + one syn + one fin → (syn || (rst || (n == 0 && not fin))) ≡ false
not_limited_by true rst fin n no_syn no_rst some = absurd (cc)
not_limited_by false true fin n no_syn no_rst some = absurd (cc)
not_limited_by false false true n no_syn no_rst some = and_none (n == 0)
not_limited_by false false false n no_syn no_rst some = let is : (n == 0) ≡ false = grind (arith, nat_tests) in ap (λ (b : Bool). b && true) is

-- the answer to text and FIN is not held back
pub not_held : (s : Segment) (socket : Socket) (now : ℕ) → s.syn ≡ false → s.rst ≡ false → 0 < len_of s → is_held socket now s ≡ false
not_held s socket now no_syn no_rst some = ap (λ (b : Bool). b && nat_lt now socket.quiet_until) (not_limited_by s.syn s.rst s.fin (length s.payload.now) no_syn no_rst some)
