-- The set-up of a connection between two endpoints, over a network that loses, repeats and reorders their segments and has
-- segments of other connections (RFC 9293, sections 3.5 and 3.10.7; RFC 5961).
-- Pinned by: `connection/figures`
use Rattle.std.specs.Prelude.{ℕ, ◌≡◌, ◌⊎◌, ◌==◌, ◌&&◌, ◌||◌, List, [], ◌∷◌, Bool, true, false, not, if◌then◌else◌, Option, Some, None, slice_get}
use Rattle.app_connection.specs.Sequence.{after, is_acceptable_at}

-- an endpoint with its initial numbers: ISS, and IRS where it is known. The states after ESTABLISHED count as ESTABLISHED.
pub data Endpoint : Type 0 where
  In_closed : Endpoint
  In_listen : Endpoint
  In_syn_sent : (iss : ℕ) → Endpoint
  In_syn_received : (passive : Bool) (iss irs : ℕ) → Endpoint
  In_established : (iss irs : ℕ) → Endpoint

-- what the set-up sees of a segment: SEG.SEQ, SEG.LEN, SEG.ACK and two flags
pub record Control : Type 0 where
  pub number : ℕ
  pub len : ℕ
  pub ack : Option ℕ
  pub syn : Bool
  pub rst : Bool

-- whether this is an acknowledgement of the SYN with this number
abbrev pub is_ack_of : ℕ → Option ℕ → Bool
is_ack_of iss None = false
is_ack_of iss (Some ack) = ack == after iss

-- whether there is an acknowledgement
abbrev pub has_ack : Option ℕ → Bool
has_ack None = false
has_ack (Some ack) = true

-- LISTEN (section 3.10.7.2): a SYN opens, with this ISS
abbrev pub hears_in_listen : Control → ℕ → Endpoint
hears_in_listen c iss = if c.rst || (has_ack c.ack || not c.syn) then In_listen else In_syn_received true iss c.number

-- SYN-SENT (section 3.10.7.3)
abbrev pub hears_in_syn_sent : ℕ → Control → Endpoint
hears_in_syn_sent iss c =
    if has_ack c.ack && not (is_ack_of iss c.ack)
    then In_syn_sent iss
    else (
    if c.rst
    then (if has_ack c.ack then In_closed else In_syn_sent iss)
    else (
    if c.syn
    then (if has_ack c.ack then In_established iss c.number else In_syn_received false iss c.number)
    else In_syn_sent iss
    )
    )

-- the end of an attempt in SYN-RECEIVED
abbrev pub back_from : Bool → Endpoint
back_from passive = if passive then In_listen else In_closed

-- a SYN in SYN-RECEIVED: that of the peer again, with an acknowledgement (figure 7), or another one, which may be acceptable
abbrev pub hears_syn_again : Bool → ℕ → ℕ → Control → Bool → Endpoint
hears_syn_again passive iss irs c acceptable =
    if c.number == irs && has_ack c.ack
    then (if is_ack_of iss c.ack then In_established iss irs else In_syn_received passive iss irs)
    else (if passive && acceptable then In_listen else In_syn_received passive iss irs)

-- SYN-RECEIVED (section 3.10.7.4), with RCV.WND. An acknowledgement acts only at RCV.NXT, or with the SYN at IRS.
abbrev pub hears_in_syn_received : Bool → ℕ → ℕ → Control → ℕ → Endpoint
hears_in_syn_received passive iss irs c window =
    if c.rst
    then (if c.number == after irs then back_from passive else In_syn_received passive iss irs)
    else (
    if c.syn
    then hears_syn_again passive iss irs c (is_acceptable_at (after irs) window c.number c.len)
    else (
    if is_ack_of iss c.ack && (c.number == after irs && is_acceptable_at (after irs) window c.number c.len)
    then In_established iss irs
    else In_syn_received passive iss irs
    )
    )

-- an endpoint after a segment, with its window and the ISS that it would take in LISTEN
abbrev pub hears : Endpoint → Control → ℕ → ℕ → Endpoint
hears In_closed c window iss = In_closed
hears In_listen c window iss = hears_in_listen c iss
hears (In_syn_sent own) c window iss = hears_in_syn_sent own c
hears (In_syn_received passive own irs) c window iss = hears_in_syn_received passive own irs c window
hears (In_established own irs) c window iss = In_established own irs

-- an endpoint after a RST at RCV.NXT
abbrev pub reset_of : Endpoint → Endpoint
reset_of In_closed = In_closed
reset_of In_listen = In_closed
reset_of (In_syn_sent iss) = In_closed
reset_of (In_syn_received passive iss irs) = back_from passive
reset_of (In_established iss irs) = In_closed

-- Whether an endpoint may send this. Any RST may be sent at any time. A segment of an established endpoint that acknowledges text
-- too counts as one of another connection (is_stray).
abbrev pub may_send : Endpoint → Control → Bool
may_send In_closed c = c.rst
may_send In_listen c = c.rst
may_send (In_syn_sent iss) c = c.rst || (c.syn && (c.number == iss && not (has_ack c.ack)))
may_send (In_syn_received passive iss irs) c =
    c.rst || (is_ack_of irs c.ack && (if c.syn then c.number == iss else c.number == after iss))
may_send (In_established iss irs) c = c.rst || (is_ack_of irs c.ack && not c.syn)

-- an endpoint, all that it ever sent, and each pair of ISS and IRS with which it was in SYN-RECEIVED or ESTABLISHED
pub record Side : Type 0 where
  pub me : Endpoint
  pub sent : List Control
  pub numbers : List (ℕ × ℕ)

-- the numbers, with those of the endpoint
abbrev pub with_numbers : Endpoint → List (ℕ × ℕ) → List (ℕ × ℕ)
with_numbers In_closed ns = ns
with_numbers In_listen ns = ns
with_numbers (In_syn_sent iss) ns = ns
with_numbers (In_syn_received passive iss irs) ns = (iss, irs) ∷ ns
with_numbers (In_established iss irs) ns = (iss, irs) ∷ ns

-- the side with another endpoint
abbrev pub becomes : Side → Endpoint → Side
becomes s e = record { me = e; sent = s.sent; numbers = with_numbers e s.numbers }

-- whether this ISS was never used with an IRS
abbrev pub is_fresh : ℕ → List (ℕ × ℕ) → Bool
is_fresh iss [] = true
is_fresh iss (pair ∷ ns) = if after pair.0 == after iss then false else is_fresh iss ns

-- The premise: a segment of another connection does not acknowledge the endpoint's own number.
abbrev pub is_stray : Endpoint → Control → Bool
is_stray In_closed c = true
is_stray In_listen c = true
is_stray (In_syn_sent iss) c = not (is_ack_of iss c.ack)
is_stray (In_syn_received passive iss irs) c = not (is_ack_of iss c.ack)
is_stray (In_established iss irs) c = true

-- What can happen at one side: the application's calls, a reset or an end, a segment that it sends, one of the peer's that comes,
-- at any time and any number of times, or one of another connection. Each new ISS is fresh.
pub data Move : Type 0 where
  Opens : (iss : ℕ) → Move
  Listens : Move
  Ends : Move
  Sends : (segment : Control) → Move
  Hears : (which window iss : ℕ) → Move
  Hears_stray : (segment : Control) (window iss : ℕ) → Move

-- the side after a segment came, if there is one
abbrev pub side_hears : Side → Option Control → ℕ → ℕ → Side
side_hears s None window iss = s
side_hears s (Some c) window iss = if is_fresh iss s.numbers then becomes s (hears s.me c window iss) else s

-- the side after a move, beside its peer
abbrev pub moves : Side → Side → Move → Side
moves s peer (Opens iss) = if is_fresh iss s.numbers then becomes s (In_syn_sent iss) else s
moves s peer Listens = becomes s In_listen
moves s peer Ends = becomes s In_closed
moves s peer (Sends c) = if may_send s.me c then record { me = s.me; sent = c ∷ s.sent; numbers = s.numbers } else s
moves s peer (Hears which window iss) = side_hears s (slice_get peer.sent which) window iss
moves s peer (Hears_stray c window iss) = if is_stray s.me c then side_hears s (Some c) window iss else s

-- both sides
pub record Ends_of : Type 0 where
  pub here : Side
  pub there : Side

-- a move of one of them
pub data Turn : Type 0 where
  Here : (m : Move) → Turn
  There : (m : Move) → Turn

-- both sides after it
abbrev pub turns : Ends_of → Turn → Ends_of
turns e (Here m) = record { here = moves e.here e.there m; there = e.there }
turns e (There m) = record { here = e.here; there = moves e.there e.here m }

-- both sides after all these
abbrev pub run_ends : List Turn → Ends_of → Ends_of
run_ends [] e = e
run_ends (t ∷ ts) e = run_ends ts (turns e t)

-- a side before its first move
abbrev pub idle : Side
idle = record { me = In_closed; sent = []; numbers = [] }

-- both of them
abbrev pub both_idle : Ends_of
both_idle = record { here = idle; there = idle }

-- the pair is among these, modulo 2^32
abbrev pub Has : List (ℕ × ℕ) → ℕ → ℕ → Type 0
Has [] iss irs = ⊥
Has (pair ∷ ns) iss irs = ((after pair.0 ≡ after iss) × (after pair.1 ≡ after irs)) ⊎ Has ns iss irs

-- An endpoint that is established has the peer's number, and the peer has its number: the peer was in an attempt with this pair.
abbrev pub Agrees : Endpoint → Side → Type 0
Agrees In_closed peer = Unit {0}
Agrees In_listen peer = Unit {0}
Agrees (In_syn_sent iss) peer = Unit {0}
Agrees (In_syn_received passive iss irs) peer = Unit {0}
Agrees (In_established iss irs) peer = Has peer.numbers irs iss

-- both do
pub record BothAgree (e : Ends_of) : Type 0 where
  pub here : Agrees e.here.me e.there
  pub there : Agrees e.there.me e.here

-- a segment without text
abbrev pub control : ℕ → Option ℕ → Bool → Control
control number ack syn = record { number = number; len = if syn then 1 else 0; ack = ack; syn = syn; rst = false }

-- figure 6
abbrev pub three_ways : List Turn
three_ways =
    There Listens ∷ Here (Opens 100) ∷ Here (Sends (control 100 None true)) ∷ There (Hears 0 64 300) ∷ There
    (Sends (control 300 (Some 101) true)) ∷ Here (Hears 0 64 0)
    ∷ Here (Sends (control 101 (Some 301) false)) ∷ There (Hears 0 64 0) ∷ []
