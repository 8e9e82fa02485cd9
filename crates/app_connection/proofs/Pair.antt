-- Two connections: what every call of one end keeps of both histories.
use Rattle.std.proofs.Common.{◌≡◌, ◌⊎◌, inl, inr, refl, sym, ◌∙◌, ap, subst, ℕ, ◌+◌, ◌-◌, ◌<◌, ◌≤◌, List, [], ◌∷◌, ◌++◌, Bool, true, false, map, take, length, arith, length-append}
use Rattle.std.specs.Prelude.{Option, Some, None, IfSome, slice_get}
use Rattle.std.proofs.lemmas.Bool.Decides.{nat_tests}
use Rattle.std.proofs.lemmas.List.{length-map, length-take, length-drop}
use Rattle.tcp_stream.specs.Endpoint.{Item, Receiver, Syn, Byte}
use Rattle.tcp_stream.specs.Network.{World, Segment, Ack, end_of, is_alive, start, stream}
use Rattle.tcp_stream.proofs.Standing.{reached_good}
use Rattle.tcp_stream.specs.Items.{syn_of}
use Rattle.tcp_stream.specs.Ring.{ring}
use Rattle.tcp_stream.specs.Stands.{IsReached, SegmentComes, Stands}
use Rattle.tcp_stream.specs.Waits.{AckComes, Waits, pending}
use Rattle.tcp_stream.specs.declared.sending.Sending.{Sending}
use Rattle.app_connection.specs.declared.state.Phase.TheVariants as phase
use Rattle.app_connection.specs.Endpoints.{OutFits}
use Rattle.app_connection.specs.Sequence.{after}
use Rattle.app_connection.specs.States.{has_peer, state_from}
use Rattle.app_connection.specs.Runs.{End, IsOneOf, Sent}
use Rattle.app_connection.specs.Worlds.{Brings, IsOut, Said}
use Rattle.app_connection.proofs.Moving.{ByReceiver, BySender, Grows, stands_kept}

-- The items are in the network, and their sender had written so many bytes when they were sent: they are not far before that.
pub record IsKept (w : World) (wrote number : ℕ) (items : List Item) : Type 0 where
  pub which : ℕ
  pub segment : Segment
  pub there : slice_get w.segments which ≡ Some segment
  pub same : segment.number ≡ number
  pub brings : segment.items ≡ items
  pub recent : wrote + 1 ≤ segment.place + 1073741824

-- the same of an acknowledgement
pub record IsKeptAck (w : World) (wrote number : ℕ) : Type 0 where
  pub which : ℕ
  pub ack : Ack
  pub there : slice_get w.acks which ≡ Some ack
  pub same : ack.number ≡ number
  pub recent : wrote + 1 ≤ ack.place + 1073741824

-- what holds of each segment that was sent: its items are in the history that its sender writes
abbrev pub TextIn : World → Sent → Type 0
TextIn w t = (t.said.rst ≡ true) ⊎ ((t.said.items ≡ []) ⊎ IsKept w t.wrote t.said.number t.said.items)

-- and its acknowledgement in the one that its sender reads
abbrev pub AckIn : World → Sent → Type 0
AckIn w t = (t.said.rst ≡ true) ⊎ IfSome t.said.ack (λ number. IsKeptAck w t.peer_wrote number)

abbrev pub Each : (Sent → Type 0) → List Sent → Type 0
Each P [] = Unit {0}
Each P (t ∷ ts) = P t × Each P ts

pub each_weaker : (P Q : Sent → Type 0) → ((t : Sent) → P t → Q t) → (ts : List Sent) → Each P ts → Each Q ts
each_weaker P Q f [] each = tt
each_weaker P Q f (t ∷ ts) each = (f t each.0, each_weaker P Q f ts each.1)

-- A history between two ends, but for the sender's half: what was written, what is read, and where each segment is.
pub record Carries (w : World) (a b : End) : Type 0 where
  pub reached : IsReached w
  pub written : w.written ≡ a.wrote
  pub stands : Stands w b.read b.connection.receiving b.incoming
  pub fresh : b.was_opened ≡ false → (w.receiver.is_open ≡ false) × (w.receiver.got ≡ [])
  pub texts : Each (TextIn w) a.sent
  pub acks : Each (AckIn w) b.sent

-- the sender's half too, once it was opened
pub record Direction (w : World) (a b : End) : Type 0 where
  pub carries : Carries w a b
  pub waits : a.was_opened ≡ true → Waits w a.connection.sending a.outgoing
  pub sent : a.was_opened ≡ true → a.connection.phase ≡ phase.SynSent → IsOut w a.connection.iss (Syn ∷ [])
  pub received : a.was_opened ≡ true → a.connection.phase ≡ phase.SynReceived → IsOut w a.connection.iss (Syn ∷ [])
  pub idle : a.was_opened ≡ false → w ≡ start 0

-- what an end knows alone
pub record IsSound (a : End) : Type 0 where
  pub out : OutFits a.connection.sending (length a.outgoing)
  pub peerless : a.was_opened ≡ false → has_peer (state_from a.connection) ≡ false
  pub sent : a.connection.phase ≡ phase.SynSent → a.connection.receiving.is_open ≡ false
  pub received : a.connection.phase ≡ phase.SynReceived → (a.connection.receiving.is_open ≡ true) × (a.connection.receiving.next ≡ after a.connection.irs)

-- both ends and both histories
pub record Pair (a b : End) : Type 0 where
  pub there : World
  pub back : World
  pub writes : Direction there a b
  pub reads : Direction back b a
  pub here_sound : IsSound a
  pub there_sound : IsSound b

pub turned : (a b : End) → Pair a b → Pair b a
turned a b p = record { there = p.back; back = p.there; writes = p.reads; reads = p.writes; here_sound = p.there_sound; there_sound = p.here_sound }

-- ---- how old a segment is

-- the stream is at most so long
stream_short : (written : List ℕ) (closed : Bool) → length (stream written closed) ≤ length written + 2
stream_short written true = omega (arith, length-append (map Byte written) (end_of true), length-map written Byte)
stream_short written false = omega (arith, length-append (map Byte written) (end_of false), length-map written Byte)

fin_within : (closed has_fin : Bool) → (closed ≡ false → has_fin ≡ false) → length (end_of has_fin) ≤ length (end_of closed)
fin_within true true still = omega arith
fin_within true false still = omega arith
fin_within false fin still = omega (arith, ap (λ (b : Bool). length (end_of b)) (still refl))

syn_short : (syn : Bool) → length (syn_of syn) ≤ 1
syn_short true = omega arith
syn_short false = omega arith

-- SND.UNA is within a ring of what was written
pub wrote_near : (w : World) (s : Sending) (outgoing : List ℕ) → OutFits s (length outgoing) → Waits w s outgoing → length w.written + 1 ≤ w.acked + 1073741824
wrote_near w s outgoing fits waits =
    let bytes = map Byte (take s.len (ring s.start outgoing)) in
    let whole : length (stream w.written w.closed) - w.acked ≡ length (pending s outgoing) = sym (length-drop w.acked (stream w.written w.closed)) ∙ ap length waits.held in
    let fin = fin_within w.closed s.has_fin (λ is. waits.still (waits.closed ∙ is)) in
    omega (
      arith,
      whole,
      fin,
      syn_short s.has_syn,
      fits.len,
      fits.small,
      waits.flight,
      waits.within,
      length-append (syn_of s.has_syn) (bytes ++ end_of s.has_fin),
      length-append bytes (end_of s.has_fin),
      length-map (take s.len (ring s.start outgoing)) Byte,
      length-take s.len (ring s.start outgoing),
      length-append (map Byte w.written) (end_of w.closed),
      length-map w.written Byte,
    )

-- the receiver has at most what was written
got_near : (w : World) → IsReached w → length w.receiver.got ≤ length w.written + 2
got_near w reached = let good = reached_good w reached in omega (arith, good.got.within, stream_short w.written w.closed)

pub alive_text : (w : World) (wrote : ℕ) (x : Segment) → IsReached w → length w.written < wrote + 1073741823 → wrote + 1 ≤ x.place + 1073741824 → is_alive (length w.receiver.got) x.place ≡ true
alive_text w wrote x reached young near = let got = got_near w reached in let lt : length w.receiver.got < x.place + 2147483648 = omega arith in grind (arith, nat_tests)

alive_ack : (w : World) (wrote : ℕ) (x : Ack) → IsReached w → length w.written < wrote + 1073741823 → wrote + 1 ≤ x.place + 1073741824 → is_alive w.acked x.place ≡ true
alive_ack w wrote x reached young near = let got = got_near w reached in let counted = (reached_good w reached).counted in let lt : w.acked < x.place + 2147483648 = omega arith in grind (arith, nat_tests)

-- ---- a segment that comes

come_text : (w : World) (t : Sent) (s : Said) → IsReached w → length w.written < t.wrote + 1073741823 → t.said ≡ s → TextIn w t → (s.rst ≡ true) ⊎ ((s.items ≡ []) ⊎ ((which : ℕ) × SegmentComes w which s.number s.items))
come_text w t s reached young is (inl rst) = inl (ap (λ (x : Said). x.rst) (sym is) ∙ rst)
come_text w t s reached young is (inr (inl none)) = inr (inl (ap (λ (x : Said). x.items) (sym is) ∙ none))
come_text w t s reached young is (inr (inr k)) = inr (inr (
  k.which,
  record {
    segment = k.segment;
    there = k.there;
    same = k.same ∙ ap (λ (x : Said). x.number) is;
    brings = k.brings ∙ ap (λ (x : Said). x.items) is;
    alive = alive_text w t.wrote k.segment reached young k.recent;
  },
))

pub come_acked : (w : World) (wrote : ℕ) (o : Option ℕ) → IsReached w → length w.written < wrote + 1073741823 → IfSome o (λ number. IsKeptAck w wrote number) → IfSome o (λ number. (which : ℕ) × AckComes w which number)
come_acked w wrote None reached young kept = tt
come_acked w wrote (Some number) reached young kept = (kept.which, record { ack = kept.ack; there = kept.there; same = kept.same; alive = alive_ack w wrote kept.ack reached young kept.recent })

come_ack : (w : World) (t : Sent) (s : Said) → IsReached w → length w.written < t.peer_wrote + 1073741823 → t.said ≡ s → AckIn w t → (s.rst ≡ true) ⊎ IfSome s.ack (λ number. (which : ℕ) × AckComes w which number)
come_ack w t s reached young is (inl rst) = inl (ap (λ (x : Said). x.rst) (sym is) ∙ rst)
come_ack w t s reached young is (inr kept) = inr (subst (λ (o : Option ℕ). IfSome o (λ number. (which : ℕ) × AckComes w which number)) (ap (λ (x : Said). x.ack) is) (come_acked w t.peer_wrote t.said.ack reached young kept))

join : (there back : World) (s : Said) → (s.rst ≡ true) ⊎ ((s.items ≡ []) ⊎ ((which : ℕ) × SegmentComes back which s.number s.items)) → (s.rst ≡ true) ⊎ IfSome s.ack (λ number. (which : ℕ) × AckComes there which number)
    → (s.rst ≡ true) ⊎ Brings there back s
join there back s (inl rst) ack = inl rst
join there back s (inr text) (inl rst) = inl rst
join there back s (inr text) (inr ack) = inr (record { text = text; ack = ack })

-- one of the segments that the peer sent
pub comes_from : (there back : World) (s : Said) (ts : List Sent) → IsReached there → IsReached back → IsOneOf ts (length back.written) (length there.written) s → Each (TextIn back) ts → Each (AckIn there) ts → (s.rst ≡ true) ⊎ Brings there back s
comes_from there back s [] far near from texts acks = absurd from
comes_from there back s (t ∷ ts) far near (inl is) texts acks = join there back s (come_text back t s near is.1 is.0 texts.0) (come_ack there t s far is.2 is.0 acks.0)
comes_from there back s (t ∷ ts) far near (inr rest) texts acks = comes_from there back s ts far near rest texts.1 acks.1

-- ---- what stays where it is

text_grows : (w v : World) (t : Sent) → Grows w.segments v.segments → TextIn w t → TextIn v t
text_grows w v t grows (inl rst) = inl rst
text_grows w v t grows (inr (inl none)) = inr (inl none)
text_grows w v t grows (inr (inr k)) = let m = grows k.which k.segment k.there in inr (inr (record { which = m.0; segment = k.segment; there = m.1; same = k.same; brings = k.brings; recent = k.recent }))

kept_grows : (w v : World) (wrote : ℕ) (o : Option ℕ) → Grows w.acks v.acks → IfSome o (λ number. IsKeptAck w wrote number) → IfSome o (λ number. IsKeptAck v wrote number)
kept_grows w v wrote None grows kept = tt
kept_grows w v wrote (Some number) grows kept = let m = grows kept.which kept.ack kept.there in record { which = m.0; ack = kept.ack; there = m.1; same = kept.same; recent = kept.recent }

ack_grows : (w v : World) (t : Sent) → Grows w.acks v.acks → AckIn w t → AckIn v t
ack_grows w v t grows (inl rst) = inl rst
ack_grows w v t grows (inr kept) = inr (kept_grows w v t.peer_wrote t.said.ack grows kept)

pub texts_grow : (w v : World) (ts : List Sent) → Grows w.segments v.segments → Each (TextIn w) ts → Each (TextIn v) ts
texts_grow w v ts grows each = each_weaker (TextIn w) (TextIn v) (λ t. text_grows w v t grows) ts each

pub acks_grow : (w v : World) (ts : List Sent) → Grows w.acks v.acks → Each (AckIn w) ts → Each (AckIn v) ts
acks_grow w v ts grows each = each_weaker (AckIn w) (AckIn v) (λ t. ack_grows w v t grows) ts each

pub grows_as : {X : Type 0} (old new : List X) → new ≡ old → Grows old new
grows_as {X = X} old new is n x there = (n, ap (λ (l : List X). slice_get l n) is ∙ there)

-- a history after its sender's events, with what its receiver's end sees of it
pub carries_on : (w v : World) (a b : End) → BySender w v → v.written ≡ w.written → Carries w a b → Carries v a b
carries_on w v a b by still c = record {
  reached = by.reached c.reached;
  written = still ∙ c.written;
  stands = stands_kept w v b.read b.connection.receiving b.incoming by c.stands;
  fresh = λ no. let was = c.fresh no in let same = ap (λ (x : World). x.receiver) by.same in (ap (λ (r : Receiver). r.is_open) same ∙ was.0, ap (λ (r : Receiver). r.got) same ∙ was.1);
  texts = texts_grow w v a.sent by.segments c.texts;
  acks = acks_grow w v b.sent (grows_as w.acks v.acks (ap (λ (x : World). x.acks) by.same)) c.acks;
}

pub out_kept : (w v : World) (number : ℕ) (items : List Item) → ByReceiver w v → IsOut w number items → IsOut v number items
out_kept w v number items by out = subst (λ (x : World). IsOut x number items) (sym by.same) (record { which = out.which; segment = out.segment; there = out.there; same = out.same; brings = out.brings; recent = out.recent })
