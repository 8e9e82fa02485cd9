-- The histories after a step, and what went out in it.
use Rattle.std.proofs.Common.{◌≡◌, ◌⊎◌, ◌+◌, inl, inr, refl, sym, ◌∙◌, ap, subst, ℕ, List, [], ◌∷◌, ◌++◌, Bool, true, false, map, length, nat_lt, take, drop, arith}
use Rattle.std.specs.Prelude.{Option, Some, None, IfSome, option_map, slice_get}
use Rattle.std.proofs.lemmas.Bool.{cond_both, false≢true}
use Rattle.tcp_stream.specs.Endpoint.{Item, Syn, Byte}
use Rattle.tcp_stream.specs.Network.{World, Send, Segment as Sent, end_of, bytes_of, happens, is_ended, run, sends, stream}
use Rattle.tcp_stream.proofs.Standing.{answers}
use Rattle.tcp_stream.specs.Items.{items_of, syn_of}
use Rattle.tcp_stream.specs.Stands.{Stands, SegmentComes, IsAnswer, again}
use Rattle.tcp_stream.specs.Waits.{Waits, IsSend}
use Rattle.tcp_stream.specs.declared.receiving.Receiving.{Receiving}
use Rattle.tcp_stream.specs.declared.sending.Sending.{Sending}
use Rattle.app_connection.specs.Endpoints.{endpoint_in, endpoint_of, len_of, one}
use Rattle.app_connection.specs.Sequence.{after}
use Rattle.app_connection.specs.SetUp.{Endpoint, In_closed, In_listen, In_syn_sent, In_syn_received, In_established}
use Rattle.app_connection.specs.Steps.{IsFresh}
use Rattle.app_connection.specs.Worlds.{Arrives, Brings, Goes, GoesOut, IsAnswered, IsOut, OfReceiver, Said, Stand, StandsLater, WaitsLater, Went, replied, said}
use Rattle.app_connection.specs.declared.connection.Connection.{Connection}
use Rattle.app_connection.specs.declared.segment.Reply.{Reply}
use Rattle.app_connection.specs.declared.segment.Segment.{Segment}
use Rattle.app_connection.specs.declared.state.Phase.{Phase}
use Rattle.app_connection.specs.declared.state.Phase.TheVariants as phase

-- no event
pub waits_now : (there : World) (s : Sending) (outgoing : List ℕ) → Waits there s outgoing → WaitsLater there s outgoing
waits_now there s outgoing waits = record { events = []; own = tt; waits = waits }

pub stands_now : (back : World) (consumed : List ℕ) (r : Receiving) (incoming : List ℕ) → Stands back consumed r incoming → StandsLater back consumed r incoming
stands_now back consumed r incoming stands = record { events = []; own = tt; stands = stands }

-- the half is another one's
pub waits_as : (there : World) (s t : Sending) (outgoing : List ℕ) → t ≡ s → WaitsLater there s outgoing → WaitsLater there t outgoing
waits_as there s t outgoing is waits = subst (λ (x : Sending). WaitsLater there x outgoing) (sym is) waits

pub stands_as : (back : World) (consumed : List ℕ) (r t : Receiving) (incoming : List ℕ) → t ≡ r → StandsLater back consumed r incoming → StandsLater back consumed t incoming
stands_as back consumed r t incoming is stands = subst (λ (x : Receiving). StandsLater back consumed x incoming) (sym is) stands

-- the connection is established, or there is none
pub record IsSettled (c : Connection) : Type 0 where
  pub sent : c.phase ≡ phase.SynSent → ⊥
  pub received : c.phase ≡ phase.SynReceived → ⊥

pub settled : (c : Connection) (p : Phase) → c.phase ≡ p → (p ≡ phase.SynSent → ⊥) → (p ≡ phase.SynReceived → ⊥) → IsSettled c
settled c p is sent received = record { sent = λ e. sent (sym is ∙ e); received = λ e. received (sym is ∙ e) }

pub settled_open : (c : Connection) → c.phase ≡ phase.Open → IsSettled c
settled_open c is = settled c phase.Open is (λ e. absurd (cc)) (λ e. absurd (cc))

pub settled_shut : (c : Connection) → c.phase ≡ phase.Closed → IsSettled c
settled_shut c is = settled c phase.Closed is (λ e. absurd (cc)) (λ e. absurd (cc))

pub settled_listen : (c : Connection) → c.phase ≡ phase.Listen → IsSettled c
settled_listen c is = settled c phase.Listen is (λ e. absurd (cc)) (λ e. absurd (cc))

-- the phase of an endpoint
phase_of : Endpoint → Phase
phase_of In_closed = phase.Closed
phase_of In_listen = phase.Listen
phase_of (In_syn_sent iss) = phase.SynSent
phase_of (In_syn_received passive iss irs) = phase.SynReceived
phase_of (In_established iss irs) = phase.Open

phase_in : (p : Phase) (passive : Bool) (iss irs : ℕ) → phase_of (endpoint_in p passive iss irs) ≡ p
unfolding phase_of
phase_in phase.Closed passive iss irs = refl
phase_in phase.Listen passive iss irs = refl
phase_in phase.SynSent passive iss irs = refl
phase_in phase.SynReceived passive iss irs = refl
phase_in phase.Open passive iss irs = refl

pub same_phase : (c d : Connection) → endpoint_of d ≡ endpoint_of c → d.phase ≡ c.phase
same_phase c d is = sym (phase_in d.phase d.is_passive d.iss d.irs) ∙ ap phase_of is ∙ phase_in c.phase c.is_passive c.iss c.irs

pub shut_phase : (c : Connection) → endpoint_of c ≡ In_closed → c.phase ≡ phase.Closed
unfolding phase_of
shut_phase c is = sym (phase_in c.phase c.is_passive c.iss c.irs) ∙ ap phase_of is

pub listen_phase : (c : Connection) → endpoint_of c ≡ In_listen → c.phase ≡ phase.Listen
unfolding phase_of
listen_phase c is = sym (phase_in c.phase c.is_passive c.iss c.irs) ∙ ap phase_of is

pub sent_phase : (c : Connection) (iss : ℕ) → endpoint_of c ≡ In_syn_sent iss → c.phase ≡ phase.SynSent
unfolding phase_of
sent_phase c iss is = sym (phase_in c.phase c.is_passive c.iss c.irs) ∙ ap phase_of is

pub settled_as : (c d : Connection) → endpoint_of d ≡ endpoint_of c → IsSettled c → IsSettled d
settled_as c d is s = settled d c.phase (same_phase c d is) s.sent s.received

-- both halves
pub went : (there back : World) (consumed : List ℕ) (c : Connection) (outgoing incoming : List ℕ) → IsSettled c → WaitsLater there c.sending outgoing → StandsLater back consumed c.receiving incoming → Went there back consumed c outgoing incoming
went there back consumed c outgoing incoming s waits stands = record {
  acks = waits.events;
  texts = stands.events;
  of_sender = waits.own;
  of_receiver = stands.own;
  stand = record { waits = waits.waits; stands = stands.stands; sent = λ is. absurd (s.sent is); received = λ is. absurd (s.received is) };
}

-- no event
pub went_now : (there back : World) (consumed : List ℕ) (c : Connection) (outgoing incoming : List ℕ) → Stand there back consumed c outgoing incoming → Went there back consumed c outgoing incoming
went_now there back consumed c outgoing incoming stand = record { acks = []; texts = []; of_sender = tt; of_receiver = tt; stand = stand }

-- the connection is another one
pub stand_as : (there back : World) (consumed : List ℕ) (c d : Connection) (outgoing incoming : List ℕ) → d ≡ c → Stand there back consumed c outgoing incoming → Stand there back consumed d outgoing incoming
stand_as there back consumed c d outgoing incoming is stand = subst (λ (x : Connection). Stand there back consumed x outgoing incoming) (sym is) stand

-- neither half changed
pub stand_still : (there back : World) (consumed : List ℕ) (c d : Connection) (outgoing incoming : List ℕ) → IsSettled d → d.sending ≡ c.sending → d.receiving ≡ c.receiving → Stand there back consumed c outgoing incoming → Stand there back consumed d outgoing incoming
stand_still there back consumed c d outgoing incoming s sending receiving stand = record {
  waits = subst (λ (x : Sending). Waits there x outgoing) (sym sending) stand.waits;
  stands = subst (λ (x : Receiving). Stands back consumed x incoming) (sym receiving) stand.stands;
  sent = λ is. absurd (s.sent is);
  received = λ is. absurd (s.received is);
}

each_phase : (p : Phase) → (p ≡ phase.Closed) ⊎ ((p ≡ phase.Listen) ⊎ ((p ≡ phase.Closed → ⊥) × (p ≡ phase.Listen → ⊥)))
each_phase phase.Closed = inl refl
each_phase phase.Listen = inr (inl refl)
each_phase phase.SynSent = inr (inr ((λ e. absurd (cc)), (λ e. absurd (cc))))
each_phase phase.SynReceived = inr (inr ((λ e. absurd (cc)), (λ e. absurd (cc))))
each_phase phase.Open = inr (inr ((λ e. absurd (cc)), (λ e. absurd (cc))))

-- a RST came
pub stand_reset : (there back : World) (consumed : List ℕ) (c d : Connection) (outgoing incoming : List ℕ) → d.sending ≡ c.sending → d.receiving ≡ c.receiving → ((d.phase ≡ phase.Closed → ⊥) → (d.phase ≡ phase.Listen → ⊥) → d ≡ c)
    → Stand there back consumed c outgoing incoming → Stand there back consumed d outgoing incoming
stand_reset there back consumed c d outgoing incoming sending receiving stays stand = elim (each_phase d.phase) [
  | inl shut ↦ stand_still there back consumed c d outgoing incoming (settled_shut d shut) sending receiving stand
  | inr (inl listens) ↦ stand_still there back consumed c d outgoing incoming (settled_listen d listens) sending receiving stand
  | inr (inr other) ↦ stand_as there back consumed c d outgoing incoming (stays other.0 other.1) stand
]

-- no event, and this went out
pub goes_at : (there back : World) (consumed : List ℕ) (d : Connection) (outgoing incoming : List ℕ) (o : Option Said) → Stand there back consumed d outgoing incoming → IfSome o (GoesOut there back) → Goes there back consumed d outgoing incoming o
unfolding went_now
goes_at there back consumed d outgoing incoming o stand out = record { went = went_now there back consumed d outgoing incoming stand; out = out }

-- an acknowledgement of the receiver goes out
pub says_ack : (there back : World) (s : Said) (consumed : List ℕ) (r : Receiving) (incoming : List ℕ) → s.items ≡ [] → s.ack ≡ Some r.next → r.is_open ≡ true → Stands back consumed r incoming → GoesOut there back s
says_ack there back s consumed r incoming none ack is_open stands =
    inr (record { text = inl none; ack = subst (λ (o : Option ℕ). IfSome o (λ number. IsAnswer back number)) (sym ack) (answers back consumed r incoming is_open stands) })

-- a SYN with this acknowledgement
pub says_syn : (there back : World) (s : Said) (consumed : List ℕ) (r : Receiving) (incoming : List ℕ) → IsOut there s.number (Syn ∷ []) → s.items ≡ Syn ∷ [] → s.ack ≡ Some r.next → r.is_open ≡ true → Stands back consumed r incoming
    → GoesOut there back s
says_syn there back s consumed r incoming out items ack is_open stands =
    inr (record {
      text = inr (subst (λ (l : List Item). IsOut there s.number l) (sym items) out);
      ack = subst (λ (o : Option ℕ). IfSome o (λ number. IsAnswer back number)) (sym ack) (answers back consumed r incoming is_open stands);
    })

-- a SYN without one
pub says_first : (there back : World) (s : Said) → IsOut there s.number (Syn ∷ []) → s.items ≡ Syn ∷ [] → s.ack ≡ None → GoesOut there back s
says_first there back s out items ack =
    inr (record {
      text = inr (subst (λ (l : List Item). IsOut there s.number l) (sym items) out);
      ack = subst (λ (o : Option ℕ). IfSome o (λ number. IsAnswer back number)) (sym ack) tt;
    })

-- a reply without SYN that is answered in the history
pub says_reply : (there back : World) (r : Reply) → r.syn ≡ false → IsAnswered back r → GoesOut there back (replied r)
says_reply there back r syn (inl rst) = inl rst
says_reply there back r syn (inr ack) = inr (record { text = inl (ap syn_of syn); ack = ack })

-- what each reply is
pub each_reply : (P : Said → Type 0) (o : Option Reply) → IfSome o (λ r. P (replied r)) → IfSome (option_map replied o) P
each_reply P None h = tt
each_reply P (Some r) h = h

pub if_some : {X : Type 0} (P Q : X → Type 0) (o : Option X) → ((x : X) → P x → Q x) → IfSome o P → IfSome o Q
if_some P Q None f h = tt
if_some P Q (Some x) f h = f x h

pub if_both : {X : Type 0} (P Q R : X → Type 0) (o : Option X) → ((x : X) → P x → Q x → R x) → IfSome o P → IfSome o Q → IfSome o R
if_both P Q R None f h k = tt
if_both P Q R (Some x) f h k = f x h k

-- the halves went on, and this goes out wherever the connection stands
pub goes_with : (there back : World) (consumed : List ℕ) (c : Connection) (outgoing incoming : List ℕ) (o : Option Said) → Went there back consumed c outgoing incoming
    → ((v w : World) → Stand v w consumed c outgoing incoming → IfSome o (GoesOut v w)) → Goes there back consumed c outgoing incoming o
goes_with there back consumed c outgoing incoming o w out = record { went = w; out = out (run w.acks there) (run w.texts back) w.stand }

-- the halves went on, and a reply without SYN is what the receiver then answers
pub goes_reply : (there back : World) (consumed : List ℕ) (c : Connection) (outgoing incoming : List ℕ) (o : Option Reply) → Went there back consumed c outgoing incoming → IfSome o (λ r. r.syn ≡ false)
    → IfSome o (λ r. (w : World) (consumed : List ℕ) → Stands w consumed c.receiving incoming → IsAnswered w r) → Goes there back consumed c outgoing incoming (option_map replied o)
goes_reply there back consumed c outgoing incoming o w syn answered = record {
  went = w;
  out = each_reply (GoesOut (run w.acks there) (run w.texts back)) o
      (if_both (λ r. r.syn ≡ false) (λ r. (w : World) (consumed : List ℕ) → Stands w consumed c.receiving incoming → IsAnswered w r) (λ r. GoesOut (run w.acks there) (run w.texts back) (replied r)) o
      (λ r no h. says_reply _ _ r no (h (run w.texts back) consumed w.stand.stands)) syn answered);
}

-- what the sender sends acknowledges nothing
keeps_acked : (w : World) (offset count : ℕ) → (happens w (Send offset count)).acked ≡ w.acked
keeps_acked w offset count = cond_both (nat_lt (length (stream w.written w.closed)) (w.acked + offset)) _ _ (λ (v : World). v.acked ≡ w.acked) (λ past. refl) (λ within. sends_keep w (w.acked + offset) (take count (drop (w.acked + offset) (stream w.written w.closed))))
  where
    sends_keep : (w : World) (place : ℕ) (items : List Item) → (sends w place items).acked ≡ w.acked
    sends_keep w place items = cond_both (nat_lt (w.acked + 2147483648) (place + length items)) _ _ (λ (v : World). v.acked ≡ w.acked) (λ far. refl) (λ near. refl)

-- the acknowledgement of the peer's SYN goes out before text comes
pub says_first_ack : (there back : World) (s : Said) (consumed : List ℕ) (c : Connection) (outgoing incoming : List ℕ) → c.phase ≡ phase.SynReceived → s.items ≡ [] → s.ack ≡ Some (after c.irs) → Stand there back consumed c outgoing incoming → GoesOut there back s
says_first_ack there back s consumed c outgoing incoming is none ack stand =
    let known = stand.received is in
    says_ack there back s consumed c.receiving incoming none (ack ∙ ap (λ (n : ℕ). Some n) (sym known.2)) known.1 stand.stands

-- the SYN goes out again with it
pub says_syn_ack : (there back : World) (s : Said) (consumed : List ℕ) (c : Connection) (outgoing incoming : List ℕ) → c.phase ≡ phase.SynReceived → s.number ≡ c.iss → s.items ≡ Syn ∷ [] → s.ack ≡ Some (after c.irs)
    → Stand there back consumed c outgoing incoming → GoesOut there back s
says_syn_ack there back s consumed c outgoing incoming is number items ack stand =
    let known = stand.received is in
    says_syn there back s consumed c.receiving incoming (subst (λ (n : ℕ). IsOut there n (Syn ∷ [])) (sym number) known.0) items (ack ∙ ap (λ (n : ℕ). Some n) (sym known.2)) known.1 stand.stands

-- the first SYN was taken
pub taken_stand : (there back : World) (consumed : List ℕ) (d : Connection) (outgoing incoming : List ℕ) → Waits there d.sending outgoing → Stands back consumed d.receiving incoming
    → d.phase ≡ phase.SynReceived → IsOut there d.iss (Syn ∷ []) → (d.receiving.is_open ≡ true) × (d.receiving.next ≡ after d.irs) → Stand there back consumed d outgoing incoming
taken_stand there back consumed d outgoing incoming waits stands is out known = record {
  waits = waits;
  stands = stands;
  sent = λ other. absurd (let e : phase.SynReceived ≡ phase.SynSent = sym is ∙ other in cc);
  received = λ same. (out, known.0, known.1);
}

-- an acknowledgement without SYN
pub says_bare : (there back : World) (r : Reply) → r.syn ≡ false → IfSome r.ack (λ number. IsAnswer back number) → GoesOut there back (replied r)
says_bare there back r syn ack = inr (record { text = inl (ap syn_of syn); ack = ack })

-- what is sent is in the history
pub sent_out : (w : World) (offset number : ℕ) (items : List Item) → IsSend w offset number items → IsOut (happens w (Send offset (length items))) number items
sent_out w offset number items is = record {
  which = 0;
  segment = record { place = w.acked + offset; number = number; items = items };
  there = ap (λ (l : List Sent). slice_get l 0) is.last;
  same = refl;
  brings = refl;
  recent = omega (arith, keeps_acked w offset (length items));
}

-- the sending half sends
pub sends_goes : (there back : World) (consumed : List ℕ) (c : Connection) (t : Sending) (outgoing incoming : List ℕ) (offset : ℕ) (items : List Item) (o : Option Said) → c.phase ≡ phase.Open
    → ((v : World) → Waits v c.sending outgoing → Waits (happens v (Send offset (length items))) t outgoing) → Stand there back consumed c outgoing incoming
    → IfSome o (GoesOut (happens there (Send offset (length items))) back) → Goes there back consumed (record c { sending = t }) outgoing incoming o
sends_goes there back consumed c t outgoing incoming offset items o opened after stand out =
    let s = settled_open c opened in
    record {
      went = record {
        acks = Send offset (length items) ∷ [];
        texts = [];
        of_sender = tt;
        of_receiver = tt;
        stand = record { waits = after there stand.waits; stands = stand.stands; sent = λ is. absurd (s.sent is); received = λ is. absurd (s.received is) };
      };
      out = out;
    }

-- a segment with a SYN and no more
pub only_syn : (s : Segment) → s.syn ≡ true → s.payload.now ≡ [] → s.fin ≡ false → (said s).items ≡ Syn ∷ []
only_syn s syn text fin = ap (λ (b : Bool). items_of b s.payload.now s.fin) syn ∙ ap (λ (l : List ℕ). items_of true l s.fin) text ∙ ap (λ (b : Bool). items_of true [] b) fin

-- a connection that was opened
pub opened_stand : (there back : World) (c : Connection) (outgoing incoming : List ℕ) → Waits there c.sending outgoing → Stands back [] c.receiving incoming → IsOut there c.iss (Syn ∷ []) → c.receiving.is_open ≡ false
    → Stand there back [] (record c { phase = phase.SynSent }) outgoing incoming
opened_stand there back c outgoing incoming waits stands out shut = record { waits = waits; stands = stands; sent = λ is. (out, shut); received = λ other. absurd (cc) }

-- a reply that is this one, if there is one
pub says_challenge : (there back : World) (r : Reply) (o : Option Reply) → GoesOut there back (replied r) → IfSome o (λ x. x ≡ r) → IfSome (option_map replied o) (GoesOut there back)
says_challenge there back r o says is = each_reply (GoesOut there back) o (if_some (λ x. x ≡ r) (λ x. GoesOut there back (replied x)) o (λ x e. subst (λ (y : Reply). GoesOut there back (replied y)) (sym e) says) is)

-- text that came without a SYN
pub text_of : (back : World) (which : ℕ) (number : ℕ) (syn : Bool) (payload : List ℕ) (fin : Bool) → syn ≡ false → SegmentComes back which number (items_of syn payload fin) → SegmentComes back which number (items_of false payload fin)
text_of back which number syn payload fin is comes = subst (λ (b : Bool). SegmentComes back which number (items_of b payload fin)) is comes

-- a segment without items takes no sequence number
no_items : (syn : Bool) (payload : List ℕ) (fin : Bool) → items_of syn payload fin ≡ [] → length payload + one syn + one fin ≡ 0
no_items true payload fin is = absurd (cc)
no_items false (b ∷ payload) fin is = absurd (cc)
no_items false [] true is = absurd (cc)
no_items false [] false is = refl

-- the receiving half after the text of a segment, if it has some
pub text_later : (back : World) (consumed : List ℕ) (s : Segment) (old new : Receiving) (before after : List ℕ) → s.syn ≡ false → ((said s).items ≡ []) ⊎ ((which : ℕ) × SegmentComes back which s.number (said s).items)
    → (len_of s ≡ 0 → (new ≡ old) × (after ≡ before)) → ((which : ℕ) → SegmentComes back which s.number (items_of false s.payload.now s.fin) → StandsLater back consumed new after) → Stands back consumed old before → StandsLater back consumed new after
text_later back consumed s old new before after syn (inl none) still later stands =
    let same = still (no_items s.syn s.payload.now s.fin none) in
    stands_now back consumed new after (subst (λ (l : List ℕ). Stands back consumed new l) (sym same.1) (subst (λ (r : Receiving). Stands back consumed r before) (sym same.0) stands))
text_later back consumed s old new before after syn (inr comes) still later stands = later comes.0 (text_of back comes.0 s.number s.syn s.payload.now s.fin syn comes.1)

-- segments that come again
pub comings : (segments : List ℕ) → OfReceiver (again segments)
comings [] = tt
comings (which ∷ more) = comings more

-- a segment that is no RST
pub brought : (there back : World) (s : Segment) → s.rst ≡ false → Arrives there back s → Brings there back (said s)
brought there back s not (inl is) = absurd (false≢true (sym not ∙ is))
brought there back s not (inr brings) = brings

-- the acknowledgement that came
pub ack_of : (P : ℕ → Type 0) (o : Option ℕ) (ack : ℕ) → o ≡ Some ack → IfSome o P → P ack
ack_of P o ack is some = let h : IfSome (Some ack) P = subst (λ (x : Option ℕ). IfSome x P) is some in h

-- the SYN that came
pub syn_of_text : (back : World) (number : ℕ) (syn : Bool) (payload : List ℕ) (fin : Bool) → syn ≡ true → (items_of syn payload fin ≡ []) ⊎ ((which : ℕ) × SegmentComes back which number (items_of syn payload fin))
    → (which : ℕ) × SegmentComes back which number (Syn ∷ (map Byte payload ++ end_of fin))
syn_of_text back number true payload fin is (inl none) = absurd (cc)
syn_of_text back number true payload fin is (inr comes) = comes
syn_of_text back number false payload fin is comes = absurd (cc)

pub syn_comes : (back : World) (which number : ℕ) (syn : Bool) (payload : List ℕ) (fin : Bool) → syn ≡ true → SegmentComes back which number (items_of syn payload fin) → SegmentComes back which number (Syn ∷ (map Byte payload ++ end_of fin))
syn_comes back which number syn payload fin is comes = subst (λ (b : Bool). SegmentComes back which number (items_of b payload fin)) is comes

-- a receiving half that stands for a receiver without items stands for any other one without items
pub fresh_stands : (w back : World) (r : Receiving) (buffer : List ℕ) → w.receiver.is_open ≡ false → w.receiver.got ≡ [] → Stands w [] r buffer → IsFresh back → Stands back [] r buffer
fresh_stands w back r buffer shut empty stands fresh = record {
  reached = fresh.reached;
  holds = record {
    is_open = fresh.shut ∙ sym shut ∙ stands.holds.is_open;
    next = λ is. absurd (false≢true (sym shut ∙ stands.holds.is_open ∙ is));
    held = ap bytes_of (fresh.empty ∙ sym empty) ∙ stands.holds.held;
    ended = ap is_ended (fresh.empty ∙ sym empty) ∙ stands.holds.ended;
  };
  keeps = record {
    gap = stands.keeps.gap;
    bytes = λ n some. absurd (false≢true (sym shut ∙ stands.holds.is_open ∙ stands.keeps.opened n some));
    fin = λ some. absurd (false≢true (sym shut ∙ stands.holds.is_open ∙ stands.keeps.opened_fin some));
    opened = stands.keeps.opened;
    opened_fin = stands.keeps.opened_fin;
  };
}
