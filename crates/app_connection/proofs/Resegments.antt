-- A segment that a middlebox made of others: its items are on the way after one event of the network.
use Rattle.std.proofs.Common.{◌≡◌, ◌⊎◌, inl, inr, refl, sym, ◌∙◌, ap, subst, ℕ, ◌+◌, ◌%◌, ◌<◌, ◌≤◌, List, [], ◌∷◌, ◌++◌, true, false, take, drop, length, nat_lt, arith, length-append, length-drop, length-take}
use Rattle.std.specs.Prelude.{Option, IfSome, slice_get}
use Rattle.std.proofs.lemmas.Bool.{cond-false, false≢true}
use Rattle.std.proofs.lemmas.Bool.Decides.{nat_tests}
use Rattle.std.proofs.lemmas.List.{append-nil}
use Rattle.tcp_stream.specs.Endpoint.{Item, Syn}
use Rattle.tcp_stream.specs.Network.{World, Segment, Resegment, happens, is_alive, number_at, start, stream}
use Rattle.tcp_stream.proofs.Kept.{each_get, part_join, test_true}
use Rattle.tcp_stream.proofs.Numbers.{number_more, same_place}
use Rattle.tcp_stream.proofs.Parts.{IsPart, part_at, part_drop, part_take}
use Rattle.tcp_stream.proofs.Standing.{reached_good}
use Rattle.tcp_stream.specs.Stands.{IsReached, SegmentComes}
use Rattle.tcp_stream.specs.Waits.{AckComes, Waits}
use Rattle.app_connection.specs.Runs.{AreJoined, End, IsAckOf, IsFrom, IsOneOf, IsPiece, IsPieceOf, Sent, more, one}
use Rattle.app_connection.specs.Worlds.{Brings, IsOut, Said}
use Rattle.app_connection.proofs.Moving.{ByNetwork, resegmented_by}
use Rattle.app_connection.proofs.Pair.{AckIn, Direction, Each, Pair, TextIn, alive_text, carries_on, come_acked, comes_from}

-- Items that were sent, and are not old: they are a part of the stream.
record IsPlaced (w : World) (number : ℕ) (items : List Item) : Type 0 where
  place : ℕ
  part : IsPart (stream w.written w.closed) place items
  numbered : number ≡ number_at w.initial place
  before : place + length items ≤ w.sent
  alive : length w.receiver.got < place + 2147483648

-- there are none, or they are such
abbrev Found : World → ℕ → List Item → Type 0
Found w number items = (items ≡ []) ⊎ IsPlaced w number items

-- ---- one piece

nil_of : (xs : List Item) → length xs ≡ 0 → xs ≡ []
nil_of [] is = refl
nil_of (x ∷ xs) is = absurd (omega arith)

piece_placed : (w : World) (t : Sent) (number : ℕ) (items : List Item) → IsReached w → length w.written < t.wrote + 1073741823 → t.said.rst ≡ false → IsPieceOf t.said number items → TextIn w t → Found w number items
piece_placed w t number items reached young not piece (inl rst) = absurd (false≢true (sym not ∙ rst))
piece_placed w t number items reached young not piece (inr (inl none)) =
    inl (nil_of items (omega (arith, ap length piece.same, length-take piece.count (drop piece.from t.said.items), length-drop piece.from t.said.items, ap length none)))
piece_placed w t number items reached young not piece (inr (inr k)) =
    let s = stream w.written w.closed in
    let good = each_get _ w.segments k.which k.segment (reached_good w reached).segments k.there in
    let whole : IsPart s k.segment.place t.said.items = subst (λ (l : List Item). IsPart s k.segment.place l) k.brings good.part in
    let cut = part_take s (k.segment.place + piece.from) (drop piece.from t.said.items) piece.count (part_drop s k.segment.place t.said.items piece.from piece.within whole) in
    let near = test_true _ _ (alive_text w t.wrote k.segment reached young k.recent) in
    inr (record {
      place = k.segment.place + piece.from;
      part = subst (λ (l : List Item). IsPart s (k.segment.place + piece.from) l) (sym piece.same) cut;
      numbered = piece.numbered ∙ ap (λ (n : ℕ). (n + piece.from) % 4294967296) (sym k.same ∙ good.number) ∙ number_more w.initial k.segment.place piece.from;
      before = omega (arith, good.before, piece.within, ap length k.brings, ap length piece.same, length-take piece.count (drop piece.from t.said.items), length-drop piece.from t.said.items);
      alive = omega (arith, near);
    })

one_placed : (w : World) (ts : List Sent) (number : ℕ) (items : List Item) → IsReached w → IsPiece ts (length w.written) number items → Each (TextIn w) ts → Found w number items
one_placed w [] number items reached piece texts = absurd piece
one_placed w (t ∷ ts) number items reached (inl is) texts = piece_placed w t number items reached is.1 is.0 is.2 texts.0
one_placed w (t ∷ ts) number items reached (inr rest) texts = one_placed w ts number items reached rest texts.1

-- ---- several that adjoin

-- a piece has a number below 2^32
small : (ts : List Sent) (wrote number : ℕ) (items : List Item) → IsPiece ts wrote number items → (number + 0) % 4294967296 ≡ number
small [] wrote number items piece = absurd piece
small (t ∷ ts) wrote number items (inl is) = omega (arith, is.2.numbered)
small (t ∷ ts) wrote number items (inr rest) = small ts wrote number items rest

both_placed : (w : World) (number : ℕ) (xs ys : List Item) → IsReached w → IsPlaced w number xs → IsPlaced w ((number + length xs) % 4294967296) ys → IsPlaced w number (xs ++ ys)
both_placed w number xs ys reached a b =
    let good = reached_good w reached in
    let same : number_at w.initial b.place ≡ number_at w.initial (a.place + length xs) = sym b.numbered ∙ ap (λ (n : ℕ). (n + length xs) % 4294967296) a.numbered ∙ number_more w.initial a.place (length xs) in
    let at : b.place ≡ a.place + length xs =
    same_place w.initial (length w.receiver.got) b.place (a.place + length xs) same b.alive (omega (arith, b.before, good.flight, good.counted)) (omega (arith, a.alive)) (omega (arith, a.before, good.flight, good.counted))
    in
    record {
      place = a.place;
      part = part_join (stream w.written w.closed) a.place xs ys a.part (subst (λ (n : ℕ). IsPart (stream w.written w.closed) n ys) at b.part);
      numbered = a.numbered;
      before = omega (arith, b.before, at, length-append xs ys);
      alive = a.alive;
    }

-- a piece and what adjoins it
and_rest : (w : World) (ts : List Sent) (n : ℕ) (xs ys : List Item) → IsReached w → IsPiece ts (length w.written) n xs → Found w n xs → Found w ((n + length xs) % 4294967296) ys → Found w n (xs ++ ys)
and_rest w ts n xs ys reached piece (inl none) found =
    subst (λ (l : List Item). Found w n (l ++ ys)) (sym none)
    (subst (λ (k : ℕ). Found w k ys) (ap (λ (l : List Item). (n + length l) % 4294967296) none ∙ small ts (length w.written) n xs piece) found)
and_rest w ts n xs ys reached piece (inr a) (inl none) = inr (subst (λ (l : List Item). IsPlaced w n l) (sym (ap (λ (l : List Item). xs ++ l) none ∙ append-nil xs)) a)
and_rest w ts n xs ys reached piece (inr a) (inr b) = inr (both_placed w n xs ys reached a b)

joined_placed : (w : World) (ts : List Sent) (number : ℕ) (items : List Item) → IsReached w → AreJoined ts (length w.written) number items → Each (TextIn w) ts → Found w number items
joined_placed w ts number items reached (one n xs piece) texts = one_placed w ts n xs reached piece texts
joined_placed w ts number items reached (more n xs ys piece rest) texts =
    and_rest w ts n xs ys reached piece (one_placed w ts n xs reached piece texts) (joined_placed w ts ((n + length xs) % 4294967296) ys reached rest texts)

-- ---- on the way

placed_comes : (w : World) (number : ℕ) (items : List Item) → (p : IsPlaced w number items) → SegmentComes (happens w (Resegment p.place (length items))) 0 number items
placed_comes w number items p =
    let s : Segment = record { place = p.place; number = number_at w.initial p.place; items = take (length items) (drop p.place (stream w.written w.closed)) } in
    let sent : nat_lt w.sent (p.place + length items) ≡ false = (let le = p.before in grind (arith, nat_tests)) in
    let made : happens w (Resegment p.place (length items)) ≡ record w { segments = s ∷ w.segments } = cond-false _ _ _ sent in
    let alive : is_alive (length w.receiver.got) p.place ≡ true = (let lt = p.alive in grind (arith, nat_tests)) in
    record {
      segment = s;
      there = ap (λ (x : World). slice_get x.segments 0) made;
      same = sym p.numbered;
      brings = sym (part_at (stream w.written w.closed) items p.place p.part);
      alive = ap (λ (x : World). is_alive (length x.receiver.got) p.place) made ∙ alive;
    }

out_on_way : (w v : World) (number : ℕ) (items : List Item) → ByNetwork w v → IsOut w number items → IsOut v number items
out_on_way w v number items on out =
    let m = on.by.segments out.which out.segment out.there in
    record { which = m.0; segment = out.segment; there = m.1; same = out.same; brings = out.brings; recent = omega (arith, out.recent, ap (λ (x : World). x.acked) on.same) }

direction_on_way : (w v : World) (a b : End) → ByNetwork w v → (a.was_opened ≡ false → v ≡ start 0) → Direction w a b → Direction v a b
direction_on_way w v a b on idle d = record {
  carries = carries_on w v a b on.by (ap (λ (x : World). x.written) on.same) d.carries;
  waits = λ opened.
      let k = d.waits opened in
      subst (λ (x : World). Waits x a.connection.sending a.outgoing) (sym on.same) (record { una = k.una; flight = k.flight; within = k.within; closed = k.closed; still = k.still; held = k.held });
  sent = λ opened is. out_on_way w v a.connection.iss (Syn ∷ []) on (d.sent opened is);
  received = λ opened is. out_on_way w v a.connection.iss (Syn ∷ []) on (d.received opened is);
  idle = idle;
}

-- ---- a segment that comes

-- both ends, and what comes to the first one
pub record Coming (a b : End) (s : Said) : Type 0 where
  pub pair : Pair a b
  pub comes : (s.rst ≡ true) ⊎ Brings pair.there pair.back s

said_ack : (there : World) (t : Sent) (o : Option ℕ) → IsReached there → t.said.rst ≡ false → length there.written < t.peer_wrote + 1073741823 → t.said.ack ≡ o → AckIn there t → IfSome o (λ number. (which : ℕ) × AckComes there which number)
said_ack there t o reached not young is (inl rst) = absurd (false≢true (sym not ∙ rst))
said_ack there t o reached not young is (inr kept) = subst (λ (x : Option ℕ). IfSome x (λ number. (which : ℕ) × AckComes there which number)) is (come_acked there t.peer_wrote t.said.ack reached young kept)

made_ack : (there : World) (ts : List Sent) (o : Option ℕ) → IsReached there → IsAckOf ts (length there.written) o → Each (AckIn there) ts → IfSome o (λ number. (which : ℕ) × AckComes there which number)
made_ack there [] o reached from acks = absurd from
made_ack there (t ∷ ts) o reached (inl is) acks = said_ack there t o reached is.0 is.1 is.2 acks.0
made_ack there (t ∷ ts) o reached (inr rest) acks = made_ack there ts o reached rest acks.1

-- items that a middlebox put together come after it did
placed_coming : (a b : End) (p : Pair a b) (s : Said) → IfSome s.ack (λ number. (which : ℕ) × AckComes p.there which number) → (x : Item) (xs : List Item) → s.items ≡ x ∷ xs → IsPlaced p.back s.number s.items → Coming a b s
placed_coming a b p s ack x xs some at =
    let v = happens p.back (Resegment at.place (length s.items)) in
    let sent : p.back.sent ≡ 0 → ⊥ = λ none. (let le = at.before in let long = ap length some in omega (arith, le, long, none)) in
    let idle : b.was_opened ≡ false → v ≡ start 0 = λ shut. absurd (sent (ap (λ (w : World). w.sent) (p.reads.idle shut))) in
    record {
      pair = record {
        there = p.there;
        back = v;
        writes = p.writes;
        reads = direction_on_way p.back v b a (resegmented_by p.back at.place (length s.items)) idle p.reads;
        here_sound = p.here_sound;
        there_sound = p.there_sound;
      };
      comes = inr (record { text = inr (0, placed_comes p.back s.number s.items at); ack = ack });
    }

found_coming : (a b : End) (p : Pair a b) (s : Said) (items : List Item) → s.items ≡ items → IfSome s.ack (λ number. (which : ℕ) × AckComes p.there which number) → Found p.back s.number s.items → Coming a b s
found_coming a b p s items is ack (inl none) = record { pair = p; comes = inr (record { text = inl none; ack = ack }) }
found_coming a b p s [] is ack (inr at) = record { pair = p; comes = inr (record { text = inl is; ack = ack }) }
found_coming a b p s (x ∷ xs) is ack (inr at) = placed_coming a b p s ack x xs is at

-- The segment is in the histories of both ends, after the network made it.
pub coming : (a b : End) (p : Pair a b) (s : Said) → IsFrom b.sent (length b.wrote) (length a.wrote) s → Coming a b s
coming a b p s (inl rst) = record { pair = p; comes = inl rst }
coming a b p s (inr (inl is)) =
    let there : IsOneOf b.sent (length b.wrote) (length p.there.written) s = subst (λ (n : ℕ). IsOneOf b.sent (length b.wrote) n s) (sym (ap length p.writes.carries.written)) is in
    record {
      pair = p;
      comes = comes_from p.there p.back s b.sent p.writes.carries.reached p.reads.carries.reached (subst (λ (n : ℕ). IsOneOf b.sent n (length p.there.written) s) (sym (ap length p.reads.carries.written)) there) p.reads.carries.texts p.writes.carries.acks;
    }
coming a b p s (inr (inr made)) =
    let items = subst (λ (n : ℕ). AreJoined b.sent n s.number s.items) (sym (ap length p.reads.carries.written)) made.items in
    let ack = subst (λ (n : ℕ). IsAckOf b.sent n s.ack) (sym (ap length p.writes.carries.written)) made.ack in
    found_coming a b p s s.items refl (made_ack p.there b.sent s.ack p.writes.carries.reached ack p.writes.carries.acks)
    (joined_placed p.back b.sent s.number s.items p.reads.carries.reached items p.reads.carries.texts)
