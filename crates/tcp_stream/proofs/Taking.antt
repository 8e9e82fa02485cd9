-- What the receiver takes in order, and what it kept after a gap that is closed.
use Rattle.std.proofs.Common.{◌≡◌, ◌⊎◌, inl, inr, refl, ℕ, zero, suc, ◌+◌, ◌-◌, ◌%◌, ◌≤◌, ◌<◌, min, List, [], ◌∷◌, ◌++◌, Bool, true, false, length, get_or, take, drop, sym, ◌∙◌, ap, subst, arith, nat_lt}
use Rattle.std.proofs.lemmas.Bool.{cond-true, cases_lt, false≢true}
use Rattle.std.proofs.lemmas.Bool.Decides.{nat_tests}
use Rattle.std.proofs.lemmas.List.{length-append, length-drop, length-take-le, take_more, take_rest, append-nil}
use Rattle.tcp_stream.specs.Endpoint.{Item, Byte, Fin, Receiver, distance, fresh, accepted, received}
use Rattle.tcp_stream.specs.Network.{World, Segment, Segment_comes, happens, run, is_alive, number_at}
use Rattle.tcp_stream.proofs.Kept.{Good, each_get, fresh_from}
use Rattle.tcp_stream.proofs.Numbers.{distance_after}
use Rattle.tcp_stream.specs.Stands.{Stands, Holds, Came, IsReached, SegmentComes, Uses, Goes, Ends, Advances, FinStays, StaysKept, again}
use Rattle.tcp_stream.specs.Items.{items_of}
use Rattle.tcp_stream.specs.Ranges.{has, top}
use Rattle.tcp_stream.specs.Ring.{ring, placed}
use Rattle.tcp_stream.proofs.Places.{length-ring}
use Rattle.tcp_stream.proofs.Pending.{placed_front}
use Rattle.tcp_stream.proofs.Spans.{below_top, top_taken}
use Rattle.tcp_stream.proofs.Received.{step, bytes_stand, bytes_grow, end_stands, ended_same, ended_more}
use Rattle.tcp_stream.proofs.Standing.{has_all, came_as, came_later, comes, reached_good, reached_more}
use Rattle.tcp_stream.proofs.Gaps.{placed_is}
use Rattle.tcp_stream.specs.declared.receiving.Receiving.{Receiving}

true_test : (a b : ℕ) → a < b → nat_lt a b ≡ true
true_test a b lt = grind (arith, nat_tests)

-- RCV.NXT is n further
abbrev pub mid : Receiving → ℕ → Receiving
mid c n = record c { next = (c.next + n) % 4294967296; len = c.len + n }

-- The receiver took n more items in order, of which the ranges do not know yet.
pub record Passes (w : World) (consumed : List ℕ) (c : Receiving) (n : ℕ) (b : List ℕ) : Type 0 where
  pub reached : IsReached w
  pub holds : Holds w.receiver consumed (mid c n) b
  pub bytes : (k : ℕ) → n ≤ k → has c.ranges k ≡ true → Came w (length w.receiver.got + (k - n)) (Byte (get_or (ring c.start b) (c.len + k) 0))
  pub fin : 0 < c.fin_at → n ≤ c.fin_at → Came w (length w.receiver.got + (c.fin_at - n)) Fin

-- the next item comes again
pub record Next (w : World) (item : Item) : Type 0 where
  pub which : ℕ
  pub number : ℕ
  pub items : List Item
  pub comes_now : happens w (Segment_comes which 1) ≡ record w { receiver = received w.receiver number items 1 }
  pub new : fresh w.receiver.next number items 1 ≡ item ∷ []
  pub got : length (received w.receiver number items 1).got ≡ length w.receiver.got + 1

next_item : (w : World) (item : Item) → IsReached w → w.receiver.is_open ≡ true → Came w (length w.receiver.got) item → Next w item
next_item w item reached is_open came =
    let good : Good w = reached_good w reached in
    let fine = each_get _ w.segments came.which came.segment good.segments came.there in
    let now = length w.receiver.got in
    let s : Segment = came.segment in
    let alive : is_alive now s.place ≡ true = true_test _ _ came.near in
    let it : SegmentComes w came.which s.number s.items = record { segment = s; there = came.there; same = refl; brings = refl; alive = alive } in
    let d : distance w.receiver.next s.number ≡ now - s.place =
    ap (λ (n : ℕ). distance n s.number) (good.knows.0 is_open) ∙ ap (λ (n : ℕ). distance (number_at w.initial now) n) fine.number ∙ distance_after w.initial now s.place came.after (omega (arith, came.near)) in
    let new : fresh w.receiver.next s.number s.items 1 ≡ item ∷ [] = fresh_from _ _ s.items 1 (now - s.place) d (omega (arith, came.near)) ∙ came.brings in
    record {
      which = came.which;
      number = s.number;
      items = s.items;
      comes_now = comes w came.which s.number 1 s.items it;
      new = new;
      got = ap (λ (r : Receiver). length r.got) (cond-true w.receiver.is_open (accepted w.receiver.next w.receiver.got (fresh w.receiver.next s.number s.items 1)) _ is_open)
          ∙ length-append w.receiver.got (fresh w.receiver.next s.number s.items 1) ∙ ap (λ (l : List Item). now + length l) new;
    }

-- what came stays, when the receiver takes more
came_after : (w : World) (which room p q : ℕ) (x : Item) → p ≡ q → Came w p x → Came (happens w (Segment_comes which room)) q x
came_after w which room p q x is came = came_as (happens w (Segment_comes which room)) p q x x is refl (came_later w (happens w (Segment_comes which room)) p x (has_all w (Segment_comes which room)) came)

record Steps (w : World) (consumed : List ℕ) (c : Receiving) (n : ℕ) (b : List ℕ) : Type 0 where
  which : ℕ
  passes : Passes (happens w (Segment_comes which 1)) consumed c n b

take_one : (w : World) (consumed : List ℕ) (c : Receiving) (n : ℕ) (b : List ℕ) → Passes w consumed c n b → c.is_open ≡ true → has c.ranges n ≡ true → c.start < length b → c.len + n < length b → Steps w consumed c (n + 1) b
take_one w consumed c n b passes is_open some start fits =
    let x = get_or (ring c.start b) (c.len + n) 0 in
    let zero_more : length w.receiver.got + (n - n) ≡ length w.receiver.got = omega arith in
    let next : Next w (Byte x) = next_item w (Byte x) passes.reached (passes.holds.is_open ∙ is_open) (came_as w _ _ _ _ zero_more refl (passes.bytes n (omega arith) some)) in
    let v : World = happens w (Segment_comes next.which 1) in
    let got : length v.receiver.got ≡ length w.receiver.got + 1 = ap (λ (u : World). length u.receiver.got) next.comes_now ∙ next.got in
    let whole : length (ring c.start b) ≡ length b = length-ring c.start b (omega arith) in
    let held : take (c.len + (n + 1)) (ring c.start b) ≡ take (c.len + n) (ring c.start b) ++ (x ∷ []) =
    ap (λ (k : ℕ). take k (ring c.start b)) (let e : c.len + (n + 1) ≡ c.len + n + 1 = omega arith in e) ∙ take_more (ring c.start b) (c.len + n) 0 (omega (arith, whole)) in
    let holds : Holds (received w.receiver next.number next.items 1) consumed (mid c (n + 1)) b =
    step w.receiver consumed (mid c n) b passes.holds is_open next.number next.items (Byte x ∷ []) 1 (mid c (n + 1)) b next.new
    (let e : (c.next + (n + 1)) % 4294967296 ≡ ((c.next + n) % 4294967296 + 1) % 4294967296 = omega arith in e) held (ended_same w.receiver.got (Byte x ∷ []) refl ∙ passes.holds.ended) is_open in
    record {
      which = next.which;
      passes = record {
        reached = reached_more w (Segment_comes next.which 1) passes.reached;
        holds = subst (λ (u : World). Holds u.receiver consumed (mid c (n + 1)) b) (sym next.comes_now) holds;
        bytes = λ k le is. came_after w next.which 1 _ _ _ (let e : length w.receiver.got + (k - n) ≡ length v.receiver.got + (k - (n + 1)) = omega (arith, got) in e) (passes.bytes k (omega arith) is);
        fin = λ more le. came_after w next.which 1 _ _ _ (let e : length w.receiver.got + (c.fin_at - n) ≡ length v.receiver.got + (c.fin_at - (n + 1)) = omega (arith, got) in e) (passes.fin more (omega arith));
      };
    }

record Ran (w : World) (consumed : List ℕ) (c : Receiving) (n : ℕ) (b : List ℕ) : Type 0 where
  segments : List ℕ
  passes : Passes (run (again segments) w) consumed c n b

take_all_kept : (m : ℕ) (w : World) (consumed : List ℕ) (c : Receiving) (n : ℕ) (b : List ℕ) → Passes w consumed c n b → c.is_open ≡ true → ((k : ℕ) → n ≤ k → k < n + m → has c.ranges k ≡ true) → c.start < length b → c.len + top c.ranges ≤ length b → Ran w consumed c (n + m) b
take_all_kept zero w consumed c n b passes is_open kept start fits = record { segments = []; passes = subst (λ (k : ℕ). Passes w consumed c k b) (let e : n ≡ n + 0 = omega arith in e) passes }
take_all_kept (suc m) w consumed c n b passes is_open kept start fits =
    let here : has c.ranges n ≡ true = kept n (omega arith) (omega arith) in
    let below = below_top c.ranges n here in
    let one = take_one w consumed c n b passes is_open here start (omega arith) in
    let rest = take_all_kept m (happens w (Segment_comes one.which 1)) consumed c (n + 1) b one.passes is_open (λ k le lt. kept k (omega arith) (omega arith)) start fits in
    record { segments = one.which ∷ rest.segments; passes = subst (λ (k : ℕ). Passes (run (again rest.segments) (happens w (Segment_comes one.which 1))) consumed c k b) (let e : n + 1 + m ≡ n + suc m = omega arith in e) rest.passes }

again_more : (xs : List ℕ) (which : ℕ) (w : World) → run (again (xs ++ (which ∷ []))) w ≡ happens (run (again xs) w) (Segment_comes which 1)
again_more [] which w = refl
again_more (x ∷ xs) which w = again_more xs which (happens w (Segment_comes x 1))

-- the fields that a receiver's state is compared by
holds_as : (r : Receiver) (consumed : List ℕ) (c d : Receiving) (b : List ℕ) → d.is_open ≡ c.is_open → d.next ≡ c.next → d.start ≡ c.start → d.len ≡ c.len → d.has_fin ≡ c.has_fin → Holds r consumed c b → Holds r consumed d b
holds_as r consumed c d b is_open next start len has_fin holds = record {
  is_open = holds.is_open ∙ sym is_open;
  next = λ now. next ∙ holds.next (sym is_open ∙ now);
  held = holds.held ∙ ap (λ (n : ℕ). consumed ++ take n (ring c.start b)) (sym len) ∙ ap (λ (n : ℕ). consumed ++ take d.len (ring n b)) (sym start);
  ended = holds.ended ∙ sym has_fin;
}

goes_on : (w : World) (consumed : List ℕ) (c d : Receiving) (to : ℕ) (b : List ℕ) → Passes w consumed c to b → c.is_open ≡ true → has c.ranges to ≡ false → d.len ≡ c.len + to → d.start ≡ c.start → d.is_open ≡ c.is_open → Goes c to d → Stands w consumed d b
goes_on w consumed c d to b passes is_open left len start opened goes = record {
  reached = passes.reached;
  holds = holds_as w.receiver consumed (mid c to) d b opened goes.next start len goes.has_fin passes.holds;
  keeps = record {
    gap = goes.known 0 ∙ ap (λ (n : ℕ). has c.ranges n) (let e : 0 + to ≡ to = omega arith in e) ∙ left;
    bytes = λ n is.
        came_as w _ _ _ _ (let e : length w.receiver.got + (n + to - to) ≡ length w.receiver.got + n = omega arith in e)
        (ap (λ (k : ℕ). Byte (get_or (ring c.start b) k 0)) (let e : c.len + (n + to) ≡ d.len + n = omega arith in e) ∙ ap (λ (k : ℕ). Byte (get_or (ring k b) (d.len + n) 0)) (sym start))
        (passes.bytes (n + to) (omega arith) (sym (goes.known n) ∙ is));
    fin = λ some. let at = goes.fin some in came_as w _ _ _ _ (let e : length w.receiver.got + (c.fin_at - to) ≡ length w.receiver.got + d.fin_at = omega arith in e) refl (passes.fin (omega arith) (omega arith));
    opened = λ n is. opened ∙ is_open;
    opened_fin = λ some. opened ∙ is_open;
  };
}

ends_here : (w : World) (consumed : List ℕ) (c d : Receiving) (to : ℕ) (b : List ℕ) → Passes w consumed c to b → c.is_open ≡ true → d.len ≡ c.len + to → d.start ≡ c.start → d.is_open ≡ c.is_open → Ends c to d → (which : ℕ) × Stands (happens w (Segment_comes which 1)) consumed d b
ends_here w consumed c d to b passes is_open len start opened ends =
    let zero_more : length w.receiver.got + (c.fin_at - to) ≡ length w.receiver.got = omega (arith, ends.here) in
    let next : Next w Fin = next_item w Fin passes.reached (passes.holds.is_open ∙ is_open) (came_as w _ _ _ _ zero_more refl (passes.fin (omega (arith, ends.here, ends.some)) (omega (arith, ends.here)))) in
    let e : Receiving = record (mid c to) { next = ((c.next + to) % 4294967296 + 1) % 4294967296; has_fin = true } in
    let holds : Holds (received w.receiver next.number next.items 1) consumed e b =
    step w.receiver consumed (mid c to) b passes.holds is_open next.number next.items (Fin ∷ []) 1 e b next.new refl
    (sym (append-nil (take (c.len + to) (ring c.start b)))) (ended_more w.receiver.got (Fin ∷ []) refl) is_open in (
      next.which,
      record {
        reached = reached_more w (Segment_comes next.which 1) passes.reached;
        holds = subst (λ (u : World). Holds u.receiver consumed d b) (sym next.comes_now) (holds_as _ consumed e d b opened (ends.next ∙ (let f : (c.next + to + 1) % 4294967296 ≡ ((c.next + to) % 4294967296 + 1) % 4294967296 = omega arith in f)) start len ends.has_fin holds);
        keeps = record {
          gap = ends.none 0;
          bytes = λ n is. absurd (false≢true (sym (ends.none n) ∙ is));
          fin = λ some. absurd (omega (arith, ends.no_fin));
          opened = λ n is. absurd (false≢true (sym (ends.none n) ∙ is));
          opened_fin = λ some. absurd (omega (arith, ends.no_fin));
        };
      },
    )

pub advanced : (w : World) (consumed : List ℕ) (c d : Receiving) (n : ℕ) (b : List ℕ) → Passes w consumed c n b → c.is_open ≡ true → c.start < length b → c.len + top c.ranges ≤ length b → Advances c n d → Uses w consumed d b
advanced w consumed c d n b passes is_open start fits advances =
    let m = advances.to - n in
    let le = advances.least in
    let at : n + m ≡ advances.to = omega arith in
    let ran = take_all_kept m w consumed c n b passes is_open (λ k from lt. advances.taken k from (omega arith)) start fits in
    let there : Passes (run (again ran.segments) w) consumed c advances.to b = subst (λ (k : ℕ). Passes (run (again ran.segments) w) consumed c k b) at ran.passes in
    elim advances.goes [
      | inl goes ↦ record { segments = ran.segments; stands = goes_on _ consumed c d advances.to b there is_open advances.left advances.len advances.start advances.opened goes }
      | inr ends ↦
          let last = ends_here _ consumed c d advances.to b there is_open advances.len advances.start advances.opened ends in
          record { segments = ran.segments ++ (last.0 ∷ []); stands = subst (λ (u : World). Stands u consumed d b) (sym (again_more ran.segments last.0 w)) last.1 }
    ]

-- what was kept is taken or stays
pub stays : (c d : Receiving) (n : ℕ) → c.next < 4294967296 → n < 4294967296 → c.len + top c.ranges < 4294967296 → Advances c n d → StaysKept c d
stays c d n fits few small advances = λ still k some.
    let to = advances.to in
    let most = top_taken c.ranges n to advances.taken in
    elim advances.goes [
      | inl goes ↦
          let moved : distance d.next c.next ≡ to = omega (arith, goes.next) in
          subst (λ (m : ℕ). (k < m) ⊎ ((m ≤ k) × (has d.ranges (k - m) ≡ true))) (sym moved) (elim (cases_lt k to) [
            | inl lt ↦ inl lt
            | inr ge ↦ inr (ge, goes.known (k - to) ∙ ap (λ (j : ℕ). has c.ranges j) (let e : k - to + to ≡ k = omega arith in e) ∙ some)
          ])
      | inr ends ↦ absurd (false≢true (sym still ∙ ends.has_fin))
    ]

pub fin_stays : (c d : Receiving) (n : ℕ) → c.next < 4294967296 → n < 4294967296 → c.len + top c.ranges < 4294967296 → Advances c n d → FinStays c d
fin_stays c d n fits few small advances = λ still kept within.
    let to = advances.to in
    let most = top_taken c.ranges n to advances.taken in
    elim advances.goes [
      | inl goes ↦
          let moved : distance d.next c.next ≡ to = omega (arith, goes.next) in
          elim (cases_lt to c.fin_at) [
            | inl lt ↦ (let e = goes.later lt in (omega arith, omega arith))
            | inr ge ↦ absurd (goes.before (omega arith) (omega arith))
          ]
      | inr ends ↦ absurd (false≢true (sym still ∙ ends.has_fin))
    ]

-- bytes that come next are taken
module _ (w : World) (which number room : ℕ) (payload : List ℕ) (fin : Bool) (consumed : List ℕ) (c : Receiving) (old new : List ℕ) (it : SegmentComes w which number (items_of false payload fin)) (stands : Stands w consumed c old)
    (is_open : c.is_open ≡ true) (skip n : ℕ) (is : distance c.next number ≡ skip) (near : skip < 2147483648) (le : skip ≤ length payload) (start : c.start < length old) (fits : c.len + top c.ranges ≤ length old) (small : length old < 1073741824)
    (size : n ≡ min (length payload - skip) room) (space : c.len + n ≤ length old) (put : ring c.start new ≡ placed c.len (take n (take (length payload - skip) (drop skip payload))) (ring c.start old)) where
  abbrev ys : List ℕ
  ys = take n (drop skip payload)

  abbrev all : List ℕ
  all = ring c.start old

  long : length ys ≡ n
  long = length-take-le n (drop skip payload) (omega (arith, length-drop skip payload))

  whole : length all ≡ length old
  whole = length-ring c.start old (omega arith)

  placed_ys : ring c.start new ≡ placed c.len ys all
  placed_ys = put ∙ ap (λ (l : List ℕ). placed c.len (take n l) all) (take_rest payload skip)

  held : take (c.len + n) (ring c.start new) ≡ take c.len all ++ ys
  held = ap (λ (k : ℕ). take (c.len + k) (ring c.start new)) (sym long) ∙ ap (λ (l : List ℕ). take (c.len + length ys) l) placed_ys ∙ placed_front c.len ys all (omega (arith, whole, long))

  abbrev v : World
  v = record w { receiver = received w.receiver number (items_of false payload fin) room }

  come : happens w (Segment_comes which room) ≡ v
  come = comes w which number room _ it

  reached : IsReached v
  reached = subst IsReached come (reached_more w (Segment_comes which room) stands.reached)

  -- the FIN too
  pub ended : fin ≡ true → n ≡ length payload - skip → n < room → (d : Receiving) → d.next ≡ ((c.next + n) % 4294967296 + 1) % 4294967296 → d.len ≡ c.len + n → d.start ≡ c.start → d.has_fin ≡ true → d.is_open ≡ c.is_open → d.fin_at ≡ 0 → ((k : ℕ) → has d.ranges k ≡ false)
      → Uses (happens w (Segment_comes which room)) consumed d new
  ended with_fin all_of more d next len same_start flag opened no_fin none =
      let step_is : ((c.next + n) % 4294967296 + 1) % 4294967296 ≡ (c.next + n + 1) % 4294967296 = omega arith in
      let holds : Holds v.receiver consumed d new = subst (λ (f : Bool). Holds (received w.receiver number (items_of false payload f) room) consumed d new) (sym with_fin)
      (end_stands w.receiver consumed c old stands.holds is_open number payload skip room n d new is near le all_of more (next ∙ step_is) (ap (λ (k : ℕ). take d.len (ring k new)) same_start ∙ ap (λ (k : ℕ). take k (ring c.start new)) len ∙ held) flag (opened ∙ is_open)) in
      record {
        segments = [];
        stands = subst (λ (u : World). Stands u consumed d new) (sym come) (record {
          reached = reached;
          holds = holds;
          keeps = record {
            gap = none 0;
            bytes = λ k some. absurd (false≢true (sym (none k) ∙ some));
            fin = λ some. absurd (omega arith);
            opened = λ k some. absurd (false≢true (sym (none k) ∙ some));
            opened_fin = λ some. absurd (omega arith);
          };
        });
      }

  module _ (why : (fin ≡ false) ⊎ (room ≤ length payload - skip)) where
    grown : length v.receiver.got ≡ length w.receiver.got + n
    grown = bytes_grow w.receiver consumed c old stands.holds is_open number payload fin skip room n is near le size why

    passes : Passes v consumed c n new
    passes = record {
      reached = reached;
      holds = bytes_stand w.receiver consumed c old stands.holds is_open number payload fin skip room n (mid c n) new is near le size why refl held refl is_open;
      bytes = λ k after some.
          let below = below_top c.ranges k some in
          let same : get_or all (c.len + k) 0 ≡ get_or (ring c.start new) (c.len + k) 0 =
          sym (ap (λ (l : List ℕ). get_or l (c.len + k) 0) placed_ys ∙ (placed_is c.len ys all (omega (arith, whole, long))).above (c.len + k) (omega (arith, long)) (omega (arith, whole))) in
          came_as v _ _ _ _ (let e : length w.receiver.got + k ≡ length v.receiver.got + (k - n) = omega (arith, grown) in e) (ap (λ (x : ℕ). Byte x) same) (came_in (stands.keeps.bytes k some));
      fin = λ more after. came_as v _ _ _ _ (let e : length w.receiver.got + c.fin_at ≡ length v.receiver.got + (c.fin_at - n) = omega (arith, grown) in e) refl (came_in (stands.keeps.fin more));
    }
      where
        came_in : {place : ℕ} {item : Item} → Came w place item → Came v place item
        came_in came = record { which = came.which; segment = came.segment; there = came.there; after = came.after; near = came.near; brings = came.brings }

    -- the ring has its old size
    pub taken : length new ≡ length old → (d : Receiving) → Advances c n d → Uses (happens w (Segment_comes which room)) consumed d new
    taken same d advances = subst (λ (u : World). Uses u consumed d new) (sym come) (advanced v consumed c d n new passes is_open (omega arith) (omega arith) advances)
