-- What the receiver keeps after a gap came in segments of the peer.
use Rattle.std.proofs.Common.{◌≡◌, ◌⊎◌, inl, inr, refl, ℕ, zero, suc, ◌+◌, ◌-◌, ◌≤◌, ◌<◌, List, [], ◌∷◌, ◌++◌, Bool, true, false, length, get_or, map, take, drop, sym, ◌∙◌, ap, subst, arith, append_assoc, nat_lt}
use Rattle.std.proofs.lemmas.Bool.{cases_lt, false≢true}
use Rattle.std.proofs.lemmas.Bool.Decides.{nat_tests}
use Rattle.std.proofs.lemmas.List.{map-append, take-append-drop}
use Rattle.tcp_stream.specs.Endpoint.{Item, Byte, Fin, distance}
use Rattle.tcp_stream.specs.Network.{World, number_at, end_of}
use Rattle.tcp_stream.proofs.Kept.{Good, each_get}
use Rattle.tcp_stream.proofs.Numbers.{distance_after}
use Rattle.tcp_stream.specs.Stands.{Stands, Keeps, Came, SegmentComes, ComesAhead}
use Rattle.tcp_stream.specs.Items.{items_of}
use Rattle.tcp_stream.specs.Ranges.{has, top}
use Rattle.tcp_stream.specs.Ring.{ring, placed}
use Rattle.tcp_stream.proofs.Places.{length-ring}
use Rattle.tcp_stream.proofs.Spans.{below_top}
use Rattle.tcp_stream.proofs.Standing.{reached_good, came_as}
use Rattle.tcp_stream.proofs.Gaps.{placed_before, placed_is, byte_read}
use Rattle.tcp_stream.specs.declared.ranges.Ranges.{Ranges}
use Rattle.tcp_stream.specs.declared.receiving.Receiving.{Receiving}

-- an item of a segment
item_byte : (bs : List ℕ) (rest : List Item) (k : ℕ) → k < length bs → take 1 (drop k (map Byte bs ++ rest)) ≡ Byte (get_or bs k 0) ∷ []
item_byte [] rest k lt = absurd (omega arith)
item_byte (b ∷ bs) rest zero lt = refl
item_byte (b ∷ bs) rest (suc k) lt = item_byte bs rest k (omega arith)

item_fin : (bs : List ℕ) → take 1 (drop (length bs) (map Byte bs ++ (Fin ∷ []))) ≡ Fin ∷ []
item_fin [] = refl
item_fin (b ∷ bs) = item_fin bs

-- the number of a segment says where it begins after a gap
pub comes_ahead : (w : World) (which number ahead : ℕ) (items : List Item) (consumed : List ℕ) (c : Receiving) (b : List ℕ) → SegmentComes w which number items → Stands w consumed c b
    → c.is_open ≡ true → number < 4294967296 → 2147483648 ≤ distance c.next number → distance number c.next ≡ ahead → ComesAhead w which ahead items
comes_ahead w which number ahead items consumed c b it stands is_open small gap is =
    let good : Good w = reached_good w stands.reached in
    let fine = each_get _ w.segments which it.segment good.segments it.there in
    let now = length w.receiver.got in
    let next : c.next ≡ number_at w.initial now = stands.holds.next is_open ∙ good.knows.0 (stands.holds.is_open ∙ is_open) in
    let at : number ≡ number_at w.initial it.segment.place = sym it.same ∙ fine.number in
    let far : distance c.next number ≡ distance (number_at w.initial now) (number_at w.initial it.segment.place) = ap (λ (n : ℕ). distance n number) next ∙ ap (λ (n : ℕ). distance (number_at w.initial now) n) at in
    let ahead_is : ahead ≡ distance (number_at w.initial it.segment.place) (number_at w.initial now) = sym is ∙ ap (λ (n : ℕ). distance n c.next) at ∙ ap (λ (n : ℕ). distance (number_at w.initial it.segment.place) n) next in
    let alive : now < it.segment.place + 2147483648 = lt_of _ _ it.alive in
    let most : it.segment.place ≤ now + 2147483648 = omega (arith, fine.before, good.flight, good.counted) in
    let later : now < it.segment.place = elim (cases_lt now it.segment.place) [
      | inl lt ↦ lt
      | inr ge ↦ (let d : distance (number_at w.initial now) (number_at w.initial it.segment.place) ≡ now - it.segment.place = distance_after w.initial now it.segment.place ge (omega arith) in absurd (omega arith))
    ] in
    let d : distance (number_at w.initial it.segment.place) (number_at w.initial now) ≡ it.segment.place - now = distance_after w.initial it.segment.place now (omega arith) (omega arith) in
    record { segment = it.segment; there = it.there; place = omega arith; brings = it.brings }
  where
    lt_of : (x y : ℕ) → nat_lt x y ≡ true → x < y
    lt_of x y is = grind (arith, nat_tests)

-- the first bytes of a segment
pub first_items : (n : ℕ) (bytes : List ℕ) (fin : Bool) → items_of false bytes fin ≡ map Byte (take n bytes) ++ (map Byte (drop n bytes) ++ end_of fin)
first_items n bytes fin =
    ap (λ (l : List ℕ). map Byte l ++ end_of fin) (sym (take-append-drop n bytes)) ∙ ap (λ (l : List Item). l ++ end_of fin) (map-append Byte (take n bytes) (drop n bytes)) ∙ append_assoc (map Byte (take n bytes)) (map Byte (drop n bytes)) (end_of fin)

pub comes_first : (w : World) (which ahead n : ℕ) (bytes : List ℕ) (fin : Bool) → ComesAhead w which ahead (items_of false bytes fin) → ComesAhead w which ahead (map Byte (take n bytes) ++ (map Byte (drop n bytes) ++ end_of fin))
comes_first w which ahead n bytes fin it = subst (λ (l : List Item). ComesAhead w which ahead l) (first_items n bytes fin) it

-- bytes that come after a gap are kept
module _ (w : World) (which ahead : ℕ) (bytes : List ℕ) (rest : List Item) (consumed : List ℕ) (c : Receiving) (old new : List ℕ) (it : ComesAhead w which ahead (map Byte bytes ++ rest)) (stands : Stands w consumed c old)
    (some : 0 < ahead) (is_open : c.is_open ≡ true) (start : c.start < length old) (fits : c.len + ahead + length bytes ≤ length old) (reach : c.len + top c.ranges ≤ length old) (small : length old < 1073741824)
    (put : ring c.start new ≡ placed (c.len + ahead) bytes (ring c.start old)) where
  abbrev all : List ℕ
  all = ring c.start old

  whole : length all ≡ length old
  whole = length-ring c.start old (omega arith)

  byte_came : (n : ℕ) → ahead ≤ n → n < ahead + length bytes → Came w (length w.receiver.got + n) (Byte (get_or (ring c.start new) (c.len + n) 0))
  byte_came n le lt =
      let k = n - ahead in
      let at : c.len + ahead + k ≡ c.len + n = omega arith in
      let off : length w.receiver.got + n - it.segment.place ≡ k = omega (arith, it.place) in
      let is : get_or bytes k 0 ≡ get_or (ring c.start new) (c.len + n) 0 =
      sym ((placed_is (c.len + ahead) bytes all (omega (arith, whole))).inside k (omega arith)) ∙ ap (λ (j : ℕ). get_or (placed (c.len + ahead) bytes all) j 0) at ∙ ap (λ (l : List ℕ). get_or l (c.len + n) 0) (sym put) in
      record {
        which = which;
        segment = it.segment;
        there = it.there;
        after = omega (arith, it.place);
        near = omega (arith, it.place);
        brings = ap (λ (j : ℕ). take 1 (drop j it.segment.items)) off ∙ ap (λ (l : List Item). take 1 (drop k l)) it.brings ∙ item_byte bytes rest k (omega arith) ∙ ap (λ (x : ℕ). Byte x ∷ []) is;
      }

  byte_stays : (n : ℕ) → has c.ranges n ≡ true → (n < ahead) ⊎ (ahead + length bytes ≤ n) → Came w (length w.receiver.got + n) (Byte (get_or (ring c.start new) (c.len + n) 0))
  byte_stays n is (inl lt) =
      let below = below_top c.ranges n is in
      came_as w _ _ _ _ refl (ap (λ (x : ℕ). Byte x) (sym (ap (λ (l : List ℕ). get_or l (c.len + n) 0) put ∙ (placed_is (c.len + ahead) bytes all (omega (arith, whole))).below (c.len + n) (omega arith)))) (stands.keeps.bytes n is)
  byte_stays n is (inr ge) =
      let below = below_top c.ranges n is in
      came_as w _ _ _ _ refl (ap (λ (x : ℕ). Byte x) (sym (ap (λ (l : List ℕ). get_or l (c.len + n) 0) put ∙ (placed_is (c.len + ahead) bytes all (omega (arith, whole))).above (c.len + n) (omega arith) (omega (arith, whole))))) (stands.keeps.bytes n is)

  byte_there : (n : ℕ) → (has c.ranges n ≡ true) ⊎ ((ahead ≤ n) × (n < ahead + length bytes)) → Came w (length w.receiver.got + n) (Byte (get_or (ring c.start new) (c.len + n) 0))
  byte_there n (inr within) = byte_came n within.0 within.1
  byte_there n (inl is) = elim (cases_lt n ahead) [
    | inl lt ↦ byte_stays n is (inl lt)
    | inr ge ↦ elim (cases_lt n (ahead + length bytes)) [ inl lt ↦ byte_came n ge lt | inr past ↦ byte_stays n is (inr past) ]
  ]

  pub bytes_kept : (ranges : Ranges) (newest : ℕ) → ((n : ℕ) → has ranges n ≡ true → (has c.ranges n ≡ true) ⊎ ((ahead ≤ n) × (n < ahead + length bytes))) → has ranges 0 ≡ false
      → Stands w consumed (record c { ranges = ranges; newest = newest }) new
  bytes_kept ranges newest known gap = record {
    reached = stands.reached;
    holds = record {
      is_open = stands.holds.is_open;
      next = stands.holds.next;
      held = stands.holds.held ∙ ap (λ (l : List ℕ). consumed ++ l) (sym (ap (λ (l : List ℕ). take c.len l) put ∙ placed_before (c.len + ahead) c.len bytes all (omega arith) (omega (arith, whole))));
      ended = stands.holds.ended;
    };
    keeps = record {
      gap = gap;
      bytes = λ n is. byte_there n (known n is);
      fin = stands.keeps.fin;
      opened = λ n is. is_open;
      opened_fin = λ some_fin. is_open;
    };
  }

-- a FIN that comes after a gap is kept
pub fin_kept : (w : World) (which ahead at : ℕ) (bytes : List ℕ) (fin : Bool) (consumed : List ℕ) (c : Receiving) (b : List ℕ) → fin ≡ true → ComesAhead w which ahead (items_of false bytes fin) → Stands w consumed c b → c.is_open ≡ true → length bytes < 1073741824
    → at ≡ ahead + length bytes → Stands w consumed (record c { fin_at = at }) b
fin_kept w which ahead at bytes false consumed c b with_fin it stands is_open small is = absurd (false≢true with_fin)
fin_kept w which ahead at bytes true consumed c b with_fin it stands is_open small is =
    let off : length w.receiver.got + at - it.segment.place ≡ length bytes = omega (arith, it.place) in
    record {
      reached = stands.reached;
      holds = record { is_open = stands.holds.is_open; next = stands.holds.next; held = stands.holds.held; ended = stands.holds.ended };
      keeps = record {
        gap = stands.keeps.gap;
        bytes = stands.keeps.bytes;
        fin = λ some. record {
          which = which;
          segment = it.segment;
          there = it.there;
          after = omega (arith, it.place);
          near = omega (arith, it.place);
          brings = ap (λ (j : ℕ). take 1 (drop j it.segment.items)) off ∙ ap (λ (l : List Item). take 1 (drop (length bytes) l)) it.brings ∙ item_fin bytes;
        };
        opened = stands.keeps.opened;
        opened_fin = λ some. is_open;
      };
    }

-- what is kept stays where it is when bytes are read
pub keeps_read : (w : World) (c : Receiving) (b : List ℕ) (n t : ℕ) → Keeps w c b → c.start < length b → c.len + top c.ranges ≤ length b → t < length b → (t ≡ c.start + n) ⊎ (t + length b ≡ c.start + n) → n ≤ c.len
    → Keeps w (record c { start = t; len = c.len - n }) b
keeps_read w c b n t kept start fits inside is le = record {
  gap = kept.gap;
  bytes = λ k some.
      let below = below_top c.ranges k some in
      came_as w _ _ _ _ refl (ap (λ (x : ℕ). Byte x) (sym (byte_read c.start t n c.len k b start inside is le (omega arith)))) (kept.bytes k some);
  fin = kept.fin;
  opened = kept.opened;
  opened_fin = kept.opened_fin;
}
