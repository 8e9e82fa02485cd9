-- What is not acknowledged, after each step of the sender.
use Rattle.std.proofs.Common.{◌≡◌, refl, ℕ, suc, ◌+◌, ◌-◌, ◌%◌, ◌≤◌, ◌<◌, max, List, [], ◌∷◌, ◌++◌, Bool, true, false, length, map, take, drop, sym, ◌∙◌, ap, subst, arith, nat_lt, append_assoc}
use Rattle.std.specs.Prelude.{◌==◌, ◌⊎◌, Option}
use Rattle.std.proofs.lemmas.List.{drop-drop, drop-append-le, drop-map, length-append, length-map, length-drop, length-take-le, take-append-le, take-map, take-take, take_all, append-nil, map-append}
use Rattle.std.proofs.lemmas.Bool.{cond-true, cond-false}
use Rattle.std.proofs.lemmas.Bool.Decides.{nat_tests}
use mathlib.Core.Logic.{inl, inr}
use Rattle.tcp_stream.specs.Endpoint.{Item, Syn, Byte, Fin, distance, newly}
use Rattle.tcp_stream.specs.Network.{World, Ack, Event, Write, Send, Ack_comes, happens, run, start, stream, number_at, end_of, is_alive, ack_comes, sends}
use Rattle.tcp_stream.proofs.Kept.{good_start, happens_good, run_good}
use Rattle.tcp_stream.specs.Ring.{ring, placed}
use Rattle.tcp_stream.specs.Items.{syn_of}
use Rattle.tcp_stream.specs.Waits.{Waits, AckComes, IsSend, pending, rest_of}
use Rattle.tcp_stream.specs.declared.sending.Sending.{Sending}
use Rattle.tcp_stream.proofs.Places.{ring_drop, ring_front, length-ring}

-- bytes and an end, without the first bytes
pub cut_front : (payload : List ℕ) (fin : Bool) (k : ℕ) → k ≤ length payload → drop k (map Byte payload ++ end_of fin) ≡ map Byte (drop k payload) ++ end_of fin
cut_front payload fin k le = drop-append-le k (map Byte payload) (end_of fin) (omega (arith, length-map payload Byte)) ∙ ap (λ (l : List Item). l ++ end_of fin) (drop-map Byte k payload)

pub rest_drop : (s t k len : ℕ) (b : List ℕ) (fin : Bool) → s < length b → t < length b → (t ≡ s + k) ⊎ (t + length b ≡ s + k) → k ≤ len → len ≤ length b
    → map Byte (take (len - k) (ring t b)) ++ end_of fin ≡ drop k (map Byte (take len (ring s b)) ++ end_of fin)
rest_drop s t k len b fin start next is le fits =
    let long : length (take len (ring s b)) ≡ len = length-take-le len (ring s b) (omega (arith, length-ring s b (omega arith))) in
    sym (cut_front (take len (ring s b)) fin k (omega arith) ∙ ap (λ (l : List ℕ). map Byte l ++ end_of fin) (ring_drop s t k len b start next is le fits))

-- the stream with one more end
stream_close : (written : List ℕ) (closed : Bool) → closed ≡ false → stream written true ≡ stream written closed ++ (Fin ∷ [])
stream_close written true shut = absurd (cc)
stream_close written false shut = ap (λ (l : List Item). Syn ∷ (l ++ (Fin ∷ []))) (sym (append-nil (map Byte written)))

-- the stream with more bytes
stream_write : (written bytes : List ℕ) (closed : Bool) → closed ≡ false → stream (written ++ bytes) closed ≡ stream written closed ++ map Byte bytes
stream_write written bytes true shut = absurd (cc)
stream_write written bytes false shut =
    ap (λ (l : List Item). Syn ∷ (l ++ [])) (map-append Byte written bytes)
    ∙ ap (λ (l : List Item). Syn ∷ l) (append-nil (map Byte written ++ map Byte bytes) ∙ ap (λ (l : List Item). l ++ map Byte bytes) (sym (append-nil (map Byte written))))

-- a list that ends with no end takes more
more_items : (syn bytes more : List Item) (fin : Bool) → fin ≡ false → (syn ++ (bytes ++ end_of fin)) ++ more ≡ syn ++ (bytes ++ more)
more_items syn bytes more true still = absurd (cc)
more_items syn bytes more false still = append_assoc syn (bytes ++ []) more ∙ ap (λ (l : List Item). syn ++ (l ++ more)) (append-nil bytes)

pub close_waits : (w : World) (c : Sending) (buffer : List ℕ) → c.is_closed ≡ false → Waits w c buffer → Waits (record w { closed = true }) (record c { has_fin = true; is_closed = true }) buffer
close_waits w c buffer shut waits =
    let more : stream w.written true ≡ stream w.written w.closed ++ (Fin ∷ []) = stream_close w.written w.closed (sym waits.closed ∙ shut) in
    record {
      una = waits.una;
      flight = waits.flight;
      within = omega (arith, waits.within, ap length more, length-append (stream w.written w.closed) (Fin ∷ []));
      closed = refl;
      still = λ is_open. absurd (cc);
      held =
          ap (λ (l : List Item). drop w.acked l) more
          ∙ drop-append-le w.acked (stream w.written w.closed) (Fin ∷ []) (omega (arith, waits.within, waits.flight))
          ∙ ap (λ (l : List Item). l ++ (Fin ∷ [])) waits.held
          ∙ more_items (syn_of c.has_syn) (map Byte (take c.len (ring c.start buffer))) (Fin ∷ []) c.has_fin (waits.still shut);
    }

pub write_waits : (w : World) (c : Sending) (old new bytes : List ℕ) (n : ℕ) → c.is_closed ≡ false → Waits w c old
    → take (c.len + n) (ring c.start new) ≡ take c.len (ring c.start old) ++ bytes → Waits (happens w (Write bytes)) (record c { len = c.len + n }) new
write_waits w c old new bytes n shut waits is = subst (λ (v : World). Waits v (record c { len = c.len + n }) new) (sym (cond-false w.closed _ _ is_open)) (record {
  una = waits.una;
  flight = waits.flight;
  within = omega (arith, waits.within, ap length more, length-append (stream w.written w.closed) (map Byte bytes));
  closed = waits.closed;
  still = waits.still;
  held =
      ap (λ (l : List Item). drop w.acked l) more
      ∙ drop-append-le w.acked (stream w.written w.closed) (map Byte bytes) (omega (arith, waits.within, waits.flight))
      ∙ ap (λ (l : List Item). l ++ map Byte bytes) waits.held
      ∙ more_items (syn_of c.has_syn) (map Byte (take c.len (ring c.start old))) (map Byte bytes) c.has_fin still
      ∙ ap (λ (l : List Item). syn_of c.has_syn ++ l) (sym (map-append Byte (take c.len (ring c.start old)) bytes) ∙ ap (λ (l : List ℕ). map Byte l) (sym is) ∙ sym (append-nil (map Byte (take (c.len + n) (ring c.start new)))))
      ∙ ap (λ (f : Bool). syn_of c.has_syn ++ (map Byte (take (c.len + n) (ring c.start new)) ++ end_of f)) (sym still);
})
  where
    is_open : w.closed ≡ false
    is_open = sym waits.closed ∙ shut

    still : c.has_fin ≡ false
    still = waits.still shut

    more : stream (w.written ++ bytes) w.closed ≡ stream w.written w.closed ++ map Byte bytes
    more = stream_write w.written bytes w.closed is_open

-- after a write the ring begins with what was there, and the bytes
pub placed_front : (len : ℕ) (bytes all : List ℕ) → len + length bytes ≤ length all → take (len + length bytes) (placed len bytes all) ≡ take len all ++ bytes
placed_front len bytes all fits =
    let front : length (take len all) ≡ len = length-take-le len all (omega arith) in
    let long : length (take len all ++ bytes) ≡ len + length bytes = omega (arith, length-append (take len all) bytes) in
    ap (λ (l : List ℕ). take (len + length bytes) l) (sym (append_assoc (take len all) bytes (drop (length bytes) (drop len all))))
    ∙ take-append-le (len + length bytes) (take len all ++ bytes) (drop (length bytes) (drop len all)) (omega arith)
    ∙ take_all (len + length bytes) (take len all ++ bytes) (omega arith)

-- an acknowledgement of k items
acked_waits : (w : World) (c d : Sending) (buffer : List ℕ) (number k : ℕ) → Waits w c buffer → number < 4294967296 → distance number c.una ≡ k → k ≤ c.flight
    → d.una ≡ number → d.flight + k ≡ c.flight → d.is_closed ≡ c.is_closed → (c.has_fin ≡ false → d.has_fin ≡ false)
    → pending d buffer ≡ drop k (pending c buffer) → Waits (record w { acked = w.acked + newly (number_at w.initial w.acked) (w.sent - w.acked) number }) d buffer
acked_waits w c d buffer number k waits fits is le una flight closed fin held =
    let there : distance number (number_at w.initial w.acked) ≡ k = ap (λ (n : ℕ). distance number n) (sym waits.una) ∙ is in
    let out : w.sent - w.acked ≡ c.flight = omega (arith, waits.flight) in
    let not_past : nat_lt (w.sent - w.acked) (distance number (number_at w.initial w.acked)) ≡ false = grind (arith, nat_tests) in
    let count : newly (number_at w.initial w.acked) (w.sent - w.acked) number ≡ k = cond-false _ _ _ not_past ∙ there in
    let next : number ≡ number_at w.initial (w.acked + k) = next_number w.initial w.acked number k fits there in
    subst (λ (n : ℕ). Waits (record w { acked = w.acked + n }) d buffer) (sym count) (record {
      una = una ∙ next;
      flight = omega (arith, waits.flight);
      within = waits.within;
      closed = closed ∙ waits.closed;
      still = λ is_open. fin (waits.still (sym closed ∙ is_open));
      held = sym (drop-drop k w.acked (stream w.written w.closed)) ∙ ap (λ (l : List Item). drop k l) waits.held ∙ sym held;
    })
  where
    next_number : (i a n m : ℕ) → n < 4294967296 → distance n (number_at i a) ≡ m → n ≡ number_at i (a + m)
    next_number i a n m small far = omega arith

-- one that is not of what was sent changes nothing
other_waits : (w : World) (c : Sending) (buffer : List ℕ) (number : ℕ) → Waits w c buffer → c.flight < distance number c.una
    → Waits (record w { acked = w.acked + newly (number_at w.initial w.acked) (w.sent - w.acked) number }) c buffer
other_waits w c buffer number waits far =
    let there : distance number (number_at w.initial w.acked) ≡ distance number c.una = ap (λ (n : ℕ). distance number n) (sym waits.una) in
    let past : nat_lt (w.sent - w.acked) (distance number (number_at w.initial w.acked)) ≡ true = (let out : w.sent - w.acked ≡ c.flight = omega (arith, waits.flight) in grind (arith, nat_tests)) in
    let count : newly (number_at w.initial w.acked) (w.sent - w.acked) number ≡ 0 = cond-true _ _ _ past in
    let same : w.acked ≡ w.acked + newly (number_at w.initial w.acked) (w.sent - w.acked) number = omega arith in
    subst (λ (n : ℕ). Waits (record w { acked = n }) c buffer) same waits

-- the event
comes : (w : World) (d : Sending) (buffer : List ℕ) (which number : ℕ) → AckComes w which number
    → Waits (record w { acked = w.acked + newly (number_at w.initial w.acked) (w.sent - w.acked) number }) d buffer → Waits (happens w (Ack_comes which)) d buffer
comes w d buffer which number ack waits =
    subst (λ (o : Option Ack). Waits (ack_comes w o) d buffer) (sym ack.there)
    (subst (λ (v : World). Waits v d buffer) (sym (cond-true (is_alive w.acked ack.ack.place) _ _ ack.alive))
    (subst (λ (n : ℕ). Waits (record w { acked = w.acked + newly (number_at w.initial w.acked) (w.sent - w.acked) n }) d buffer) (sym ack.same) waits))

pub ack_waits : (w : World) (c d : Sending) (buffer : List ℕ) (which number k : ℕ) → AckComes w which number → Waits w c buffer → number < 4294967296 → distance number c.una ≡ k → k ≤ c.flight
    → d.una ≡ number → d.flight + k ≡ c.flight → d.is_closed ≡ c.is_closed → (c.has_fin ≡ false → d.has_fin ≡ false)
    → pending d buffer ≡ drop k (pending c buffer) → Waits (happens w (Ack_comes which)) d buffer
ack_waits w c d buffer which number k ack waits fits is le una flight closed fin held =
    comes w d buffer which number ack (acked_waits w c d buffer number k waits fits is le una flight closed fin held)

pub no_ack_waits : (w : World) (c : Sending) (buffer : List ℕ) (which number : ℕ) → AckComes w which number → Waits w c buffer → c.flight < distance number c.una → Waits (happens w (Ack_comes which)) c buffer
no_ack_waits w c buffer which number ack waits far = comes w c buffer which number ack (other_waits w c buffer number waits far)

-- after a SYN
past_syn : (syn : Bool) (k : ℕ) (rest : List Item) → drop (length (syn_of syn) + k) (syn_of syn ++ rest) ≡ drop k rest
past_syn true k rest = ap (λ (n : ℕ). drop n (Syn ∷ rest)) (let e : 1 + k ≡ suc k = omega arith in e)
past_syn false k rest = ap (λ (n : ℕ). drop n rest) (let e : 0 + k ≡ k = omega arith in e)

pub eq_test : (a b : ℕ) → (a == b) ≡ true → a ≡ b
eq_test a b is = grind (arith, nat_tests)

-- a SYN is before what comes after the first item
pub syn_before : (syn : Bool) (from : ℕ) → (syn ≡ false) ⊎ (from ≡ 0 → ⊥) → length (syn_of syn) ≤ from
syn_before true from (inl none) = absurd (cc)
syn_before true from (inr past) = omega arith
syn_before false from why = omega arith

-- n of the bytes that remain, and the end if they are all
data_items : (all : List ℕ) (n : ℕ) (fin last : Bool) → n ≤ length all → (last ≡ true → (fin ≡ true) × (n ≡ length all))
    → map Byte (take n all) ++ end_of last ≡ take (length (map Byte (take n all) ++ end_of last)) (map Byte all ++ end_of fin)
data_items all n fin false le why =
    let long : length (map Byte (take n all) ++ []) ≡ n = ap length (append-nil (map Byte (take n all))) ∙ length-map (take n all) Byte ∙ length-take-le n all le in
    append-nil (map Byte (take n all)) ∙ sym (take-map Byte n all) ∙ sym (take-append-le n (map Byte all) (end_of fin) (omega (arith, length-map all Byte))) ∙ ap (λ (k : ℕ). take k (map Byte all ++ end_of fin)) (sym long)
data_items all n fin true le why =
    let whole : take n all ≡ all = take_all n all (omega (arith, (why refl).1)) in
    let same : map Byte (take n all) ++ end_of true ≡ map Byte all ++ end_of fin = ap (λ (l : List ℕ). map Byte l ++ (Fin ∷ [])) whole ∙ ap (λ (f : Bool). map Byte all ++ end_of f) (sym (why refl).0) in
    same ∙ sym (ap (λ (k : ℕ). take k (map Byte all ++ end_of fin)) (ap length same) ∙ take_all _ (map Byte all ++ end_of fin) (omega arith))

pub cut_items : (c : Sending) (b : List ℕ) (skip at n : ℕ) (last : Bool) → c.start < length b → c.len ≤ length b → at < length b → (at ≡ c.start + skip) ⊎ (at + length b ≡ c.start + skip) → skip ≤ c.len
    → n ≤ c.len - skip → at + n ≤ length b → (last ≡ true → (c.has_fin ≡ true) × (skip + n ≡ c.len))
    → map Byte (take n (drop at b)) ++ end_of last ≡ take (length (map Byte (take n (drop at b)) ++ end_of last)) (drop (length (syn_of c.has_syn) + skip) (pending c b))
cut_items c b skip at n last start len inside is le few fits why =
    let all = take (c.len - skip) (ring at b) in
    let long : length all ≡ c.len - skip = length-take-le (c.len - skip) (ring at b) (omega (arith, length-ring at b (omega arith))) in
    let bytes : take n all ≡ take n (drop at b) = take-take n (c.len - skip) (ring at b) few ∙ ring_front at n b fits in
    let rest : drop (length (syn_of c.has_syn) + skip) (pending c b) ≡ map Byte all ++ end_of c.has_fin = past_syn c.has_syn skip (rest_of c b) ∙ sym (rest_drop c.start at skip c.len b c.has_fin start inside is le len) in
    subst (λ (l : List Item). map Byte (take n (drop at b)) ++ end_of last ≡ take (length (map Byte (take n (drop at b)) ++ end_of last)) l) (sym rest)
    (subst (λ (l : List ℕ). map Byte l ++ end_of last ≡ take (length (map Byte l ++ end_of last)) (map Byte all ++ end_of c.has_fin)) bytes
    (data_items all n c.has_fin last (omega arith) (λ is_last. ((why is_last).0, omega (arith, (why is_last).1)))))

-- an acknowledgement counts nothing that did not come
pub ack_counted : (initial : ℕ) (events : List Event) (which : ℕ) → let v : World = happens (run events (start initial)) (Ack_comes which) in v.acked ≤ length v.receiver.got
ack_counted initial events which = (happens_good (run events (start initial)) (Ack_comes which) (run_good events (start initial) (good_start initial))).counted

short_syn : (syn : Bool) → length (syn_of syn) ≤ 1
short_syn true = omega arith
short_syn false = omega arith

pub short_end : (fin : Bool) → length (end_of fin) ≤ 1
short_end true = omega arith
short_end false = omega arith

pub short_pending : (c : Sending) (b : List ℕ) → c.start < length b → c.len ≤ length b → length (pending c b) ≤ c.len + 2
short_pending c b start len =
    let bytes = take c.len (ring c.start b) in
    let long : length bytes ≡ c.len = length-take-le c.len (ring c.start b) (omega (arith, length-ring c.start b (omega arith))) in
    omega (arith, length-append (syn_of c.has_syn) (rest_of c b), length-append (map Byte bytes) (end_of c.has_fin), length-map bytes Byte, short_syn c.has_syn, short_end c.has_fin)

-- the world after a segment went out
abbrev pub out_of : World → ℕ → List Item → World
out_of w from items = record w { sent = max w.sent (w.acked + from + length items); segments = record { place = w.acked + from; number = number_at w.initial (w.acked + from); items = items } ∷ w.segments }

went_out : (w : World) (c : Sending) (buffer : List ℕ) (from : ℕ) (items : List Item) → Waits w c buffer → items ≡ take (length items) (drop from (pending c buffer))
    → from + length items ≤ length (pending c buffer) → length (pending c buffer) ≤ 2147483648 → happens w (Send from (length items)) ≡ out_of w from items
went_out w c buffer from items waits same inside small =
    let left : length (stream w.written w.closed) - w.acked ≡ length (pending c buffer) = sym (length-drop w.acked (stream w.written w.closed)) ∙ ap length waits.held in
    let within : nat_lt (length (stream w.written w.closed)) (w.acked + from) ≡ false = (let le : w.acked + from ≤ length (stream w.written w.closed) = omega (arith, waits.within, waits.flight) in grind (arith, nat_tests)) in
    let near : nat_lt (w.acked + 2147483648) (w.acked + from + length items) ≡ false = (let le : w.acked + from + length items ≤ w.acked + 2147483648 = omega arith in grind (arith, nat_tests)) in
    let cut : take (length items) (drop (w.acked + from) (stream w.written w.closed)) ≡ items =
    ap (λ (l : List Item). take (length items) l) (sym (drop-drop from w.acked (stream w.written w.closed)) ∙ ap (λ (l : List Item). drop from l) waits.held) ∙ sym same in
    cond-false _ _ _ within ∙ ap (λ (l : List Item). sends w (w.acked + from) l) cut ∙ cond-false _ _ _ near

pub send_waits : (w : World) (c d : Sending) (buffer : List ℕ) (from : ℕ) (items : List Item) → Waits w c buffer → items ≡ take (length items) (drop from (pending c buffer))
    → from + length items ≤ length (pending c buffer) → length (pending c buffer) ≤ 2147483648 → d ≡ record c { flight = max c.flight (from + length items) }
    → Waits (happens w (Send from (length items))) d buffer
send_waits w c d buffer from items waits same inside small is =
    let left : length (stream w.written w.closed) - w.acked ≡ length (pending c buffer) = sym (length-drop w.acked (stream w.written w.closed)) ∙ ap length waits.held in
    subst (λ (v : World). Waits v d buffer) (sym (went_out w c buffer from items waits same inside small))
    (subst (λ (e : Sending). Waits (out_of w from items) e buffer) (sym is) (record {
      una = waits.una;
      flight = omega (arith, waits.flight);
      within = omega (arith, waits.within, waits.flight);
      closed = waits.closed;
      still = waits.still;
      held = waits.held;
    }))

pub is_send : (w : World) (c : Sending) (buffer : List ℕ) (from number : ℕ) (items : List Item) → Waits w c buffer → items ≡ take (length items) (drop from (pending c buffer))
    → from + length items ≤ length (pending c buffer) → length (pending c buffer) ≤ 2147483648 → number ≡ (c.una + from) % 4294967296 → IsSend w from number items
is_send w c buffer from number items waits same inside small is =
    let number_is : number_at w.initial (w.acked + from) ≡ number = omega (arith, waits.una) in
    record { last = ap (λ (v : World). v.segments) (went_out w c buffer from items waits same inside small) ∙ ap (λ (n : ℕ). record { place = w.acked + from; number = n; items = items } ∷ w.segments) number_is }
