-- What is received, after each step of the receiver.
use Rattle.std.proofs.Common.{◌≡◌, ◌⊎◌, inl, inr, refl, ℕ, zero, suc, ◌+◌, ◌-◌, ◌%◌, ◌≤◌, ◌<◌, min, List, [], ◌∷◌, ◌++◌, Bool, true, false, length, map, take, drop, sym, ◌∙◌, ap, subst, arith, append_assoc, nat_lt}
use Rattle.std.proofs.Math.Seq.{take-nil}
use Rattle.std.proofs.lemmas.List.{drop_all, length-append, length-map, length-drop, take_min, take_rest, take-take, take-append-drop, length-take-le, append-nil}
use Rattle.std.proofs.lemmas.Bool.{cond_both, cond-true, cond-false, false≢true}
use Rattle.std.proofs.lemmas.Bool.Decides.{nat_tests}
use Rattle.tcp_stream.specs.Endpoint.{Item, Syn, Byte, Fin, Receiver, distance, fresh, accepted, opened, received}
use Rattle.tcp_stream.specs.Network.{end_of, bytes_of, is_ended}
use Rattle.tcp_stream.proofs.Streams.{bytes_of_part}
use Rattle.tcp_stream.specs.Stands.{Holds, room_of}
use Rattle.tcp_stream.specs.Items.{items_of}
use Rattle.tcp_stream.specs.Ring.{ring, placed}
use Rattle.tcp_stream.proofs.Pending.{cut_front, placed_front, short_end}
use Rattle.tcp_stream.proofs.Places.{ring_drop, ring_front, length-ring}
use Rattle.tcp_stream.specs.declared.receiving.Receiving.{Receiving}

pub bytes-append : (xs ys : List Item) → bytes_of (xs ++ ys) ≡ bytes_of xs ++ bytes_of ys
bytes-append [] ys = refl
bytes-append (Byte b ∷ xs) ys = ap (λ (l : List ℕ). b ∷ l) (bytes-append xs ys)
bytes-append (Syn ∷ xs) ys = bytes-append xs ys
bytes-append (Fin ∷ xs) ys = bytes-append xs ys

pub ended_more : (xs ys : List Item) → is_ended ys ≡ true → is_ended (xs ++ ys) ≡ true
ended_more [] ys ended = ended
ended_more (Byte b ∷ xs) ys ended = ended_more xs ys ended
ended_more (Syn ∷ xs) ys ended = ended_more xs ys ended
ended_more (Fin ∷ xs) ys ended = refl

pub ended_same : (xs ys : List Item) → is_ended ys ≡ false → is_ended (xs ++ ys) ≡ is_ended xs
ended_same [] ys still = still
ended_same (Byte b ∷ xs) ys still = ended_same xs ys still
ended_same (Syn ∷ xs) ys still = ended_same xs ys still
ended_same (Fin ∷ xs) ys still = refl

-- the end is taken too
record Whole (xs : List Item) (n : ℕ) : Type 0 where
  long : length xs ≡ n + 1
  ended : is_ended xs ≡ true

whole : (q : List ℕ) (room : ℕ) → length q < room → Whole (take room (map Byte q ++ end_of true)) (length q)
whole q zero lt = absurd (omega arith)
whole [] (suc zero) lt = record { long = omega arith; ended = refl }
whole [] (suc (suc room)) lt = record { long = omega arith; ended = refl }
whole (b ∷ q) (suc room) lt = let rest = whole q room (omega arith) in record { long = omega (arith, rest.long); ended = rest.ended }

-- bytes alone are taken
record Bytes (xs : List Item) (n : ℕ) : Type 0 where
  long : length xs ≡ n
  still : is_ended xs ≡ false

bytes : (q : List ℕ) (room : ℕ) (fin : Bool) → (fin ≡ false) ⊎ (room ≤ length q) → Bytes (take room (map Byte q ++ end_of fin)) (min (length q) room)
bytes q zero fin why = record { long = omega arith; still = refl }
bytes [] (suc room) false why = record { long = omega arith; still = refl }
bytes [] (suc room) true (inl not) = absurd (false≢true (sym not))
bytes [] (suc room) true (inr le) = absurd (omega arith)
bytes (b ∷ q) (suc room) fin (inl not) = let rest = bytes q room fin (inl not) in record { long = omega (arith, rest.long); still = rest.still }
bytes (b ∷ q) (suc room) fin (inr le) = let rest = bytes q room fin (inr (omega arith)) in record { long = omega (arith, rest.long); still = rest.still }

pub two_steps : (x n : ℕ) → ((x + n) % 4294967296 + 1) % 4294967296 ≡ (x + n + 1) % 4294967296
two_steps x n = omega arith

pub length_rest : (payload : List ℕ) (skip : ℕ) → length (take (length payload - skip) (drop skip payload)) ≡ length payload - skip
length_rest payload skip = ap length (take_rest payload skip) ∙ length-drop skip payload

pub room_fits : (c : Receiving) (size : ℕ) → room_of c size ≤ size - c.len
room_fits c size = cond_both c.has_fin 0 (size - c.len) (λ (k : ℕ). k ≤ size - c.len) (λ ended. omega arith) (λ still. omega arith)

-- what the ring begins with after the new bytes are put into it
pub held_after : (c : Receiving) (old new payload : List ℕ) (skip n : ℕ) → c.start < length old → n ≤ length payload - skip → c.len + n ≤ length old
    → ring c.start new ≡ placed c.len (take n (take (length payload - skip) (drop skip payload))) (ring c.start old) → take (c.len + n) (ring c.start new) ≡ take c.len (ring c.start old) ++ take n (drop skip payload)
held_after c old new payload skip n start few fits is =
    let rest : take (length payload - skip) (drop skip payload) ≡ drop skip payload = take_rest payload skip in
    let long : length (take n (drop skip payload)) ≡ n = length-take-le n (drop skip payload) (omega (arith, length-drop skip payload)) in
    let same : ring c.start new ≡ placed c.len (take n (drop skip payload)) (ring c.start old) = is ∙ ap (λ (l : List ℕ). placed c.len (take n l) (ring c.start old)) rest in
    ap (λ (k : ℕ). take (c.len + k) (ring c.start new)) (sym long) ∙ ap (λ (l : List ℕ). take (c.len + length (take n (drop skip payload))) l) same
    ∙ placed_front c.len (take n (drop skip payload)) (ring c.start old) (omega (arith, length-ring c.start old (omega arith)))

-- what stays the same of a step that takes the items xs
module _ (r : Receiver) (consumed : List ℕ) (c : Receiving) (old : List ℕ) (stands : Holds r consumed c old) (is_open : c.is_open ≡ true) where
  pub step : (number : ℕ) (items xs : List Item) (room : ℕ) (d : Receiving) (new : List ℕ) → fresh r.next number items room ≡ xs
      → d.next ≡ (c.next + length xs) % 4294967296 → take d.len (ring d.start new) ≡ take c.len (ring c.start old) ++ bytes_of xs → is_ended (r.got ++ xs) ≡ d.has_fin → d.is_open ≡ true → Holds (received r number items room) consumed d new
  step number items xs room d new is next held ended still =
      subst (λ (m : Receiver). Holds m consumed d new) (sym (cond-true r.is_open _ _ (stands.is_open ∙ is_open))) (subst (λ (l : List Item). Holds (accepted r.next r.got l) consumed d new) (sym is) (record {
        is_open = sym still;
        next = λ now. next ∙ ap (λ (n : ℕ). (n + length xs) % 4294967296) (stands.next is_open);
        held = bytes-append r.got xs ∙ ap (λ (l : List ℕ). l ++ bytes_of xs) stands.held ∙ append_assoc consumed (take c.len (ring c.start old)) (bytes_of xs) ∙ ap (λ (l : List ℕ). consumed ++ l) (sym held);
        ended = ended;
      }))

  from : (number : ℕ) (payload : List ℕ) (fin : Bool) (skip room : ℕ) → distance c.next number ≡ skip → skip < 2147483648 → skip ≤ length payload
      → fresh r.next number (items_of false payload fin) room ≡ take room (map Byte (drop skip payload) ++ end_of fin)
  from number payload fin skip room is near le =
      ap (λ (n : ℕ). fresh n number (items_of false payload fin) room) (sym (stands.next is_open))
      ∙ cond-true _ _ _ (let t : nat_lt (distance c.next number) 2147483648 ≡ true = grind (arith, nat_tests) in t)
      ∙ ap (λ (n : ℕ). take room (drop n (items_of false payload fin))) is
      ∙ ap (λ (l : List Item). take room l) (cut_front payload fin skip le)

  -- bytes alone
  pub bytes_stand : (number : ℕ) (payload : List ℕ) (fin : Bool) (skip room n : ℕ) (d : Receiving) (new : List ℕ) → distance c.next number ≡ skip → skip < 2147483648 → skip ≤ length payload
      → n ≡ min (length payload - skip) room → (fin ≡ false) ⊎ (room ≤ length payload - skip)
      → d.next ≡ (c.next + n) % 4294967296 → take d.len (ring d.start new) ≡ take c.len (ring c.start old) ++ take n (drop skip payload) → d.has_fin ≡ c.has_fin → d.is_open ≡ true → Holds (received r number (items_of false payload fin) room) consumed d new
  bytes_stand number payload fin skip room n d new is near le size why next held flag still =
      let q = drop skip payload in
      let rest : length q ≡ length payload - skip = length-drop skip payload in
      let least : n ≡ min room (length q) = omega arith in
      let taken = bytes q room fin (subst (λ (k : ℕ). (fin ≡ false) ⊎ (room ≤ k)) (sym rest) why) in
      let same : take n q ≡ bytes_of (take room (map Byte q ++ end_of fin)) = ap (λ (k : ℕ). take k q) least ∙ take_min room q ∙ sym (bytes_of_part q fin room) in
      let long : length (take room (map Byte q ++ end_of fin)) ≡ n = taken.long ∙ (let e : min (length q) room ≡ n = omega arith in e) in
      step number (items_of false payload fin) (take room (map Byte q ++ end_of fin)) room d new (from number payload fin skip room is near le)
      (next ∙ ap (λ (k : ℕ). (c.next + k) % 4294967296) (sym long))
      (held ∙ ap (λ (l : List ℕ). take c.len (ring c.start old) ++ l) same)
      (ended_same r.got _ taken.still ∙ stands.ended ∙ sym flag) still

  -- how many they are
  pub bytes_grow : (number : ℕ) (payload : List ℕ) (fin : Bool) (skip room n : ℕ) → distance c.next number ≡ skip → skip < 2147483648 → skip ≤ length payload
      → n ≡ min (length payload - skip) room → (fin ≡ false) ⊎ (room ≤ length payload - skip) → length (received r number (items_of false payload fin) room).got ≡ length r.got + n
  bytes_grow number payload fin skip room n is near le size why =
      let q = drop skip payload in
      let rest : length q ≡ length payload - skip = length-drop skip payload in
      let taken = bytes q room fin (subst (λ (k : ℕ). (fin ≡ false) ⊎ (room ≤ k)) (sym rest) why) in
      ap (λ (m : Receiver). length m.got) (cond-true r.is_open _ _ (stands.is_open ∙ is_open)) ∙ ap (λ (l : List Item). length (r.got ++ l)) (from number payload fin skip room is near le)
      ∙ length-append r.got (take room (map Byte q ++ end_of fin)) ∙ (let e : length r.got + length (take room (map Byte q ++ end_of fin)) ≡ length r.got + n = omega (arith, taken.long) in e)

  -- all bytes, and the end
  pub end_stands : (number : ℕ) (payload : List ℕ) (skip room n : ℕ) (d : Receiving) (new : List ℕ) → distance c.next number ≡ skip → skip < 2147483648 → skip ≤ length payload
      → n ≡ length payload - skip → n < room
      → d.next ≡ (c.next + n + 1) % 4294967296 → take d.len (ring d.start new) ≡ take c.len (ring c.start old) ++ take n (drop skip payload) → d.has_fin ≡ true → d.is_open ≡ true → Holds (received r number (items_of false payload true) room) consumed d new
  end_stands number payload skip room n d new is near le size fits next held flag still =
      let q = drop skip payload in
      let rest : length q ≡ length payload - skip = length-drop skip payload in
      let least : n ≡ min room (length q) = omega arith in
      let taken = whole q room (omega arith) in
      let same : take n q ≡ bytes_of (take room (map Byte q ++ end_of true)) = ap (λ (k : ℕ). take k q) least ∙ take_min room q ∙ sym (bytes_of_part q true room) in
      let long : n + 1 ≡ length (take room (map Byte q ++ end_of true)) = omega (arith, taken.long) in
      step number (items_of false payload true) (take room (map Byte q ++ end_of true)) room d new (from number payload true skip room is near le)
      (next ∙ (let e : (c.next + n + 1) % 4294967296 ≡ (c.next + (n + 1)) % 4294967296 = omega arith in e) ∙ ap (λ (k : ℕ). (c.next + k) % 4294967296) long)
      (held ∙ ap (λ (l : List ℕ). take c.len (ring c.start old) ++ l) same)
      (ended_more r.got _ taken.ended ∙ sym flag) still

-- a segment before the SYN brings nothing
pub early : (r : Receiver) (number : ℕ) (payload : List ℕ) (fin : Bool) (room : ℕ) → r.is_open ≡ false → received r number (items_of false payload fin) room ≡ r
early r number payload fin room shut = cond-false r.is_open _ _ shut ∙ not_opened payload fin
  where
    not_opened : (p : List ℕ) (f : Bool) → opened r number (items_of false p f) room ≡ r
    not_opened [] true = refl
    not_opened [] false = refl
    not_opened (b ∷ p) f = refl

-- nor does one after a gap, or with nothing new
pub no_news : (r : Receiver) (number : ℕ) (payload : List ℕ) (fin : Bool) (room : ℕ) → r.next < 4294967296 → r.is_open ≡ true → (2147483648 ≤ distance r.next number) ⊎ (length payload < distance r.next number)
    → received r number (items_of false payload fin) room ≡ r
no_news r number payload fin room fits is_open why =
    let e : (r.next + 0) % 4294967296 ≡ r.next = omega arith in
    cond-true r.is_open _ _ is_open ∙ ap (λ (l : List Item). accepted r.next r.got l) (none why)
    ∙ ap (λ (n : ℕ). record { is_open = true; next = n; got = r.got ++ [] }) e ∙ ap (λ (l : List Item). record { is_open = true; next = r.next; got = l }) (append-nil r.got)
    ∙ ap (λ (f : Bool). record { is_open = f; next = r.next; got = r.got }) (sym is_open)
  where
    long : length (items_of false payload fin) ≤ length payload + 1
    long = omega (arith, length-append (map Byte payload) (end_of fin), length-map payload Byte, short_end fin)

    none : (2147483648 ≤ distance r.next number) ⊎ (length payload < distance r.next number) → fresh r.next number (items_of false payload fin) room ≡ []
    none (inl gap) = cond-false _ _ _ (let t : nat_lt (distance r.next number) 2147483648 ≡ false = grind (arith, nat_tests) in t)
    none (inr past) = cond_both (nat_lt (distance r.next number) 2147483648) _ _ (λ (l : List Item). l ≡ [])
        (λ near. ap (λ (l : List Item). take room l) (drop_all (distance r.next number) (items_of false payload fin) (omega (arith, long))) ∙ take-nil room) (λ gap. refl)

-- the SYN that opens
pub opened_stands : (r : Receiver) (consumed : List ℕ) (c d : Receiving) (buffer : List ℕ) (number : ℕ) (rest : List Item) → number < 4294967296 → Holds r consumed c buffer → c.is_open ≡ false
    → d ≡ record c { next = (number + 1) % 4294967296; is_open = true } → Holds (received r number (Syn ∷ rest) 1) consumed d buffer
opened_stands r consumed c d buffer number rest small stands shut is =
    let none : distance number number ≡ 0 = omega arith in
    let near : nat_lt (distance number number) 2147483648 ≡ true = grind (arith, nat_tests) in
    let new : fresh number number (Syn ∷ rest) 1 ≡ Syn ∷ [] = cond-true _ _ _ near ∙ ap (λ (n : ℕ). take 1 (drop n (Syn ∷ rest))) none in
    let opens : received r number (Syn ∷ rest) 1 ≡ accepted number r.got (Syn ∷ []) = cond-false r.is_open _ _ (stands.is_open ∙ shut) ∙ ap (λ (l : List Item). accepted number r.got l) new in
    subst (λ (m : Receiver). Holds m consumed d buffer) (sym opens) (subst (λ (e : Receiving). Holds (accepted number r.got (Syn ∷ [])) consumed e buffer) (sym is) (record {
      is_open = refl;
      next = λ now. refl;
      held = bytes-append r.got (Syn ∷ []) ∙ append-nil (bytes_of r.got) ∙ stands.held;
      ended = ended_same r.got (Syn ∷ []) refl ∙ stands.ended;
    }))

-- what is read, and what is left
pub read_stands : (r : Receiver) (consumed : List ℕ) (c d : Receiving) (b : List ℕ) (n t : ℕ) → Holds r consumed c b → c.start < length b → c.len ≤ length b → t < length b
    → (t ≡ c.start + n) ⊎ (t + length b ≡ c.start + n) → n ≤ c.len → c.start + n ≤ length b → d ≡ record c { start = t; len = c.len - n } → Holds r (consumed ++ take n (drop c.start b)) d b
read_stands r consumed c d b n t stands start len inside is le fits same = subst (λ (e : Receiving). Holds r (consumed ++ take n (drop c.start b)) e b) (sym same) (record {
  is_open = stands.is_open;
  next = stands.next;
  held =
      stands.held
      ∙ ap (λ (l : List ℕ). consumed ++ l) (sym (take-append-drop n (take c.len (ring c.start b))) ∙ ap (λ (l : List ℕ). l ++ drop n (take c.len (ring c.start b))) (take-take n c.len (ring c.start b) le ∙ ring_front c.start n b fits)
      ∙ ap (λ (l : List ℕ). take n (drop c.start b) ++ l) (ring_drop c.start t n c.len b start inside is le len))
      ∙ sym (append_assoc consumed (take n (drop c.start b)) (take (c.len - n) (ring t b)));
  ended = stands.ended;
})
