-- The parts of a memory, and the entries of a table.
use Rattle.std.proofs.Common.{ℕ, ◌≡◌, ◌≢◌, ◌+◌, ◌-◌, ◌*◌, ◌<◌, ◌≤◌, ◌++◌, ◌∷◌, ◌⊎◌, ◌∙◌, List, [], length, take, drop, ap, sym, subst, subst₂, arith, inl, inr, Bool, false, get_or, get_or-set_other, get_or-set_same, slice_range, length-append, length-drop, below_more}
use borrow.Rule.Slice.PartMut.{put_mid}
use Rattle.std.proofs.Math.ListN.{set, length-set}
use Rattle.std.proofs.Math.Nat.{mul-le-mul_left}
use Rattle.std.proofs.lemmas.Bool.{cases_eq, cases_lt, cases_order}
use Rattle.std.proofs.lemmas.List.{drop_at, get_or_default, take_at, length-take-le}
use Rattle.std.proofs.lemmas.Slice.{between-put_mid, between_is, drop-put_mid, take-put_mid_below}
use Rattle.app_fragment.specs.Datagram.{EachPacket, IsFirst, OnePacket}
use Rattle.app_fragment.specs.Fragments.{Fragment, end_of, fragment}
use Rattle.app_fragment.specs.Parts.{fragment_of, packet_len}
use Rattle.app_fragment.specs.Partials.{Adds, AreSilentBelow, Does, EndBelow, HasNoFirst, IsAlone, IsExpired, IsFirstFrame, IsPlaceFor, IsTold, Opens, Table, bare, block_count, ended, entry, entry_at, no_partial, partial_at, room_of, share_len, table}
use Rattle.app_fragment.specs.declared.part.FragKey.{FragKey}
use Rattle.app_fragment.specs.declared.partials.Partial.{Partial}
use Rattle.app_fragment.specs.declared.partials.Reassembled.{Reassembled}

-- what is after the first n bytes stays, if they are written
pub rest-kept : (w old new : List ℕ) (n : ℕ) → new ≡ w ++ drop n old → length new ≡ length old → n ≤ length old → drop n new ≡ drop n old
rest-kept w old new n is same room =
    let long : length w ≡ n = omega (arith, ap length is, length-append w (drop n old), length-drop n old, same, room) in
    ap (drop n) is ∙ drop_at w (drop n old) n long

-- ---- a part of the memory

pub split : (p : Partial) (part : List ℕ) (n : ℕ) → n ≡ block_count (length part) → bare p (take n part) (take (8 * n) (drop n part)) ≡ entry p part
split p part n is =
    let count : 8 * n ≡ 9 * n - n = omega arith in
    ap (λ m. bare p (take n part) (take m (drop n part))) count ∙ ap (λ m. bare p (take m part) (take (9 * m - m) (drop m part))) is

pub joined : (p : Partial) (part received buffer : List ℕ) (n : ℕ) → n ≡ block_count (length part) → 9 * n ≤ length part → length received ≡ n → length buffer ≡ 8 * n
    → entry p (received ++ (buffer ++ drop (8 * n) (drop n part))) ≡ bare p received buffer
joined p part received buffer n is fits short long =
    let left : List ℕ = drop (8 * n) (drop n part) in
    let whole : List ℕ = received ++ (buffer ++ left) in
    let same : length (received ++ (buffer ++ drop (8 * n) (drop n part))) ≡ length part =
    omega (arith, length-append received (buffer ++ drop (8 * n) (drop n part)), length-append buffer (drop (8 * n) (drop n part)), length-drop (8 * n) (drop n part), length-drop n part, fits, short, long) in
    let count : block_count (length (received ++ (buffer ++ drop (8 * n) (drop n part)))) ≡ n = ap block_count same ∙ sym is in
    let back : drop n (received ++ (buffer ++ drop (8 * n) (drop n part))) ≡ buffer ++ drop (8 * n) (drop n part) = drop_at received (buffer ++ drop (8 * n) (drop n part)) n short in
    let eight : 9 * n - n ≡ 8 * n = omega arith in
    ap (λ m. bare p (take m (received ++ (buffer ++ drop (8 * n) (drop n part)))) (take (9 * m - m) (drop m (received ++ (buffer ++ drop (8 * n) (drop n part)))))) count
    ∙ ap (λ l. bare p l (take (9 * n - n) (drop n (received ++ (buffer ++ drop (8 * n) (drop n part)))))) (take_at received (buffer ++ drop (8 * n) (drop n part)) n short)
    ∙ ap (λ l. bare p received (take (9 * n - n) l)) back
    ∙ ap (λ m. bare p received (take m (buffer ++ drop (8 * n) (drop n part)))) eight
    ∙ ap (λ l. bare p received l) (take_at buffer (drop (8 * n) (drop n part)) (8 * n) long)

-- part i of `count` parts ends within the memory
pub part-end : (i count len total : ℕ) → i < count → len * count ≤ total → (i + 1) * len ≤ total
part-end i count len total low fits =
    let more : len * (i + 1) ≤ len * count = mul-le-mul_left len (omega arith) in
    omega (arith, more, fits)

pub place-inside : (partials : List Partial) (now : ℕ) (key : FragKey) (i : ℕ) → IsPlaceFor partials now key i → i < length partials
place-inside partials now key i (inl found) = found.inside
place-inside partials now key i (inr freed) = freed.inside

-- of two entries for one packet none is before the other
not-before : (partials : List Partial) (now : ℕ) (key : FragKey) (i j : ℕ) → IsPlaceFor partials now key i → IsPlaceFor partials now key j → ¬ (i < j)
not-before partials now key i j (inl a) (inl b) low = b.first i low a.is
not-before partials now key i j (inl a) (inr b) low = b.none i a.inside a.is
not-before partials now key i j (inr a) (inl b) low = a.none j b.inside b.is
not-before partials now key i j (inr a) (inr b) low = let less = b.first i low in let least = a.least j b.inside in omega (arith, less, least)

pub place-unique : (partials : List Partial) (now : ℕ) (key : FragKey) (i j : ℕ) → IsPlaceFor partials now key i → IsPlaceFor partials now key j → i ≡ j
place-unique partials now key i j a b = elim (cases_order i j) [
  | inl e ↦ e
  | inr (inl low) ↦ absurd (not-before partials now key i j a b low)
  | inr (inr high) ↦ absurd (not-before partials now key j i b a high)
]

-- ---- a part that changes

length-put : (memory part : List ℕ) (a k : ℕ) → a + k ≤ length memory → length part ≡ k → length (put_mid a k memory part) ≡ length memory
length-put memory part a k fits long =
    omega (arith, length-append (take a memory) (part ++ drop k (drop a memory)), length-append part (drop k (drop a memory)), length-take-le a memory (omega (arith, fits)), length-drop k (drop a memory), length-drop a memory, fits, long)

-- what is before or after the part stays
range-kept : (memory part : List ℕ) (a k x y : ℕ) → a + k ≤ length memory → length part ≡ k → (y ≤ a) ⊎ (a + k ≤ x)
    → slice_range (put_mid a k memory part) x y ≡ slice_range memory x y
range-kept memory part a k x y fits long (inl before) =
    between_is (put_mid a k memory part) x y
    ∙ ap (drop x) (take-put_mid_below a k memory part y before (omega (arith, fits)))
    ∙ sym (between_is memory x y)
range-kept memory part a k x y fits long (inr after) = ap (take (y - x)) (drop-put_mid a k memory part x after (omega (arith, fits)) long)

apart : (i j s : ℕ) → j ≢ i → ((j + 1) * s ≤ i * s) ⊎ ((i + 1) * s ≤ j * s)
apart i j s other = elim (cases_lt j i) [
  | inl low ↦ let more : s * (j + 1) ≤ s * i = mul-le-mul_left s (omega (arith, low)) in inl (omega (arith, more))
  | inr high ↦
      let above : i + 1 ≤ j = omega (arith, high, other) in
      let more : s * (i + 1) ≤ s * j = mul-le-mul_left s above in
      inr (omega (arith, more))
]

-- the bytes of part i, if the parts have s bytes
pub here-is : (partials : List Partial) (memory : List ℕ) (i s : ℕ) → s ≡ share_len (length partials) (length memory)
    → entry_at (table partials memory) i ≡ entry (partial_at partials i) (slice_range memory (i * s) ((i + 1) * s))
here-is partials memory i s is = ap (λ n. entry (partial_at partials i) (slice_range memory (i * n) ((i + 1) * n))) (sym is)

share-kept : (partials : List Partial) (memory part : List ℕ) (p : Partial) (i a k : ℕ) → a + k ≤ length memory → length part ≡ k
    → share_len (length (set partials i p)) (length (put_mid a k memory part)) ≡ share_len (length partials) (length memory)
share-kept partials memory part p i a k fits long = λ n. share_len (length-set partials i p n) (length-put memory part a k fits long n)

-- the entry that is written
pub here : (partials : List Partial) (memory part : List ℕ) (p : Partial) (i s : ℕ) → s ≡ share_len (length partials) (length memory) → i < length partials
    → (i + 1) * s ≤ length memory → length part ≡ (i + 1) * s - i * s
    → entry_at (table (set partials i p) (put_mid (i * s) ((i + 1) * s - i * s) memory part)) i ≡ entry p part
here partials memory part p i s is low fits long =
    let within : i * s + ((i + 1) * s - i * s) ≤ length memory = omega (arith, fits) in
    here-is (set partials i p) (put_mid (i * s) ((i + 1) * s - i * s) memory part) i s (is ∙ sym (share-kept partials memory part p i (i * s) ((i + 1) * s - i * s) within long))
    ∙ ap (λ q. entry q (slice_range (put_mid (i * s) ((i + 1) * s - i * s) memory part) (i * s) ((i + 1) * s))) (get_or-set_same partials i p no_partial low)
    ∙ ap (entry p) (between-put_mid (i * s) ((i + 1) * s - i * s) memory part ((i + 1) * s) (omega (arith, within)) long)

-- the other entries
pub others : (partials : List Partial) (memory part : List ℕ) (p : Partial) (i j s : ℕ) → s ≡ share_len (length partials) (length memory)
    → (i + 1) * s ≤ length memory → length part ≡ (i + 1) * s - i * s → j ≢ i
    → entry_at (table (set partials i p) (put_mid (i * s) ((i + 1) * s - i * s) memory part)) j ≡ entry_at (table partials memory) j
others partials memory part p i j s is fits long other =
    let within : i * s + ((i + 1) * s - i * s) ≤ length memory = omega (arith, fits) in
    let far : ((j + 1) * s ≤ i * s) ⊎ (i * s + ((i + 1) * s - i * s) ≤ j * s) =
    elim (apart i j s other) [ inl low ↦ inl low | inr high ↦ inr (omega (arith, high)) ] in
    here-is (set partials i p) (put_mid (i * s) ((i + 1) * s - i * s) memory part) j s (is ∙ sym (share-kept partials memory part p i (i * s) ((i + 1) * s - i * s) within long))
    ∙ ap (λ q. entry q (slice_range (put_mid (i * s) ((i + 1) * s - i * s) memory part) (j * s) ((j + 1) * s))) (get_or-set_other partials i j p no_partial other)
    ∙ ap (entry (partial_at partials j)) (range-kept memory part (i * s) ((i + 1) * s - i * s) (j * s) ((j + 1) * s) within long far)
    ∙ sym (here-is partials memory j s is)

-- ---- one more fragment

-- by the entry of its packet, in its part of the memory
pub added : (now : ℕ) (key : FragKey) (link packet before after : List ℕ) (given : Reassembled) (p q new : Partial) (part front back received marked filled : List ℕ) (n : ℕ)
    → n ≡ block_count (length part) → 9 * n ≤ length part → front ≡ take n part → back ≡ drop n part → length marked ≡ n → length filled ≡ 8 * n
    → Opens now key link (bare p front (take (8 * n) back)) (bare q received (take (8 * n) back))
    → Does (record {
      packet = packet;
      old = bare q received (take (8 * n) back);
      new = bare new marked filled;
      before = before;
      after = after;
    }) given
    → Adds now key link packet (entry p part) (entry new (marked ++ (filled ++ drop (8 * n) back))) before after given
added now key link packet before after given p q new part front back received marked filled n is fits first second short long opens does =
    let whole : bare p front (take (8 * n) back) ≡ entry p part = (λ i. bare p (first i) (take (8 * n) (second i))) ∙ split p part n is in
    let again : entry new (marked ++ (filled ++ drop (8 * n) back)) ≡ bare new marked filled =
    ap (λ b. entry new (marked ++ (filled ++ drop (8 * n) b))) second ∙ joined new part marked filled n is fits short long in
    record {
      opened = bare q received (take (8 * n) back);
      opens = subst (λ e. Opens now key link e (bare q received (take (8 * n) back))) whole opens;
      does = subst (λ e. Does (record {
        packet = packet;
        old = bare q received (take (8 * n) back);
        new = e;
        before = before;
        after = after;
      }) given) (sym again) does;
    }

-- an entry as the body reads it
read : (partials : List Partial) (memory : List ℕ) (i s : ℕ) (d : Partial) → s ≡ share_len (length partials) (length memory) → i < length partials
    → entry (get_or partials i d) (take ((i + 1) * s - i * s) (drop (i * s) memory)) ≡ entry_at (table partials memory) i
read partials memory i s d is low =
    ap (λ q. entry q (take ((i + 1) * s - i * s) (drop (i * s) memory))) (get_or_default partials i d no_partial low)
    ∙ sym (here-is partials memory i s is)

pub adds-here : (now : ℕ) (key : FragKey) (link packet before after : List ℕ) (given : Reassembled) (partials : List Partial) (memory part : List ℕ) (p d : Partial) (i s : ℕ)
    → s ≡ share_len (length partials) (length memory) → i < length partials → (i + 1) * s ≤ length memory → length part ≡ (i + 1) * s - i * s
    → Adds now key link packet (entry (get_or partials i d) (take ((i + 1) * s - i * s) (drop (i * s) memory))) (entry p part) before after given
    → Adds now key link packet (entry_at (table partials memory) i)
    (entry_at (table (set partials i p) (put_mid (i * s) ((i + 1) * s - i * s) memory part)) i) before after given
adds-here now key link packet before after given partials memory part p d i s is low fits long adds =
    subst₂ (λ e f. Adds now key link packet e f before after given) (read partials memory i s d is low) (sym (here partials memory part p i s is low fits long)) adds

-- ---- entries that end

pub end-more : (old l : List Partial) (now i : ℕ) (p : Partial) → i < length l → EndBelow old l now i → p ≡ ended now (partial_at l i) → EndBelow old (set l i p) now (i + 1)
end-more old l now i p low h is = record {
  below = below_more (λ j. partial_at (set l i p) j ≡ ended now (partial_at old j)) i
      (λ j less. get_or-set_other l i j p no_partial (λ e. omega (arith, less, e)) ∙ h.below j less)
      (get_or-set_same l i p no_partial low ∙ is ∙ ap (ended now) (h.later i (omega arith)));
  later = λ j high. get_or-set_other l i j p no_partial (λ e. omega (arith, high, e)) ∙ h.later j (omega (arith, high));
}

-- the entry that the loop reads: it did not change yet
unread : (old l : List Partial) (memory : List ℕ) (now i s : ℕ) (d : Partial) → s ≡ share_len (length old) (length memory) → length l ≡ length old → i < length old → EndBelow old l now i
    → (get_or l i d ≡ partial_at old i) × (entry (get_or l i d) (take ((i + 1) * s - i * s) (drop (i * s) memory)) ≡ entry_at (table old memory) i)
unread old l memory now i s d is same low h =
    let one : get_or l i d ≡ partial_at old i = get_or_default l i d no_partial (omega (arith, low, same)) ∙ h.later i (omega arith) in
    (one, ap (λ q. entry q (take ((i + 1) * s - i * s) (drop (i * s) memory))) one ∙ sym (here-is old memory i s is))

pub end-step : (old l : List Partial) (memory : List ℕ) (now i s : ℕ) (d p : Partial) → s ≡ share_len (length old) (length memory) → length l ≡ length old → i < length old
    → EndBelow old l now i → p ≡ ended now (get_or l i d) → EndBelow old (set l i p) now (i + 1)
end-step old l memory now i s d p is same low h e =
    end-more old l now i p (omega (arith, low, same)) h (e ∙ ap (ended now) (get_or_default l i d no_partial (omega (arith, low, same))))

-- the first entry that gives a frame
pub expired : (old l : List Partial) (memory before between after : List ℕ) (now i s len : ℕ) (d p : Partial) → s ≡ share_len (length old) (length memory) → length l ≡ length old → i < length old
    → EndBelow old l now i → AreSilentBelow (table old memory) now (length before) i → between ≡ before → p ≡ ended now (get_or l i d)
    → IsTold now (get_or l i d) × IsFirstFrame (entry (get_or l i d) (take ((i + 1) * s - i * s) (drop (i * s) memory))) len between after
    → IsExpired (table old memory) (set l i p) now before after len i
expired old l memory before between after now i s len d p is same low h silent unwritten e frame =
    let (one, whole) = unread old l memory now i s d is same low h in
    record {
      inside = low;
      silent = silent;
      told = subst (IsTold now) one frame.0;
      frame = subst₂ (λ e b. IsFirstFrame e len b after) whole unwritten frame.1;
      end = end-step old l memory now i s d p is same low h e;
    }

-- an entry that gives no frame
pub silent-more : (old l : List Partial) (memory before between : List ℕ) (now i s : ℕ) (d : Partial) → s ≡ share_len (length old) (length memory) → length l ≡ length old → i < length old
    → EndBelow old l now i → AreSilentBelow (table old memory) now (length before) i → between ≡ before
    → (IsTold now (get_or l i d) → HasNoFirst (entry (get_or l i d) (take ((i + 1) * s - i * s) (drop (i * s) memory))) (length between))
    → AreSilentBelow (table old memory) now (length before) (i + 1)
silent-more old l memory before between now i s d is same low h silent unwritten none =
    let (one, whole) = unread old l memory now i s d is same low h in
    below_more (λ j. IsTold now (partial_at old j) → HasNoFirst (entry_at (table old memory) j) (length before)) i silent
    (λ told. subst₂ (λ e n. HasNoFirst e n) whole (ap length unwritten) (none (subst (IsTold now) (sym one) told)))

-- ---- what a fragment is

pub alone-is : (packet bytes : List ℕ) (first : ℕ) (more : Bool) → fragment first more bytes ≡ fragment_of packet → (first ≡ 0) × (more ≡ false) → IsAlone packet
alone-is packet bytes first more is h = record { first = ap (λ (f : Fragment). f.first) (sym is) ∙ h.0; last = ap (λ (f : Fragment). f.more) (sym is) ∙ h.1 }

pub alone-parts : (packet bytes : List ℕ) (first : ℕ) (more : Bool) → fragment first more bytes ≡ fragment_of packet → IsAlone packet → (first ≡ 0) × (more ≡ false)
alone-parts packet bytes first more is alone = (ap (λ (f : Fragment). f.first) is ∙ alone.first, ap (λ (f : Fragment). f.more) is ∙ alone.last)

pub too-long : (t : Table) (packet bytes : List ℕ) (first : ℕ) (more : Bool) (blocks len : ℕ) → fragment first more bytes ≡ fragment_of packet
    → blocks ≡ block_count len → len ≡ share_len (length t.partials) (length t.memory) → (8 * first + length bytes ≤ 8 * blocks → ⊥) → room_of t < end_of (fragment_of packet)
too-long t packet bytes first more blocks len is count share fails =
    let end : 8 * first + length bytes ≡ end_of (fragment_of packet) = ap end_of is in
    let room : 8 * blocks ≡ room_of t = ap (λ n. 8 * n) (count ∙ ap block_count share) in
    elim (cases_lt (8 * blocks) (8 * first + length bytes)) [
      | inl long ↦ omega (arith, long, end, room)
      | inr fits ↦ absurd (fails fits)
    ]

-- ---- first fragments

-- no frame fits in an output without room for its Ethernet header
pub no-first : (room : ℕ) (ps : List (List ℕ)) → room < 14 → EachPacket (λ p. ¬ IsFirst p) ps ⊎ OnePacket (λ p. IsFirst p × (room < 14 + packet_len p)) ps
no-first room [] short = inl tt
no-first room (p ∷ ps) short = elim (cases_eq ((fragment_of p).first) 0) [
  | inl e ↦ inr (inl (e, omega (arith, short)))
  | inr ne ↦ elim (no-first room ps short) [ inl all ↦ inl (ne, all) | inr one ↦ inr (inr one) ]
]

pub longer : (room left : ℕ) (ps : List (List ℕ)) → room ≤ 14 + left → OnePacket (λ p. IsFirst p × (left < packet_len p)) ps
    → OnePacket (λ p. IsFirst p × (room < 14 + packet_len p)) ps
longer room left [] more one = one
longer room left (p ∷ ps) more (inl is) = let long = is.1 in inl (is.0, omega (arith, more, long))
longer room left (p ∷ ps) more (inr one) = inr (longer room left ps more one)
