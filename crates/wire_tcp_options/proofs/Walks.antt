-- Longest walks: each list of bytes has exactly one, and a walk that stops is it.
use Rattle.std.proofs.Common.{ℕ, zero, suc, ◌≡◌, ◌≢◌, ◌<◌, ◌≤◌, ◌+◌, ◌⊎◌, inl, inr, eqb, List, [], ◌∷◌, ◌++◌, length, get_or, Option, Some, None, Ok, Err, refl, sym, ap, subst, ◌∙◌, append_assoc, length-append, arith}
use Rattle.std.specs.List.{AllByRecursion, flat_map}
use Rattle.std.proofs.lemmas.Bool.{cases_Bool, eq-eqb, eqb-true}
use Rattle.std.proofs.lemmas.List.{append-nil}
use Rattle.wire_tcp_options.proofs.FirstItems.{Leads-first_item, first_item-Leads}
use Rattle.wire_tcp_options.proofs.OptionLists.{head-text, nil-text, text_apart}
use Rattle.wire_tcp_options.proofs.Prefixes.{Goes, Walked, walk_on, walks_compared}
use Rattle.wire_tcp_options.specs.TcpItems.{Item, IsItem, first_blocks, first_item, text}
use Rattle.wire_tcp_options.specs.TcpOption.{Begins, BeginsNothing, IsReading, ranges_in}
use Rattle.wire_tcp_options.specs.TcpWalk.{Answers, FindsFirst, IsFirst, IsLongWalk, IsMark, IsWalk, Mark, answer_of, first_of, mark_text}
use Rattle.wire_tcp_options.specs.declared.tcp.option.TcpOption.{TcpOption}
use Rattle.wire_tcp_options.specs.declared.tcp.option.TcpOption.TheVariants.{EndOfList, NoOperation, MaxSegmentSize, WindowScale, SackPermitted, SackRange, TimeStamp, Unknown}
use Rattle.std.proofs.lemmas.Grind.{common_steps}
use Rattle.std.proofs.lemmas.Bool.Decides.{nat_tests}

-- ---- which bytes begin with an item or a mark

-- the bytes begin with an item, a mark, or neither
pub record Starts (bytes : List ℕ) : Type 0 where
  pub mark : Mark
  pub rest : List ℕ
  pub is : IsMark mark
  pub joined : bytes ≡ mark_text mark ++ rest

starts : (bytes : List ℕ) → Starts bytes ⊎ BeginsNothing bytes
starts [] = inr (record { no_mark = λ rest e. cc; no_item = λ i rest is e. nil-text i rest e })
starts (zero ∷ r) = inl (record { mark = None; rest = r; is = tt; joined = refl })
starts (suc k ∷ r) = go (first_item (suc k ∷ r)) refl
  where
    go : (o : Option (Item × List ℕ)) → first_item (suc k ∷ r) ≡ o → Starts (suc k ∷ r) ⊎ BeginsNothing (suc k ∷ r)
    go (Some (i, rest)) e =
        let l = first_item-Leads (suc k ∷ r) i rest e in
        inl (record { mark = Some i; rest = rest; is = l.is; joined = l.joined })
    go None e = inr (record {
      no_mark = λ rest m. cc;
      no_item = λ i rest is joined. let found = Leads-first_item (suc k ∷ r) i rest (record { is = is; joined = joined }) in cc;
    })

-- ---- walks

-- no text of a mark is a prefix of another
mark_apart : (m n : Mark) (a b : List ℕ) → IsMark m → IsMark n → mark_text m ++ a ≡ mark_text n ++ b → (m ≡ n) × (a ≡ b)
mark_apart m n a b is js e = grind (arith, common_steps, nat_tests, head-text, text_apart)

-- the bytes are the texts of these marks, followed by a rest
abbrev pub Marks : List ℕ → List Mark → List ℕ → Type 0
Marks = Walked mark_text IsMark

-- bytes that begin with a mark are not empty
begins_mark : (m : Mark) (bytes rest : List ℕ) → IsMark m → bytes ≡ mark_text m ++ rest → BeginsNothing bytes → ⊥
begins_mark m bytes rest is e nothing = grind arith

-- a walk that cannot continue is the longest
pub long : (bytes : List ℕ) (marks : List Mark) (rest : List ℕ) → Marks bytes marks rest → BeginsNothing rest → IsLongWalk bytes marks rest
long bytes marks rest w nothing = record {
  walk = record { each = w.each; joined = w.joined_is };
  longest = λ others left o. elim (walks_compared mark_text IsMark mark_apart bytes marks others rest left w (record { each = o.each; joined_is = o.joined })) [
    | inl g ↦ no_more others left g
    | inr g ↦ omega (arith, ap length g.longer ∙ length-append others g.more)
  ];
}
  where
    no_more : (zs : List Mark) (left : List ℕ) → Goes mark_text IsMark marks zs rest left → length zs ≤ length marks
    no_more zs left g = go g.more g.each g.longer g.left
      where
        go : (ms : List Mark) → AllByRecursion IsMark ms → zs ≡ marks ++ ms → rest ≡ flat_map mark_text ms ++ left → length zs ≤ length marks
        go [] each longer e = omega (arith, ap length (longer ∙ append-nil marks))
        go (m ∷ ms) each longer e = absurd (begins_mark m rest (flat_map mark_text ms ++ left) each.0 (e ∙ append_assoc (mark_text m) (flat_map mark_text ms) left) nothing)

one_mark : (bytes : List ℕ) (m : Mark) (rest : List ℕ) → IsMark m → bytes ≡ mark_text m ++ rest → Marks bytes (m ∷ []) rest
one_mark bytes m rest is e = grind (arith, common_steps, nat_tests, append-nil)

-- the text of a mark is not empty
some_text : (m : Mark) → IsMark m → 0 < length (mark_text m)
some_text m is = grind arith

-- a walk that cannot continue
pub record Stuck (bytes : List ℕ) : Type 0 where
  pub marks : List Mark
  pub rest : List ℕ
  pub walk : Marks bytes marks rest
  pub nothing : BeginsNothing rest

stuck_here : (bytes : List ℕ) → BeginsNothing bytes → Stuck bytes
stuck_here bytes nothing = grind (arith, common_steps, nat_tests)

starts_len : (bytes : List ℕ) (s : Starts bytes) → length bytes ≡ length (mark_text s.mark) + length s.rest
starts_len bytes s = ap length s.joined ∙ length-append (mark_text s.mark) s.rest

stuck_within : (n : ℕ) (bytes : List ℕ) → length bytes ≤ n → Stuck bytes
stuck_within zero bytes h = elim (starts bytes) [
  | inr nothing ↦ stuck_here bytes nothing
  | inl s ↦ absurd (omega (arith, some_text s.mark s.is, starts_len bytes s))
]
stuck_within (suc n) bytes h = elim (starts bytes) [
  | inr nothing ↦ stuck_here bytes nothing
  | inl s ↦
      let some = some_text s.mark s.is in
      let next = stuck_within n s.rest (omega (arith, some, starts_len bytes s)) in
      record {
        marks = s.mark ∷ next.marks;
        rest = next.rest;
        walk = walk_on mark_text IsMark bytes (s.mark ∷ []) next.marks s.rest next.rest (one_mark bytes s.mark s.rest s.is s.joined) next.walk;
        nothing = next.nothing;
      }
]

-- bytes have a walk that cannot continue, which is the longest
pub stuck_walk : (bytes : List ℕ) → Stuck bytes
stuck_walk bytes = stuck_within (length bytes) bytes (omega arith)

-- a walk to the end of the marks, continued from some marks
pub long_on : (bytes : List ℕ) (marks : List Mark) (rest : List ℕ) → Marks bytes marks rest → (next : Stuck rest) → IsLongWalk bytes (marks ++ next.marks) next.rest
long_on bytes marks rest w next = long bytes (marks ++ next.marks) next.rest (walk_on mark_text IsMark bytes marks next.marks rest next.rest w next.walk) next.nothing

-- bytes have at most one longest walk
pub one_long_walk : (bytes : List ℕ) (xs ys : List Mark) (r t : List ℕ) → IsLongWalk bytes xs r → IsLongWalk bytes ys t → (xs ≡ ys) × (r ≡ t)
one_long_walk bytes xs ys r t a b = elim (walks_compared mark_text IsMark mark_apart bytes xs ys r t (walk_of xs r a) (walk_of ys t b)) [
  | inl g ↦
      let n = no_more xs ys r t g (b.walk) (a.longest ys t b.walk) in
      (sym n.0, n.1)
  | inr g ↦
      let n = no_more ys xs t r g (a.walk) (b.longest xs r a.walk) in
      (n.0, sym n.1)
]
  where
    walk_of : (zs : List Mark) (left : List ℕ) → IsLongWalk bytes zs left → Marks bytes zs left
    walk_of zs left w = record { each = w.walk.each; joined_is = w.walk.joined }

    no_more : (xs ys : List Mark) (r t : List ℕ) → Goes mark_text IsMark xs ys r t → IsWalk bytes ys t → length ys ≤ length xs → (ys ≡ xs) × (r ≡ t)
    no_more xs ys r t g w h = go g.more g.longer g.left
      where
        go : (ms : List Mark) → ys ≡ xs ++ ms → r ≡ flat_map mark_text ms ++ t → (ys ≡ xs) × (r ≡ t)
        go [] longer e = (longer ∙ append-nil xs, e)
        go (m ∷ ms) longer e = absurd (omega (arith, ap length longer ∙ length-append xs (m ∷ ms)))

-- ---- the first item of a kind

pub first_of-append : (kind : ℕ) (xs ys : List Mark) → first_of kind xs ≡ None → first_of kind (xs ++ ys) ≡ first_of kind ys
first_of-append kind [] ys none = refl
first_of-append kind (None ∷ xs) ys none = first_of-append kind xs ys none
first_of-append kind (Some i ∷ xs) ys none = elim (cases_Bool (eqb i.kind kind)) [
  | inl y ↦
      let found : Some i ≡ None = sym (rw y refl) ∙ none in
      cc
  | inr n ↦ rw n (first_of-append kind xs ys (rw n at none))
]

-- the mark from which an option was parsed
pub record Read (option : TcpOption) (bytes rest : List ℕ) : Type 0 where
  pub mark : Mark
  pub is : IsMark mark
  pub joined : bytes ≡ mark_text mark ++ rest
  pub reading : (i : Item) → mark ≡ Some i → IsReading option i

read_item : (option : TcpOption) (bytes rest : List ℕ) (i : Item) → IsItem i → IsReading option i → bytes ≡ text i ++ rest → Read option bytes rest
read_item option bytes rest i is reading e = record {
  mark = Some i;
  is = is;
  joined = e;
  reading = λ j same. let one : i ≡ j = cc in subst (IsReading option) one reading;
}

pub read_mark : (option : TcpOption) (bytes rest : List ℕ) → Begins option bytes rest → Read option bytes rest
read_mark EndOfList bytes rest e = record { mark = None; is = tt; joined = e; reading = λ i same. cc }
read_mark NoOperation bytes rest (i, is, reading, e) = read_item NoOperation bytes rest i is reading e
read_mark (MaxSegmentSize size) bytes rest (i, is, reading, e) = read_item (MaxSegmentSize size) bytes rest i is reading e
read_mark (WindowScale scale) bytes rest (i, is, reading, e) = read_item (WindowScale scale) bytes rest i is reading e
read_mark SackPermitted bytes rest (i, is, reading, e) = read_item SackPermitted bytes rest i is reading e
read_mark (SackRange ranges) bytes rest (i, is, reading, e) = read_item (SackRange ranges) bytes rest i is reading e
read_mark (TimeStamp tsval tsecr) bytes rest (i, is, reading, e) = read_item (TimeStamp tsval tsecr) bytes rest i is reading e
read_mark (Unknown kind content) bytes rest (i, is, reading, e) = read_item (Unknown kind content) bytes rest i is reading e

-- the first byte of the text of a mark decides whether the mark has a kind
first_of-here : (kind : ℕ) (m : Mark) (b : ℕ) (bs rest : List ℕ) → 0 < kind → b ∷ bs ≡ mark_text m ++ rest → (b ≡ kind → (i : Item) × (m ≡ Some i) × (i.kind ≡ kind)) × (b ≢ kind → first_of kind (m ∷ []) ≡ None)
first_of-here kind m b bs rest some e = grind (arith, common_steps, nat_tests, head-text, cases_Bool, eqb-true)

-- the walk passes an option of another kind
pub passed : (bytes : List ℕ) (marks : List Mark) (kind : ℕ) (r rest : List ℕ) (option : TcpOption) → Marks bytes marks r → first_of kind marks ≡ None → 0 < kind
    → 0 < length r → Begins option r rest → get_or r 0 0 ≢ kind → (more : List Mark) × Marks bytes more rest × (first_of kind more ≡ None)
passed bytes marks kind [] rest option w none some filled begins not = absurd (omega arith)
passed bytes marks kind (b ∷ bs) rest option w none some filled begins not =
    let r = read_mark option (b ∷ bs) rest begins in (
      marks ++ r.mark ∷ [],
      walk_on mark_text IsMark bytes marks (r.mark ∷ []) (b ∷ bs) rest w (one_mark (b ∷ bs) r.mark rest r.is r.joined),
      first_of-append kind marks (r.mark ∷ []) none ∙ (first_of-here kind r.mark b bs rest some r.joined).1 not,
    )

-- the walk stops at an option of the kind
pub found : (bytes : List ℕ) (marks : List Mark) (kind : ℕ) (r rest : List ℕ) (option : TcpOption) → Marks bytes marks r → first_of kind marks ≡ None → 0 < kind
    → 0 < length r → Begins option r rest → get_or r 0 0 ≡ kind → FindsFirst bytes kind (Ok (Some option))
found bytes marks kind [] rest option w none some filled begins is = absurd (omega arith)
found bytes marks kind (b ∷ bs) rest option w none some filled begins is =
    let r = read_mark option (b ∷ bs) rest begins in
    let (i, same, of_kind) = (first_of-here kind r.mark b bs rest some r.joined).0 is in
    let next = stuck_walk rest in
    let here = walk_on mark_text IsMark bytes marks (r.mark ∷ []) (b ∷ bs) rest w (one_mark (b ∷ bs) r.mark rest r.is r.joined) in
    let first : first_of kind ((marks ++ r.mark ∷ []) ++ next.marks) ≡ Some i =
    ap (first_of kind) (append_assoc marks (r.mark ∷ []) next.marks) ∙ first_of-append kind marks (r.mark ∷ next.marks) none
    ∙ ap (λ (m : Mark). first_of kind (m ∷ next.marks)) same ∙ rw (eq-eqb i.kind kind of_kind) refl in (
      (marks ++ r.mark ∷ []) ++ next.marks,
      next.rest,
      long_on bytes (marks ++ r.mark ∷ []) rest here next,
      rw first (option, subst IsMark same r.is, r.reading i same, refl),
    )

-- the walk stops before the end
pub broken : (bytes : List ℕ) (marks : List Mark) (kind : ℕ) (r : List ℕ) → Marks bytes marks r → first_of kind marks ≡ None → 0 < length r → BeginsNothing r → FindsFirst bytes kind (Err (record {}))
broken bytes marks kind [] w none filled nothing = absurd (omega arith)
broken bytes marks kind (b ∷ bs) w none filled nothing = (marks, b ∷ bs, long bytes marks (b ∷ bs) w nothing, rw none refl)

-- the walk reaches the end
pub ended : (bytes : List ℕ) (marks : List Mark) (kind : ℕ) (r : List ℕ) → Marks bytes marks r → first_of kind marks ≡ None → length r ≤ 0 → FindsFirst bytes kind (Ok None)
ended bytes marks kind [] w none empty =
    (marks, [], long bytes marks [] w (record { no_mark = λ rest e. cc; no_item = λ i rest is e. nil-text i rest e }), rw none refl)
ended bytes marks kind (b ∷ bs) w none empty = absurd (omega arith)

-- ---- the ranges

-- the first item of a kind is of that kind
first_of-kind : (kind : ℕ) (marks : List Mark) (i : Item) → first_of kind marks ≡ Some i → i.kind ≡ kind
first_of-kind kind [] i e = absurd (cc)
first_of-kind kind (None ∷ marks) i e = first_of-kind kind marks i e
first_of-kind kind (Some j ∷ marks) i e = elim (cases_Bool (eqb j.kind kind)) [
  | inl y ↦
      let found : Some j ≡ Some i = sym (rw y refl) ∙ e in
      let one : j ≡ i = cc in
      ap (λ (k : Item). k.kind) (sym one) ∙ eqb-true j.kind kind y
  | inr n ↦ first_of-kind kind marks i (rw n at e)
]

-- an item of kind 5 parses as its ranges
reads_ranges : (option : TcpOption) (i : Item) → i.kind ≡ 5 → IsReading option i → ranges_in option ≡ first_blocks i.content
reads_ranges option i five reading = grind (arith, common_steps, nat_tests)

-- `selective_ack_ranges` returns these ranges for the options
abbrev pub AnswersRanges : List ℕ → List (Option (ℕ × ℕ)) → Type 0
AnswersRanges bytes ranges = Answers bytes 5 (λ i. first_blocks i.content) (first_blocks []) (Ok ranges)

-- the result if the walk found no option of kind 5, and if it found one
pub no_ranges : (bytes : List ℕ) → FindsFirst bytes 5 (Ok None) → AnswersRanges bytes (first_blocks [])
no_ranges bytes h = grind (arith, common_steps, nat_tests)

-- the ranges that are returned if the walk finds an option of kind 5
pub some_ranges : (bytes : List ℕ) (option : TcpOption) → FindsFirst bytes 5 (Ok (Some option)) → AnswersRanges bytes (ranges_in option)
some_ranges bytes option (marks, rest, walk, first) = (marks, rest, walk, go (first_of 5 marks) rest (first_of-kind 5 marks) first)
  where
    go : (f : Option Item) (rest : List ℕ) → ((i : Item) → f ≡ Some i → i.kind ≡ 5) → IsFirst f rest (Ok (Some option))
        → Ok (ranges_in option) ≡ answer_of (λ i. first_blocks i.content) (first_blocks []) f rest
    go None [] five first = absurd (cc)
    go None (b ∷ bs) five first = absurd (cc)
    go (Some i) rest five (read, is, reading, answer) =
        let one : option ≡ read = cc in
        ap Ok (ap ranges_in one ∙ reads_ranges read i (five i refl) reading)
