-- What C gets for a fragment in a frame.
use Rattle.std.proofs.Common.{ℕ, ℤ, Option, pos, ◌≡◌, ◌∙◌, ◌+◌, ◌≤◌, ◌++◌, Bool, true, List, [], append-nil, ap, arith, drop, inl, inr, length, min, subst, subst₂, sym, take, take_all}
use Rattle.std.specs.Option.{unwrap_or}
use Rattle.std.proofs.lemmas.Bool.{cases_lt}
use Rattle.std.proofs.lemmas.Bool.Decides.{nat_tests}
use Rattle.std.proofs.lemmas.List.{drop_all, drop_at, length-take-le, take_at}
use Rattle.ip_wire.specs.Ethernet.{ethernet_of}
use Rattle.app_fragment.specs.Partials.{Does, Expires, IsReturned, Reassembles, Step, Table, table}
use Rattle.app_fragment.specs.Partials.Reassembles.{alone, rejected, taken, too_long}
use Rattle.app_fragment.specs.declared.Partial.{Partial}
use Rattle.app_fragment.specs.declared.Reassembled.{Reassembled}
use Rattle.app_fragment.specs.declared.Reassembled.TheVariants as answer
use Rattle.c_structs.specs.Written.{max_len, usable}
use Rattle.c_routing.proofs.Tables.{part-after, part-before, parts}
use Rattle.c_routing.specs.Lengths.{in_bounds}
use Rattle.c_routing.specs.Reassembled.{ExpiresFrame, ReassemblesFrame, ReassemblesPacket, answer_code, carries_ip, in_use, link_after}

-- ---- a packet that is written

-- a packet that is written has a header, and fits in the output
abbrev HasRoom : ℕ → Reassembled → Type 0
HasRoom room (answer.Whole len) = (20 ≤ len) × (len ≤ room)
HasRoom room _ = Unit {0}

returned-room : (packet before after : List ℕ) (given : Reassembled) → IsReturned packet before after given → HasRoom (length before) given
returned-room packet before after (answer.Whole len) is = (is.least, is.room)
returned-room packet before after answer.Incomplete is = tt
returned-room packet before after answer.Rejected is = tt
returned-room packet before after answer.TooLong is = tt
returned-room packet before after answer.Dropped is = tt
returned-room packet before after answer.NoRoom is = tt

does-room : (s : Step) (given : Reassembled) → Does s given → HasRoom (length s.before) given
does-room s (answer.Whole len) is = (is.least, is.room)
does-room s answer.Incomplete is = tt
does-room s answer.Rejected is = tt
does-room s answer.TooLong is = tt
does-room s answer.Dropped is = tt
does-room s answer.NoRoom is = tt

has-room : (old new : Table) (now : ℕ) (link packet before after : List ℕ) (given : Reassembled) → Reassembles old new now link packet before after given → HasRoom (length before) given
has-room old new now link packet before after given (rejected a b c) = tt
has-room old new now link packet before after given (too_long key a b c d) = tt
has-room old new now link packet before after given (alone key a b c g returned) = returned-room packet before after g returned
has-room old new now link packet before after given (taken g t) = does-room _ g t.adds.does

pub whole-room : (old new : Table) (now len : ℕ) (link packet before after : List ℕ) → Reassembles old new now link packet before after (answer.Whole len) → (20 ≤ len) × (len ≤ length before)
whole-room old new now len link packet before after is = has-room old new now link packet before after (answer.Whole len) is

pub whole-small : (old new : Table) (now len n out : ℕ) (link packet before after : List ℕ) → length before + n ≡ out → out ≤ max_len
    → Reassembles old new now link packet before after (answer.Whole len) → len ≤ max_len
whole-small old new now len n out link packet before after parts short is =
    let room = (whole-room old new now len link packet before after is).1 in
    omega (arith, room, parts, short)

-- ---- the output

no-bytes : (l : List ℕ) → length l ≡ 0 → l ≡ []
no-bytes l is = sym (take_all 0 l (omega (arith, is)))

-- the parts of an output that may be shorter than an Ethernet header
record Parts (out front rest after : List ℕ) : Type 0 where
  pub link : take 14 (front ++ after) ≡ take 14 out
  pub packet : drop 14 (front ++ after) ≡ after
  pub rest_is : rest ≡ drop 14 out

parts-of : (out front rest after : List ℕ) (n : ℕ) → n ≡ min 14 (length out) → front ≡ take n out → rest ≡ drop n out → length after ≡ length rest → Parts out front rest after
parts-of out front rest after n is first second same = elim (cases_lt (length out) 14) [
  | inl short ↦
      let all : n ≡ length out = omega (arith, is, short) in
      let none : rest ≡ [] = second ∙ drop_all n out (omega (arith, all)) in
      let empty : after ≡ [] = no-bytes after (same ∙ ap length none) in
      let whole : front ++ after ≡ out = (λ i. (first ∙ take_all n out (omega (arith, all))) i ++ empty i) ∙ append-nil out in
      record {
        link = ap (take 14) whole;
        packet = ap (drop 14) whole ∙ drop_all 14 out (omega (arith, short)) ∙ sym empty;
        rest_is = none ∙ sym (drop_all 14 out (omega (arith, short)));
      }
  | inr long ↦
      let some : n ≡ 14 = omega (arith, is, long) in
      let front_is : front ≡ take 14 out = first ∙ ap (λ m. take m out) some in
      let size : length front ≡ 14 = ap length front_is ∙ length-take-le 14 out long in
      record {
        link = take_at front after 14 size ∙ front_is;
        packet = drop_at front after 14 size;
        rest_is = second ∙ ap (λ m. drop m out) some;
      }
]

-- ---- the packet of a frame

pub whole : (old new : Table) (now len n : ℕ) (frame out link packet front rest after written : List ℕ) (code : ℤ) → n ≡ min 14 (length out) → front ≡ take n out → rest ≡ drop n out
    → length after ≡ length rest → link ≡ take 14 frame → packet ≡ drop 14 frame → length link ≡ 14 → written ≡ link → code ≡ pos (14 + len)
    → Reassembles old new now link packet rest after (answer.Whole len) → ReassemblesPacket old new now frame out (written ++ after) code
whole old new now len n frame out link packet front rest after written code is first second same link_is packet_is size copied code_is h =
    let p = parts-of out front rest after n is first second same in
    let long : length written ≡ 14 = ap length copied ∙ size in
    record {
      given = answer.Whole len;
      is = code_is;
      link = take_at written after 14 long ∙ copied ∙ link_is;
      packet = subst₂ (λ a b. Reassembles old new now (take 14 frame) (drop 14 frame) a b (answer.Whole len)) p.rest_is (sym (drop_at written after 14 long))
          (subst₂ (λ a b. Reassembles old new now a b rest after (answer.Whole len)) link_is packet_is h);
    }

-- no packet is written
pub unwritten : (old new : Table) (now n : ℕ) (frame out link packet front rest after : List ℕ) (given : Reassembled) (code : ℤ) → n ≡ min 14 (length out) → front ≡ take n out → rest ≡ drop n out
    → length after ≡ length rest → link ≡ take 14 frame → packet ≡ drop 14 frame → link_after given (take 14 frame) (take 14 out) ≡ take 14 out → code ≡ answer_code given
    → Reassembles old new now link packet rest after given → ReassemblesPacket old new now frame out (front ++ after) code
unwritten old new now n frame out link packet front rest after given code is first second same link_is packet_is none code_is h =
    let p = parts-of out front rest after n is first second same in
    record {
      given = given;
      is = code_is;
      link = p.link ∙ sym none;
      packet = subst₂ (λ a b. Reassembles old new now (take 14 frame) (drop 14 frame) a b given) p.rest_is (sym p.packet)
          (subst₂ (λ a b. Reassembles old new now a b rest after given) link_is packet_is h);
    }

-- ---- the parts that are used

pub carries-long : (frame : List ℕ) → carries_ip frame ≡ true → 14 ≤ length frame
unfolding carries_ip ethernet_of
carries-long frame is = grind (arith, nat_tests, is)

pub usable-small : (n : ℕ) → usable n ≤ max_len
unfolding usable
usable-small n = grind (arith, nat_tests)

-- the part of a list that is used, before and after the call
record Bounds {A : Type 0} (old part new : List A) (k : ℕ) : Type 0 where
  pub before : take k old ≡ in_bounds old
  pub after : part ≡ in_bounds new

bounds : {A : Type 0} (old part : List A) (k : ℕ) → k ≡ usable (length old) → length part ≡ k → Bounds old part (part ++ drop k old) k
bounds old part k is same =
    let either = parts old part k is same in
    record { before = part-before old part (part ++ drop k old) k either; after = part-after old part (part ++ drop k old) k is same either }

pub in-frame : (op part : List Partial) (om pm ob pb : List ℕ) (k m b now : ℕ) (frame : List ℕ) (code : ℤ) → k ≡ usable (length op) → length part ≡ k
    → m ≡ usable (length om) → length pm ≡ m → b ≡ usable (length ob) → length pb ≡ b
    → ReassemblesPacket (table (take k op) (take m om)) (table part pm) now frame (take b ob) pb code
    → ReassemblesPacket (in_use (table op om)) (in_use (table (part ++ drop k op) (pm ++ drop m om))) now frame (in_bounds ob) (in_bounds (pb ++ drop b ob)) code
in-frame op part om pm ob pb k m b now frame code ik lk im lm ib lb h =
    let x = bounds op part k ik lk in
    let y = bounds om pm m im lm in
    let z = bounds ob pb b ib lb in
    subst₂ (λ u v. ReassemblesPacket (in_use (table op om)) (in_use (table (part ++ drop k op) (pm ++ drop m om))) now frame u v code) z.before z.after
    (subst₂ (λ u v. ReassemblesPacket (in_use (table op om)) (table u v) now frame (take b ob) pb code) x.after y.after
    (subst₂ (λ u v. ReassemblesPacket (table u v) (table part pm) now frame (take b ob) pb code) x.before y.before h))

-- a frame that carries a packet
pub arrives : (op part : List Partial) (om pm ob pb : List ℕ) (k m b now : ℕ) (frame within : List ℕ) (carried : Bool) (code returned : ℤ) → k ≡ usable (length op) → length part ≡ k
    → m ≡ usable (length om) → length pm ≡ m → b ≡ usable (length ob) → length pb ≡ b → frame ≡ within → carried ≡ true → carried ≡ carries_ip frame → returned ≡ code
    → ReassemblesPacket (table (take k op) (take m om)) (table part pm) now frame (take b ob) pb code
    → ReassemblesFrame (table op om) (table (part ++ drop k op) (pm ++ drop m om)) now within ob (pb ++ drop b ob) returned
arrives op part om pm ob pb k m b now frame within carried code returned ik lk im lm ib lb same carries is kept h =
    let used = in-frame op part om pm ob pb k m b now frame code ik lk im lm ib lb h in
    inr (record {
      some = ap carries_ip (sym same) ∙ sym is ∙ carries;
      packet = subst₂ (λ f c. ReassemblesPacket (in_use (table op om)) (in_use (table (part ++ drop k op) (pm ++ drop m om))) now f (in_bounds ob) (in_bounds (pb ++ drop b ob)) c) same (sym kept) used;
    })

-- packets whose time is over
pub expires : (op part : List Partial) (memory used ob pb : List ℕ) (k b now len : ℕ) (found : Option ℕ) → k ≡ usable (length op) → length part ≡ k
    → b ≡ usable (length ob) → length pb ≡ b → used ≡ in_bounds memory → len ≡ unwrap_or found 0
    → Expires (table (take k op) used) part now (take b ob) pb found
    → ExpiresFrame (table op memory) (part ++ drop k op) now ob (pb ++ drop b ob) len
expires op part memory used ob pb k b now len found ik lk ib lb same is h =
    let x = bounds op part k ik lk in
    let z = bounds ob pb b ib lb in
    record {
      found = found;
      is = is;
      expires = subst₂ (λ u v. Expires (in_use (table op memory)) (in_bounds (part ++ drop k op)) now u v found) z.before z.after
          (subst₂ (λ u v. Expires (table (in_bounds op) u) v now (take b ob) pb found) same x.after
          (subst (λ u. Expires (table u used) part now (take b ob) pb found) x.before h));
    }
