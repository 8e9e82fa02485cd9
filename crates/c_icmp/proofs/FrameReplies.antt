-- What C gets for a reply that is tried.
use Rattle.std.proofs.Common.{◌≡◌, ◌∙◌, ◌≤◌, ◌<◌, ◌++◌, inl, inr, ℕ, ℤ, pos, List, [], drop, length, take, Option, Some, None, ap, append-nil, arith, refl, rules, subst, sym}
use Rattle.std.proofs.Math.Seq.{drop-length}
use Rattle.std.proofs.lemmas.Bool.{cases_lt}
use Rattle.std.proofs.lemmas.List.{take_all}
use Rattle.std.specs.Option.{option_map_or}
use Rattle.app_host.specs.Kinds.{Tries}
use Rattle.ip_wire.specs.Frame.{Carried}
use Rattle.ip_wire.specs.Reply.{Sends}
use Rattle.std.specs.Prelude.{IfSome}
use Rattle.ip_wire.specs.declared.EthernetRepr.{EthernetRepr}
use Rattle.c_icmp.specs.Interfaces.{WritesReply, WritesReplyTo}
use Rattle.c_structs.specs.Written.{failure_code, max_len, usable}
use Rattle.c_structs.specs.declared.failures.Failure.TheVariants.{NoHeader, NoRoom}

-- what is returned for a reply that was tried
abbrev pub returned : Option (Option ℕ) → ℤ
returned None = pos 0
returned (Some sent) = option_map_or pos sent (failure_code NoRoom)

within : (dscp : Carried → ℕ) (P : EthernetRepr → Carried → Type 0) (old new : List ℕ) (tried : Option (Option ℕ)) → length old ≤ max_len → Tries dscp P old new tried
    → WritesReply dscp P old new (returned tried)
within dscp P old new None room (stays, none) = inr (inr (refl, stays, none))
within dscp P old new (Some None) room ((h, c, p), (stays, short)) = inr (inl (refl, stays, (h, c, p, inl (short h c p))))
within dscp P old new (Some (Some n)) room (some, w) = inl (n, refl, room, w)

beyond : (dscp : Carried → ℕ) (P : EthernetRepr → Carried → Type 0) (old new : List ℕ) (tried : Option (Option ℕ)) → max_len < length old → Tries dscp P [] new tried
    → WritesReply dscp P old (new ++ old) (returned tried)
beyond dscp P old new None long (stays, none) = inr (inr (refl, ap (λ l. l ++ old) stays, none))
beyond dscp P old new (Some None) long ((h, c, p), (stays, short)) = inr (inl (refl, ap (λ l. l ++ old) stays, (h, c, p, inr long)))
beyond dscp P old new (Some (Some n)) long (some, w) = absurd (let size = w.size in let fits = w.fits in omega (arith, size, fits))

-- what is tried in a buffer, of which one that is too long counts as empty
pub tried-usable : (dscp : Carried → ℕ) (P : EthernetRepr → Carried → Type 0) (old new : List ℕ) (tried : Option (Option ℕ))
    → Tries dscp P (take (usable (length old)) old) new tried → WritesReply dscp P old (new ++ drop (usable (length old)) old) (returned tried)
unfolding usable
tried-usable dscp P old new tried tries = elim (cases_lt max_len (length old)) [
  | inl long ↦
      let none : usable (length old) ≡ 0 = search (arith, rules) in
      let empty : Tries dscp P [] new tried = subst (λ n. Tries dscp P (take n old) new tried) none tries in
      subst (λ n. WritesReply dscp P old (new ++ drop n old) (returned tried)) (sym none) (beyond dscp P old new tried long empty)
  | inr room ↦
      let all : usable (length old) ≡ length old = search (arith, rules) in
      let whole : Tries dscp P old new tried = subst (λ l. Tries dscp P l new tried) (ap (λ n. take n old) all ∙ take_all (length old) old (omega (arith))) tries in
      let rest : drop (usable (length old)) old ≡ [] = ap (λ n. drop n old) all ∙ drop-length old in
      subst (λ l. WritesReply dscp P old l (returned tried)) (sym (ap (λ l. new ++ l) rest ∙ append-nil new)) (within dscp P old new tried room whole)
]

-- the length of what was sent is no longer than the buffer
pub sent-short : (dscp : Carried → ℕ) (P : EthernetRepr → Carried → Type 0) (old new : List ℕ) (sent : Option ℕ) (m : ℕ) → length old < m → Sends dscp P old new sent → IfSome sent (λ n. n < m)
sent-short dscp P old new None m short sends = tt
sent-short dscp P old new (Some n) m short w = let fits = w.fits in omega (arith, short, fits)

-- the reply to a frame that is not too long
pub replied : (frame : List ℕ) (dscp : Carried → ℕ) (P : EthernetRepr → Carried → Type 0) (old new : List ℕ) (answer : ℤ) → length frame ≤ max_len → WritesReply dscp P old new answer
    → WritesReplyTo frame dscp P old new answer
replied frame dscp P old new answer short wrote = record { usable = λ _. wrote; too_long = λ long. absurd (omega (arith, short, long)) }

-- a frame that is too long
pub rejected : (frame : List ℕ) (dscp : Carried → ℕ) (P : EthernetRepr → Carried → Type 0) (old : List ℕ) → max_len < length frame → WritesReplyTo frame dscp P old old (failure_code NoHeader)
rejected frame dscp P old long = record { usable = λ short. absurd (omega (arith, short, long)); too_long = λ _. (refl, refl) }
