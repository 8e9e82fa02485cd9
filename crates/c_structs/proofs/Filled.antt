-- What C gets of a call that fills the front of a slice.
use Rattle.std.proofs.Common.{◌≡◌, ◌∙◌, ℕ, ℤ, pos, SFits, to_z, of_z, w64, ◌≤◌, ◌<◌, inl, inr, true, nat_le, if◌then◌else◌, List, [], Option, Some, None, ◌++◌, drop, length, ap, subst, sym, arith}
use Rattle.std.proofs.lemmas.Bool.Decides.{nat_tests}
use Rattle.std.proofs.lemmas.Int.{to_z-of_z, to_z_pos}
use Rattle.std.proofs.lemmas.Option.{none-some}
use Rattle.c_structs.specs.Written.{Fills, Writes, failed_by, max_len, within}
use Rattle.c_structs.specs.declared.failures.Failure.{Failure}

-- the number that C gets instead of an optional length
abbrev pub returned : Option ℕ → Option Failure → ℤ
returned (Some n) why = pos n
returned None why = failed_by why

-- a function that fills the front of `out` writes the bytes, or there is a failure
pub writes-filled : (bytes : Option (List ℕ)) (why : Option Failure) (old new : List ℕ) (len : Option ℕ) (answer : ℤ) → Fills bytes old new len
    → length old ≤ max_len → answer ≡ returned len why → Writes bytes why old new answer
writes-filled None why old new len answer (none, stays) room is = (is ∙ ap (λ l. returned l why) none, stays)
writes-filled (Some bytes) why old new None answer (short, stays) room is = record {
  fits = λ fits _. absurd (omega (arith, fits, short));
  no_room = λ _. (is, stays);
}
writes-filled (Some bytes) why old new (Some n) answer (len, fits, holds) room is = record {
  fits = λ _ _. (is ∙ ap pos len, holds ∙ ap (λ k. bytes ++ drop k old) len);
  no_room = λ less. elim less [ inl short ↦ absurd (omega (arith, len, fits, short)) | inr long ↦ absurd (omega (arith, room, long)) ];
}

-- a slice that is too long is not written
pub writes-nothing : (bytes : Option (List ℕ)) (why : Option Failure) (old new : List ℕ) (answer : ℤ) → max_len < length old → new ≡ old
    → answer ≡ failed_by why → Writes bytes why old new answer
writes-nothing None why old new answer long same is = (is, same)
writes-nothing (Some bytes) why old new answer long same is = record {
  fits = λ _ room. absurd (omega (arith, room, long));
  no_room = λ _. (is, same);
}

-- what a call wrote whose output is not too long
pub within-Some : (bytes : Option (List ℕ)) (why : Option Failure) (old out new : List ℕ) (len res : Option ℕ) (n : ℕ) → out ≡ new → len ≡ res → len ≡ Some n
    → Fills bytes old new res → length old ≤ max_len → Writes bytes why old out (to_z w64 n)
within-Some None why old out new len res n to is some (none, stays) room = absurd (none-some n (sym none ∙ sym is ∙ some))
within-Some (Some bytes) why old out new len res n to is some fills room =
    let filled : Fills (Some bytes) old out (Some n) = subst (λ r. Fills (Some bytes) old out r) (sym is ∙ some) (subst (λ s. Fills (Some bytes) old s res) (sym to) fills) in
    let fits = filled.1 in
    writes-filled (Some bytes) why old out (Some n) (to_z w64 n) filled room (to_z_pos w64 n (omega (arith, fits, room)))

-- the same where it wrote nothing
pub within-None : (bytes : Option (List ℕ)) (why : Option Failure) (old out new : List ℕ) (len res : Option ℕ) (answer : ℤ) → out ≡ new → len ≡ res → len ≡ None
    → Fills bytes old new res → length old ≤ max_len → answer ≡ failed_by why → SFits w64 answer → Writes bytes why old out (to_z w64 (of_z w64 answer))
within-None bytes why old out new len res answer to is none fills room failed fits =
    writes-filled bytes why old out None _ (subst (λ r. Fills bytes old out r) (sym is ∙ none) (subst (λ s. Fills bytes old s res) (sym to) fills)) room
    (to_z-of_z w64 answer fits ∙ failed)

-- an input that is not too long is taken as it is
pub within-is : (bytes : List ℕ) → length bytes ≤ max_len → within bytes ≡ bytes
unfolding within
within-is bytes room =
    let fits : nat_le (length bytes) max_len ≡ true = grind (arith, nat_tests, room) in
    ap (λ b. if b then bytes else []) fits
