-- A parser rejects a text if it rejects a part of it.
use Rattle.std.proofs.Common.{◌≡◌, ℕ, List, Option, Some, Result, Err, MatchOption, subst, arith}
use Rattle.std.specs.Net.Grammar.{Parses}
use Rattle.std.specs.Option.{ok_or}
use Rattle.std.specs.Result.{IsErr}

-- `Err` is the right result for a text that the grammar does not contain
pub rejected : {A E : Type 0} (R : List ℕ → A → Type 0) (text : List ℕ) (result : Result A E) → IsErr result → ((a : A) → ¬ (R text a)) → Parses R text result
rejected R text result h none = grind arith

-- if `ok_or` returned an error, the option was `None`
pub was_none : {A E : Type 0} (P : Type 0) (Q : A → Type 0) (o : Option A) (e u : E) → Err e ≡ ok_or o u → MatchOption o P Q → P
was_none P Q o e u same h = grind arith

-- if the option is `Some`, its value has the property
pub was_some : {A : Type 0} (P : Type 0) (Q : A → Type 0) (o : Option A) (a : A) → o ≡ Some a → MatchOption o P Q → Q a
was_some P Q o a same h = subst (λ o. MatchOption o P Q) same h
