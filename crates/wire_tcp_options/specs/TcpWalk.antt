-- The walk over options that continues after the end mark of the list.
-- Pinned by: `calls/walk`
use Rattle.std.specs.Prelude.{ℕ, ◌≡◌, ◌≤◌, ◌==◌, if◌then◌else◌, List, [], ◌∷◌, ◌++◌, length, Option, Some, None, Result, Ok, Err}
use Rattle.std.specs.List.{AllByRecursion, flat_map}
use Rattle.net_base.specs.declared.error.Error.{Error}
use Rattle.wire_tcp_options.specs.TcpItems.{Item, IsItem, text}
use Rattle.wire_tcp_options.specs.TcpOption.{IsReading}
use Rattle.wire_tcp_options.specs.declared.tcp.option.TcpOption.{TcpOption}

-- what a walk passes in one step: an option, or none for a single byte 0
abbrev pub Mark : Type 0
Mark = Option Item

-- the bytes that a walk passes in one step
abbrev pub mark_text : Mark → List ℕ
mark_text None = 0 ∷ []
mark_text (Some i) = text i

-- one step of a walk is valid: the option is well-formed
abbrev pub IsMark : Mark → Type 0
IsMark None = Unit {0}
IsMark (Some i) = IsItem i

-- the bytes begin with these steps of a walk, and this rest follows
pub record IsWalk (bytes : List ℕ) (marks : List Mark) (rest : List ℕ) : Type 0 where
  pub each : AllByRecursion IsMark marks
  pub joined : bytes ≡ flat_map mark_text marks ++ rest

-- the walk over the bytes that has the most steps
pub record IsLongWalk (bytes : List ℕ) (marks : List Mark) (rest : List ℕ) : Type 0 where
  pub walk : IsWalk bytes marks rest
  pub longest : (others : List Mark) (left : List ℕ) → IsWalk bytes others left → length others ≤ length marks

-- the first option of a kind on a walk
abbrev pub first_of : ℕ → List Mark → Option Item
first_of kind [] = None
first_of kind (None ∷ marks) = first_of kind marks
first_of kind (Some i ∷ marks) = if i.kind == kind then Some i else first_of kind marks

-- the result of a search: the value of the option that was found; else the default, or an error if the walk leaves a
-- rest
abbrev pub answer_of : {A : Type 0} → (Item → A) → A → Option Item → List ℕ → Result A Error
answer_of f default (Some i) rest = Ok (f i)
answer_of f default None [] = Ok default
answer_of f default None (b ∷ bs) = Err (record {})

-- the result of the search for the first option of a kind on the longest walk
abbrev pub Answers : {A : Type 0} → List ℕ → ℕ → (Item → A) → A → Result A Error → Type 0
Answers bytes kind f default answer = (marks : List Mark) × (rest : List ℕ) × IsLongWalk bytes marks rest × (answer ≡ answer_of f default (first_of kind marks) rest)

-- the result of a search is the option that the item parses as; without an item it is none, or an error if the walk
-- leaves a rest
abbrev pub IsFirst : Option Item → List ℕ → Result (Option TcpOption) Error → Type 0
IsFirst (Some i) rest answer = (option : TcpOption) × IsItem i × IsReading option i × (answer ≡ Ok (Some option))
IsFirst None [] answer = answer ≡ Ok None
IsFirst None (b ∷ bs) answer = answer ≡ Err (record {})

-- the result of a search is the first option of a kind on the longest walk
abbrev pub FindsFirst : List ℕ → ℕ → Result (Option TcpOption) Error → Type 0
FindsFirst bytes kind answer = (marks : List Mark) × (rest : List ℕ) × IsLongWalk bytes marks rest × IsFirst (first_of kind marks) rest answer
