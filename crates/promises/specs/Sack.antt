-- When the search for an option agrees with the summary of the list.
-- Pinned by: `apps/sack`
use Rattle.std.specs.Prelude.{ℕ, ◌≡◌, List, MatchOption, Ok, Some, map}
use Rattle.ip_wire.specs.TcpItems.{IsOptionList, Item}
use Rattle.ip_wire.specs.TcpWalk.{Answers, first_of}

-- The first option of a kind in the list has this value; or there is none in the list, and the search after its end
-- finds none.
abbrev pub AgreesWith : {A : Type 0} → List ℕ → ℕ → (Item → A) → A → A → Type 0
AgreesWith options kind f default value =
    (items : List Item) × (tail : List ℕ) × IsOptionList options items tail
    × MatchOption (first_of kind (map Some items)) (Answers tail kind f default (Ok default)) (λ i. f i ≡ value)
