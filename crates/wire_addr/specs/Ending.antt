-- Texts that end in a mark and a number, as CIDR blocks and endpoints do.
-- Pinned by: `calls/cidr4`, `BlockWorked`
use Rattle.std.specs.Prelude.{◌≡◌, ℕ, List, ◌∷◌, ◌++◌}
use Rattle.wire_addr.specs.Grammar.{IsNumber}

-- the text is the front, the mark, and a decimal number of at most `places` digits and of value at most `most`
pub record EndsInNumber (mark places most : ℕ) (text front : List ℕ) (n : ℕ) : Type 0 where
  pub digits : List ℕ
  pub spelled : text ≡ front ++ mark ∷ digits
  pub number : IsNumber 10 places most digits n
