-- What `TcpOption::emit` promises on the borrowed bytes.
-- Pinned by: `wire/tcp_options`
use Rattle.std.specs.Prelude.{ℕ, ◌≡◌, ◌++◌, List, length}
use Rattle.std.specs.Borrow.{Lends, MutBor, Fml, Array, u8}
use Rattle.net_base.specs.declared.located.Located.{Located}

-- At the end of the borrow the slice has these bytes at its front, followed by the bytes that were written to the
-- rest.
abbrev pub BorrowsRest : MutBor (List ℕ) → List ℕ → MutBor (List ℕ) → Fml
BorrowsRest buffer front rest = Lends (Array u8 0) (Array u8 0) buffer rest (λ w. front ++ w)

-- The located part is the rest of the slice after this front. The borrow is still the same, and now holds the front
-- and this rest.
pub record LocatesRest (buffer : MutBor (List ℕ)) (front rest : List ℕ) (located : Located) : Type 0 where
  pub same_borrow : located.bytes.ghost_name ≡ buffer.ghost_name
  pub holds : located.bytes.now ≡ front ++ rest
  pub start : located.start ≡ length front
  pub end : located.end ≡ length located.bytes.now
