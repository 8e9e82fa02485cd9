-- Texts of blocks: only the last slash separates the address and the prefix length.
use Rattle.std.proofs.Common.{◌≡◌, ℕ, ◌^◌, ◌<◌, ◌≤◌, List, Option, Some, Result, Err, MatchOption, Bor, subst, lit≤}
use Rattle.std.specs.Net.Grammar.{Parses}
use Rattle.std.specs.Option.{ok_or}
use Rattle.std.specs.Result.{IsErr}
use Rattle.wire_addr.specs.Block.{Block}
use Rattle.wire_addr.specs.BlockText.{IsBlockText}
use Rattle.wire_addr.specs.Printed.{block_text}
use Rattle.wire_addr.specs.Ending.{EndsInNumber}
use Rattle.wire_addr.proofs.Endings.{ends_once, ends_printed}
use Rattle.wire_addr.proofs.Rejections.{rejected, was_none, was_some}

module _ (ReadsAddress : List ℕ → List ℕ → Type 0) (places most : ℕ) where
  -- a text that does not end in a number parses as no block
  pub no_number : {E F : Type 0} (text : List ℕ) (found : Option (Bor (List ℕ) × ℕ)) (e u : E) (result : Result Block F) → Err e ≡ ok_or found u → MatchOption found ((front : List ℕ) (n : ℕ) → ¬ (EndsInNumber 47 places most text front n)) (λ f. EndsInNumber 47 places most text f.0.now f.1) → IsErr result → Parses (IsBlockText ReadsAddress places most) text result
  no_number text found e u result same h failed =
      let none = was_none _ _ found e u same h in
      rejected (IsBlockText ReadsAddress places most) text result failed (λ block k. none k.address_text block.prefix_len k.prefix_len)

  -- a text whose front is no address parses as no block
  pub no_address : {F : Type 0} (text : List ℕ) (found : Option (Bor (List ℕ) × ℕ)) (front : Bor (List ℕ)) (n : ℕ) (result : Result Block F) → found ≡ Some (front, n) → MatchOption found ((front : List ℕ) (n : ℕ) → ¬ (EndsInNumber 47 places most text front n)) (λ f. EndsInNumber 47 places most text f.0.now f.1) → ((address : List ℕ) → ¬ (ReadsAddress front.now address)) → IsErr result → Parses (IsBlockText ReadsAddress places most) text result
  no_address text found front n result same h none failed =
      let ends = was_some _ _ found (front, n) same h in
      rejected (IsBlockText ReadsAddress places most) text result failed (λ block k.
      let (here, _) = ends_once 47 places most (lit≤ tt) text k.address_text front.now block.prefix_len n k.prefix_len ends in
      none block.address (subst (λ t. ReadsAddress t block.address) here k.address))

  -- one reading of an address's text gives one of a block's
  pub one_block : (text : List ℕ) (a b : Block) → ((front : List ℕ) → ReadsAddress front a.address → ReadsAddress front b.address → a.address ≡ b.address) → IsBlockText ReadsAddress places most text a → IsBlockText ReadsAddress places most text b → a ≡ b
  one_block text a b one h k =
      let (same, n) = ends_once 47 places most (lit≤ tt) text h.address_text k.address_text a.prefix_len b.prefix_len h.prefix_len k.prefix_len in
      let addresses = one k.address_text (subst (λ t. ReadsAddress t a.address) same h.address) k.address in
      λ i. record { address = addresses i; prefix_len = n i }

  -- a printed block parses as that block
  pub printed_block : (text_of : List ℕ → List ℕ) (block : Block) → 0 < places → most < 10 ^ places → most < 2 ^ 64 → block.prefix_len ≤ most → ReadsAddress (text_of block.address) block.address → IsBlockText ReadsAddress places most (block_text text_of block) block
  printed_block text_of block some wide small fits read = record {
    address_text = text_of block.address;
    address = read;
    prefix_len = ends_printed 47 places most block.prefix_len (text_of block.address) some wide small fits;
  }
