-- What a run leaves in a sink whose bytes are known.
use Rattle.std.proofs.Common.{◌≡◌, ℕ, zero, suc, List, [], ◌∷◌, ◌++◌, Some, drop, take, length, refl, sym, ap, ◌∙◌, subst}
use Rattle.std.proofs.lemmas.List.{drop_at}
use Rattle.std.specs.List.{concat}
use Rattle.ip_frames.specs.Output.{IsFirstBlocks, Writes, blocks_of}

-- the sink holds what it held before, and then a text with P
writes-after : (old new : List ℕ) (P : List ℕ → Type 0) → Writes (Some old) (Some new) P → (new ≡ old ++ drop (length old) new) × P (drop (length old) new)
writes-after old new P (text, is, holds) =
    let rest : drop (length old) new ≡ text = ap (drop (length old)) is ∙ drop_at old text (length old) refl in
    (is ∙ ap (λ t. old ++ t) (sym rest), subst P (sym rest) holds)

-- and any such text may be written
after-writes : (old text : List ℕ) (P : List ℕ → Type 0) → P text → Writes (Some old) (Some (old ++ text)) P
after-writes old text P holds = (text, refl, holds)

-- a part of a block is none of the first blocks
part-of_block : (input : List ℕ) (x y : ℕ) (more : List ℕ) (rest : List (List ℕ)) → blocks_of input ≡ (x ∷ y ∷ more) ∷ rest
    → ¬ IsFirstBlocks input (x ∷ [])
part-of_block input x y more rest is (zero, text) = absurd (cc)
part-of_block input x y more rest is (suc n, text) =
    let first : x ∷ [] ≡ x ∷ y ∷ (more ++ concat (take n rest)) = text ∙ ap (λ blocks. concat (take (suc n) blocks)) is in
    absurd (cc)
