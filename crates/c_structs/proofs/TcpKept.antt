-- The options of a TCP header that has none, or a timestamp.
use Rattle.std.proofs.Common.{ℕ, ◌≡◌, ◌∙◌, ◌+◌, ◌++◌, List, [], ◌∷◌, ap, arith, length, refl, slice_index, slice_range}
use Rattle.std.proofs.lemmas.Bool.Decides.{nat_tests}
use Rattle.std.proofs.lemmas.Grind.{common_steps}
use Rattle.net_base.proofs.Cells.{cells-drop}
use Rattle.net_base.proofs.Spelled.{AreBytes}
use Rattle.wire_tcp.specs.Tcp.{header_len, options_of}
use Rattle.wire_tcp_options.specs.TcpItems.{IsItem, IsOptionList, item}
use Rattle.c_structs.specs.TcpKept.{HasStamp}

pub bare-list : (bytes : List ℕ) → header_len bytes ≡ 20 → IsOptionList (options_of bytes) [] []
bare-list bytes size = record { each = search; joined = ap (λ (n : ℕ). slice_range bytes 20 n) size; ended = search }

-- eight bytes from index n on
abbrev pub eight : List ℕ → ℕ → List ℕ
eight bytes n =
    slice_index bytes n ∷ slice_index bytes (n + 1) ∷ slice_index bytes (n + 2) ∷ slice_index bytes (n + 3)
    ∷ slice_index bytes (n + 4) ∷ slice_index bytes (n + 5) ∷ slice_index bytes (n + 6) ∷ slice_index bytes (n + 7) ∷ []

pub IsItem-stamp : (t : List ℕ) → length t ≡ 8 → IsItem (item 8 t)
IsItem-stamp t size = grind (arith, common_steps, nat_tests)

pub stamp-options : (bytes : List ℕ) → AreBytes bytes → HasStamp bytes → options_of bytes ≡ 8 ∷ 10 ∷ (eight bytes 22 ++ 0 ∷ 0 ∷ [])
stamp-options bytes h s =
    let whole = s.whole in
    let at = slice_index bytes in
    let cells : slice_range bytes 20 32 ≡ at 20 ∷ at 21 ∷ (eight bytes 22 ++ at 30 ∷ at 31 ∷ []) = rw (cells-drop 32 bytes whole) refl in
    let kind : at 20 ≡ 8 = omega (arith, s.kind, h 20, h 21) in
    let size : at 21 ≡ 10 = omega (arith, s.kind, h 20, h 21) in
    let high : at 30 ≡ 0 = omega (arith, s.ended, h 30, h 31) in
    let low : at 31 ≡ 0 = omega (arith, s.ended, h 30, h 31) in
    ap (λ (n : ℕ). slice_range bytes 20 n) s.size ∙ cells ∙ ap (λ (k : ℕ). k ∷ at 21 ∷ (eight bytes 22 ++ at 30 ∷ at 31 ∷ [])) kind
    ∙ ap (λ (k : ℕ). 8 ∷ k ∷ (eight bytes 22 ++ at 30 ∷ at 31 ∷ [])) size ∙ ap (λ (k : ℕ). 8 ∷ 10 ∷ (eight bytes 22 ++ k ∷ at 31 ∷ [])) high
    ∙ ap (λ (k : ℕ). 8 ∷ 10 ∷ (eight bytes 22 ++ 0 ∷ k ∷ [])) low

pub stamp-list : (bytes : List ℕ) → AreBytes bytes → HasStamp bytes → IsOptionList (options_of bytes) (item 8 (eight bytes 22) ∷ []) (0 ∷ 0 ∷ [])
stamp-list bytes h s = record { each = (IsItem-stamp (eight bytes 22) refl, search); joined = stamp-options bytes h s; ended = refl }
