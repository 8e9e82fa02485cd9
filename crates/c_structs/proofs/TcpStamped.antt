-- The options of a TCP header with two bytes of no operation before a timestamp.
use Rattle.std.proofs.Common.{ℕ, ◌≡◌, ◌∙◌, ◌++◌, List, [], ◌∷◌, ap, arith, refl, slice_index, slice_range}
use Rattle.net_base.proofs.Cells.{cells-drop}
use Rattle.net_base.proofs.Spelled.{AreBytes}
use Rattle.wire_tcp.specs.Tcp.{options_of}
use Rattle.wire_tcp_options.proofs.Items.{IsItem_bare}
use Rattle.wire_tcp_options.specs.TcpItems.{IsOptionList, Item, item}
use Rattle.c_structs.proofs.TcpKept.{IsItem-stamp, eight}
use Rattle.c_structs.specs.TcpKept.{HasPaddedStamp}

-- two items without operation, and a timestamp
abbrev pub padded : List ℕ → List Item
padded bytes = item 1 [] ∷ item 1 [] ∷ item 8 (eight bytes 24) ∷ []

pub padded-options : (bytes : List ℕ) → AreBytes bytes → HasPaddedStamp bytes → slice_range bytes 20 24 ≡ 1 ∷ 1 ∷ 8 ∷ 10 ∷ []
padded-options bytes h s =
    let whole = s.whole in
    let kinds = s.kinds in
    let at = slice_index bytes in
    let cells : slice_range bytes 20 24 ≡ at 20 ∷ at 21 ∷ at 22 ∷ at 23 ∷ [] = rw (cells-drop 32 bytes whole) refl in
    let a : at 20 ≡ 1 = omega (arith, kinds, h 20, h 21, h 22, h 23) in
    let b : at 21 ≡ 1 = omega (arith, kinds, h 20, h 21, h 22, h 23) in
    let c : at 22 ≡ 8 = omega (arith, kinds, h 20, h 21, h 22, h 23) in
    let d : at 23 ≡ 10 = omega (arith, kinds, h 20, h 21, h 22, h 23) in
    cells ∙ rw (a, b, c, d) refl

pub padded-list : (bytes : List ℕ) → AreBytes bytes → HasPaddedStamp bytes → IsOptionList (options_of bytes) (padded bytes) []
padded-list bytes h s =
    let whole = s.whole in
    let parts : slice_range bytes 20 32 ≡ slice_range bytes 20 24 ++ eight bytes 24 = rw (cells-drop 32 bytes whole) refl in
    record {
      each = (IsItem_bare, (IsItem_bare, (IsItem-stamp (eight bytes 24) refl, search)));
      joined = ap (λ (n : ℕ). slice_range bytes 20 n) s.size ∙ parts ∙ ap (λ (l : List ℕ). l ++ eight bytes 24) (padded-options bytes h s);
      ended = search;
    }
