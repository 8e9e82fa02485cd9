-- Items, tails and options that the definitions exclude.
use Rattle.std.proofs.Common.{ℕ, ◌≡◌, List, [], ◌∷◌, ◌++◌, ap, arith, refl, sym, ◌∙◌}
use Rattle.byteorder.specs.Endian.{big_number}
use Rattle.wire_tcp_options.proofs.FirstItems.{is_item}
use Rattle.wire_tcp_options.proofs.Items.{IsItem_bare}
use Rattle.wire_tcp_options.proofs.OptionLists.{text_apart}
use Rattle.wire_tcp_options.specs.TcpItems.{Item, IsItem, IsTail, item, text}
use Rattle.wire_tcp_options.specs.TcpOption.{Begins, BeginsNothing}
use Rattle.wire_tcp_options.specs.declared.tcp.option.TcpOption.TheVariants.{EndOfList, MaxSegmentSize, WindowScale}

-- ---- lengths of data that a kind does not have

kind-of_the_end : ¬ (IsItem (item 0 []))
kind-of_the_end h = omega (arith, h.above)

kind-past_a_byte : ¬ (IsItem (item 256 []))
kind-past_a_byte h = omega (arith, h.below)

operation-with_data : ¬ (IsItem (item 1 (0 ∷ [])))
operation-with_data h = let empty = h.no_operation refl in absurd (cc)

size-of_one_byte : ¬ (IsItem (item 2 (5 ∷ [])))
size-of_one_byte h = let two = h.segment_size refl in omega (arith, two)

scale-of_two_bytes : ¬ (IsItem (item 3 (7 ∷ 7 ∷ [])))
scale-of_two_bytes h = let one = h.window_scale refl in omega (arith, one)

permitted-with_data : ¬ (IsItem (item 4 (0 ∷ [])))
permitted-with_data h = let empty = h.sack_permitted refl in absurd (cc)

no-ranges : ¬ (IsItem (item 5 []))
no-ranges h = let (n, some, long) = h.sack_ranges refl in omega (arith, some, long)

half-a_range : ¬ (IsItem (item 5 (0 ∷ 0 ∷ 0 ∷ 1 ∷ [])))
half-a_range h = let (n, some, long) = h.sack_ranges refl in omega (arith, some, long)

-- an option list ends at its end, or at a byte 0
tail-of_one : ¬ (IsTail (1 ∷ []))
tail-of_one h = omega (arith, h)

-- ---- options that bytes do not begin with

size : Item
size = item 2 (0x05 ∷ 0xb4 ∷ [])

IsItem-size : IsItem size
unfolding size
IsItem-size = is_item 2 (0x05 ∷ 0xb4 ∷ []) (λ e. omega (arith, e)) (λ e. omega (arith, e)) refl

-- the item of these bytes
only-size : (i : Item) (rest : List ℕ) → IsItem i → 0x02 ∷ 0x04 ∷ 0x05 ∷ 0xb4 ∷ [] ≡ text i ++ rest → (i ≡ size) × (rest ≡ [])
unfolding size
only-size i rest is e = text_apart i size rest [] is IsItem-size (sym e)

other-size : (rest : List ℕ) → ¬ (Begins (MaxSegmentSize 1461) (0x02 ∷ 0x04 ∷ 0x05 ∷ 0xb4 ∷ []) rest)
unfolding size
other-size rest (i, is, reading, e) =
    let same = (only-size i rest is e).0 in
    let number : 1461 ≡ 1460 = reading.1 ∙ ap (λ (j : Item). big_number 2 j.content) same in
    omega (arith, number)

other-kind : (rest : List ℕ) → ¬ (Begins (WindowScale 5) (0x02 ∷ 0x04 ∷ 0x05 ∷ 0xb4 ∷ []) rest)
unfolding size
other-kind rest (i, is, reading, e) =
    let kind : 3 ≡ 2 = sym reading.0 ∙ ap (λ (j : Item). j.kind) (only-size i rest is e).0 in
    omega (arith, kind)

other-rest : ¬ (Begins (MaxSegmentSize 1460) (0x02 ∷ 0x04 ∷ 0x05 ∷ 0xb4 ∷ []) (0xb4 ∷ []))
other-rest (i, is, reading, e) = let rest = (only-size i (0xb4 ∷ []) is e).1 in absurd (cc)

item-no_end : (rest : List ℕ) → ¬ (Begins EndOfList (0x02 ∷ 0x04 ∷ 0x05 ∷ 0xb4 ∷ []) rest)
item-no_end rest e = absurd (cc)

end-something : ¬ (BeginsNothing (0 ∷ []))
end-something h = h.no_mark [] refl

operation-something : ¬ (BeginsNothing (1 ∷ []))
operation-something h = h.no_item (item 1 []) [] IsItem_bare refl
