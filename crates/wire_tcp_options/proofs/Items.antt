-- Lists of items, and the bytes of a slice.
use Rattle.std.proofs.Common.{◌≡◌, ◌≢◌, ℕ, zero, suc, ◌+◌, ◌-◌, ◌*◌, ◌<◌, ◌≤◌, eqb, List, [], ◌∷◌, ◌++◌, length, get_or, take, drop, Some, arith, refl, sym, ap, ◌∙◌, length-drop}
use Rattle.std.proofs.lemmas.Bool.{eqb-true, false_from_ne_true, lt-ltb}
use Rattle.std.proofs.lemmas.List.{take_all, take-append-drop, length-take-le}
use Rattle.byteorder.specs.Endian.{big_number}
use Rattle.wire_tcp_options.specs.TcpItems.{Item, item, IsItem, text, block_at}
use Rattle.wire_tcp_options.specs.TcpOption.{IsReading, Begins}
use Rattle.wire_tcp_options.specs.declared.tcp.option.TcpOption.{TcpOption}
use Rattle.wire_tcp_options.specs.declared.tcp.option.TcpOption.TheVariants.{EndOfList, NoOperation, MaxSegmentSize, WindowScale, SackPermitted, SackRange, TimeStamp, Unknown}
use Rattle.std.proofs.lemmas.Grind.{common_steps}
use Rattle.std.proofs.lemmas.Bool.Decides.{nat_tests}

-- the bytes from index n on
pub take_left : (b : List ℕ) (n : ℕ) → take (length b - n) (drop n b) ≡ drop n b
take_left b n = take_all (length b - n) (drop n b) (omega (arith, length-drop n b))

-- a block of the data
pub block_at_here : (content : List ℕ) (k start end : ℕ) → 8 * k < length content → start ≡ big_number 4 (drop (8 * k) content) → end ≡ big_number 4 (drop (8 * k + 4) content) → Some (start, end) ≡ block_at content k
block_at_here content k start end h s e = rw (s, e, lt-ltb (8 * k) (length content) h) refl

-- the text of no operation
pub text-bare : (i : Item) → i.kind ≡ 1 → text i ≡ 1 ∷ []
text-bare i h = rw h refl

-- the text of every other kind
pub text-other : (i : Item) → i.kind ≢ 1 → text i ≡ i.kind ∷ (2 + length i.content) ∷ i.content
text-other i h = rw (false_from_ne_true (eqb i.kind 1) (λ e. h (eqb-true i.kind 1 e))) refl

-- no operation is an item
pub IsItem_bare : IsItem (item 1 [])
IsItem_bare = grind (arith, common_steps, nat_tests)

-- whole blocks are the data of a SACK item
pub IsItem-ranges : (kind : ℕ) (content : List ℕ) (n : ℕ) → kind ≡ 5 → 0 < n → length content ≡ 8 * n → length content ≤ 253 → IsItem (item kind content)
IsItem-ranges kind content n k some whole size = grind (arith, common_steps, nat_tests)

-- bytes that begin with an item begin with the option that the item parses as
pub Begins_from_item : (o : TcpOption) (bytes rest : List ℕ) (i : Item) → IsItem i → IsReading o i → bytes ≡ text i ++ rest → Begins o bytes rest
Begins_from_item o bytes rest i is reading e = grind (arith, common_steps, nat_tests)

-- a kind, a length and that many data bytes are the text of an item
pub text_here : (k m : ℕ) (r : List ℕ) → k ≢ 1 → m ≤ length r → k ∷ (2 + m) ∷ r ≡ text (item k (take m r)) ++ drop m r
text_here k m r other room =
    rw (text-other (item k (take m r)) other, length-take-le m r room, take-append-drop m r) refl

-- bytes that begin with a kind and a possible length begin with the text of that item
pub text_at : (b : List ℕ) (n : ℕ) → get_or b 0 0 ≢ 1 → n ≡ get_or b 1 0 → 2 ≤ n → n ≤ length b → b ≡ text (item (get_or b 0 0) (take (n - 2) (drop 2 b))) ++ drop n b
text_at [] n other at low room = absurd (omega arith)
text_at (k ∷ []) n other at low room = absurd (omega arith)
text_at (k ∷ l ∷ r) zero other at low room = absurd (omega arith)
text_at (k ∷ l ∷ r) (suc zero) other at low room = absurd (omega arith)
text_at (k ∷ l ∷ r) (suc (suc m)) other at low room =
    let size : l ≡ 2 + m = omega arith in
    let left : suc (suc m) - 2 ≡ m = omega arith in
    ap (λ (x : ℕ). k ∷ x ∷ r) size ∙ text_here k m r other (omega arith) ∙ ap (λ (n : ℕ). text (item k (take n r)) ++ drop m r) (sym left)

-- the first byte and the others
pub first_cell : (b : List ℕ) → 0 < length b → b ≡ get_or b 0 0 ∷ drop 1 b
first_cell b h = grind arith

-- an option other than the end mark was parsed from an item
pub item_read : (o : TcpOption) (bytes rest : List ℕ) → Begins o bytes rest → (o ≡ EndOfList → ⊥) → (i : Item) × IsItem i × IsReading o i × (bytes ≡ text i ++ rest)
item_read EndOfList bytes rest h other = absurd (other refl)
item_read NoOperation bytes rest h other = h
item_read (MaxSegmentSize _) bytes rest h other = h
item_read (WindowScale _) bytes rest h other = h
item_read SackPermitted bytes rest h other = h
item_read (SackRange _) bytes rest h other = h
item_read (TimeStamp _ _) bytes rest h other = h
item_read (Unknown _ _) bytes rest h other = h
