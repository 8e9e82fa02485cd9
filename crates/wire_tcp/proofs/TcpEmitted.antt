-- The parts of an emitted segment, in order.
use Rattle.std.proofs.Common.{ℕ, ◌≡◌, ◌≢◌, ◌+◌, ◌-◌, ◌*◌, ◌≤◌, eqb, ◌||◌, Bool, true, false, cond, List, [], ◌∷◌, ◌++◌, length, drop, take, replicate, count_by, is_some, is_none, Option, refl, sym, ap, ◌∙◌, append_assoc, length-append, arith}
use Rattle.std.specs.Borrow.{MutBor}
use Rattle.std.proofs.lemmas.Bool.{eqb-true, false_from_ne_true}
use Rattle.std.proofs.lemmas.List.{append-nil, drop-drop, drop_at, length-replicate, length-take-le, take_at}
use Rattle.std.proofs.lemmas.Grind.{flat_map-append}
use Rattle.std.proofs.Math.Dec.{eqb-suc-zero}
use Rattle.wire_addr.specs.declared.ip_address.IpAddress.{IpAddress}
use Rattle.net_base.specs.Field.{with_field, with_range}
use Rattle.net_base.specs.Borrow.{Holds}
use Rattle.wire_tcp.specs.Tcp.{segment_sum, with_checksum}
use Rattle.wire_tcp_options.specs.TcpItems.{Item, item, texts}
use Rattle.wire_tcp_options.specs.TcpOption.{range_bytes}
use Rattle.wire_tcp.specs.TcpFixed.{fixed_bytes}
use Rattle.wire_tcp_options.specs.TcpSeq.{number}
use Rattle.wire_tcp_options.proofs.Ranges.{length-range_bytes}
use Rattle.wire_tcp.proofs.Sums.{field-word}
use Rattle.wire_tcp_options.specs.declared.tcp.timestamp.TcpTimestampRepr.{TcpTimestampRepr}
use Rattle.wire_tcp.proofs.OptionLens.{sack_len-suc}
use Rattle.wire_tcp.specs.TcpRepr.{TcpHeader, ack_bits, bytes_of, header_bytes, header_len_of, items_of, len_if, offset_and_flags, option_bytes, sack_items, sack_len, segment_size_items, segment_with, timestamp_items, window_scale_items}
use Rattle.std.proofs.lemmas.Grind.{common_steps}
use Rattle.std.proofs.lemmas.Bool.Decides.{nat_tests}

-- ---- options

pub not_none : {X : Type 0} (o : Option X) → is_some o ≡ true → is_none o ≡ false
not_none o e = grind arith

-- ranges are emitted as their item
pub texts-ranges : (v : TcpHeader) → v.sack_permitted ≡ false → is_some v.ack_number ≡ true → count_by is_some v.sack_ranges ≢ 0
    → 5 ∷ (2 + 8 * count_by is_some v.sack_ranges) ∷ range_bytes v.sack_ranges ≡ texts (sack_items v)
texts-ranges v p a n = grind (arith, common_steps, nat_tests, false_from_ne_true, eqb-true, not_none, append-nil, length-range_bytes)

-- the length of the SACK option in bytes, if ranges are emitted
pub length-ranges : (v : TcpHeader) → v.sack_permitted ≡ false → is_some v.ack_number ≡ true → count_by is_some v.sack_ranges ≢ 0
    → length (texts (sack_items v)) ≡ 2 + 8 * count_by is_some v.sack_ranges
length-ranges v p a n = grind (arith, common_steps, nat_tests, texts-ranges, length-range_bytes)

segment_size_len : (o : Option ℕ) → length (texts (segment_size_items o)) ≡ len_if (is_some o) 4
segment_size_len o = grind arith

window_scale_len : (o : Option ℕ) → length (texts (window_scale_items o)) ≡ len_if (is_some o) 3
window_scale_len o = grind arith

timestamp_len : (o : Option TcpTimestampRepr) → length (texts (timestamp_items o)) ≡ len_if (is_some o) 10
timestamp_len o = grind arith

sack_items_len : (p a : Bool) (n : ℕ) (bytes : List ℕ) → length bytes ≡ 8 * n
    → length (texts (cond p (item 4 [] ∷ []) (cond (a || eqb n 0) [] (item 5 bytes ∷ [])))) ≤ len_if p 2 + sack_len n
sack_items_len p a n bytes e = grind (arith, common_steps, nat_tests, eqb-suc-zero, sack_len-suc, length-append)

-- the emitted options fit into the header
pub written_len : (v : TcpHeader) → length (texts (segment_size_items v.max_seg_size)) + length (texts (window_scale_items v.window_scale)) + length (texts (sack_items v))
    + length (texts (timestamp_items v.timestamp)) + 20 ≤ header_len_of v
written_len v =
    let a = segment_size_len v.max_seg_size in
    let b = window_scale_len v.window_scale in
    let c = sack_items_len v.sack_permitted (is_none v.ack_number) (count_by is_some v.sack_ranges) (range_bytes v.sack_ranges) (length-range_bytes v.sack_ranges) in
    let d = timestamp_len v.timestamp in
    omega (arith, a, b, c, d)

texts_joined : (a b c d : List Item) → texts (a ++ b ++ c ++ d) ≡ ((texts a ++ texts b) ++ texts c) ++ texts d
texts_joined a b c d = grind (arith, common_steps, nat_tests, flat_map-append)

-- with the zeros after them they fill the header
pub length-option_bytes : (v : TcpHeader) → 20 + length (option_bytes v) ≡ header_len_of v
length-option_bytes v = grind (arith, common_steps, nat_tests, length-append, texts_joined, length-replicate, written_len)

-- the emitted header has the computed length
pub length-header_bytes : (v : TcpHeader) (checksum : ℕ) → length (header_bytes v checksum) ≡ header_len_of v
length-header_bytes v checksum = omega (arith, length-option_bytes v)

-- ---- parts that are written one after the other

-- one borrow after another
pub holds_then : (a b c : MutBor (List ℕ)) (x y z : List ℕ) → Holds a b x → Holds b c y → y ≡ z → Holds a c z
holds_then a b c x y z h k e = grind (arith, common_steps, nat_tests)

-- a part after a front that is already written
pub part_after : (old b front part : List ℕ) (at end : ℕ) → b ≡ front ++ drop at old → at ≡ length front → end ≡ at + length part
    → with_range b at end part ≡ (front ++ part) ++ drop end old
part_after old b front part at end is place long =
    let head : take at b ≡ front = ap (take at) is ∙ take_at front (drop at old) at (sym place) in
    let rest : drop at b ≡ drop at old = ap (drop at) is ∙ drop_at front (drop at old) at (sym place) in
    let following : drop end b ≡ drop end old =
    ap (λ (n : ℕ). drop n b) long ∙ sym (drop-drop (length part) at b) ∙ ap (drop (length part)) rest ∙ drop-drop (length part) at old ∙ ap (λ (n : ℕ). drop n old) (sym long) in
    rw (head, following) refl

length-part : (front part : List ℕ) (at end : ℕ) → at ≡ length front → end ≡ at + length part → end ≡ length (front ++ part)
length-part front part at end place long = long ∙ ap (λ (n : ℕ). n + length part) place ∙ sym (length-append front part)

-- the options of a value in order, and zeros
pub options_after : (v : TcpHeader) (old b₁ b₂ b₃ b₄ b₅ : List ℕ) (a₁ a₂ a₃ a₄ end : ℕ) → end ≡ header_len_of v → 20 ≤ length old
    → a₁ ≡ 20 + length (texts (segment_size_items v.max_seg_size)) → b₁ ≡ with_range old 20 a₁ (texts (segment_size_items v.max_seg_size))
    → a₂ ≡ a₁ + length (texts (window_scale_items v.window_scale)) → b₂ ≡ with_range b₁ a₁ a₂ (texts (window_scale_items v.window_scale))
    → a₃ ≡ a₂ + length (texts (sack_items v)) → b₃ ≡ with_range b₂ a₂ a₃ (texts (sack_items v))
    → a₄ ≡ a₃ + length (texts (timestamp_items v.timestamp)) → b₄ ≡ with_range b₃ a₃ a₄ (texts (timestamp_items v.timestamp))
    → b₅ ≡ with_range b₄ a₄ end (replicate (end - a₄) 0)
    → b₅ ≡ with_range old 20 end (option_bytes v)
options_after v old b₁ b₂ b₃ b₄ b₅ a₁ a₂ a₃ a₄ end size room p₁ q₁ p₂ q₂ p₃ q₃ p₄ q₄ q₅ =
    let t₁ = texts (segment_size_items v.max_seg_size) in
    let t₂ = texts (window_scale_items v.window_scale) in
    let t₃ = texts (sack_items v) in
    let t₄ = texts (timestamp_items v.timestamp) in
    let f₀ = take 20 old in
    let all = written_len v in
    let zeros : List ℕ = replicate (end - a₄) 0 in
    let long₀ : 20 ≡ length f₀ = sym (length-take-le 20 old room) in
    let long₁ = length-part f₀ t₁ 20 a₁ long₀ p₁ in
    let long₂ = length-part (f₀ ++ t₁) t₂ a₁ a₂ long₁ p₂ in
    let long₃ = length-part ((f₀ ++ t₁) ++ t₂) t₃ a₂ a₃ long₂ p₃ in
    let long₄ = length-part (((f₀ ++ t₁) ++ t₂) ++ t₃) t₄ a₃ a₄ long₃ p₄ in
    let e₁ = q₂ ∙ part_after old b₁ (f₀ ++ t₁) t₂ a₁ a₂ q₁ long₁ p₂ in
    let e₂ = q₃ ∙ part_after old b₂ ((f₀ ++ t₁) ++ t₂) t₃ a₂ a₃ e₁ long₂ p₃ in
    let e₃ = q₄ ∙ part_after old b₃ (((f₀ ++ t₁) ++ t₂) ++ t₃) t₄ a₃ a₄ e₂ long₃ p₄ in
    let last : end ≡ a₄ + length zeros = omega (arith, length-replicate {A = ℕ} (end - a₄) 0, size, all, p₁, p₂, p₃, p₄) in
    let e₄ = q₅ ∙ part_after old b₄ ((((f₀ ++ t₁) ++ t₂) ++ t₃) ++ t₄) zeros a₄ end e₃ long₄ last in
    let joined = texts_joined (segment_size_items v.max_seg_size) (window_scale_items v.window_scale) (sack_items v) (timestamp_items v.timestamp) in
    let front : (((f₀ ++ t₁) ++ t₂) ++ t₃) ++ t₄ ≡ f₀ ++ texts (items_of v) =
    rw (joined, append_assoc f₀ t₁ t₂, append_assoc f₀ (t₁ ++ t₂) t₃, append_assoc f₀ ((t₁ ++ t₂) ++ t₃) t₄) refl in
    let left : end - a₄ ≡ header_len_of v - 20 - length (texts (items_of v)) =
    omega (arith, size, p₁, p₂, p₃, p₄, simp length-append at (ap length joined)) in
    e₄ ∙ ap (λ (l : List ℕ). (l ++ zeros) ++ drop end old) front
    ∙ ap (λ (l : List ℕ). l ++ drop end old) (append_assoc f₀ (texts (items_of v)) zeros ∙ ap (λ (n : ℕ). f₀ ++ (texts (items_of v) ++ replicate n 0)) left)

-- ---- the whole segment

-- the checksum that is filled in
pub checksum_filled : (v : TcpHeader) (src dst : IpAddress) (payload rest : List ℕ)
    → with_checksum src dst (segment_with v payload 0 ++ rest) ≡ bytes_of v payload src dst true rest ++ rest
checksum_filled v src dst payload rest = grind (arith, common_steps, nat_tests, field-word)

-- the header up to its options, with 0 as checksum
abbrev pub fixed_of : TcpHeader → List ℕ
fixed_of v = fixed_bytes v.src_port v.dst_port (number v.seq_number) (ack_bits v) (offset_and_flags v) v.window_len

-- a segment begins with that header
pub begins_fixed : (v : TcpHeader) (payload rest bytes fixed : List ℕ) → fixed ≡ fixed_of v → bytes ≡ segment_with v payload 0 ++ rest → bytes ≡ fixed ++ drop 20 bytes
begins_fixed v payload rest bytes fixed is whole = grind arith

-- that header and the options, in order
header_written : (v : TcpHeader) (old with_fixed with_options : MutBor (List ℕ)) (fixed : List ℕ) (len : ℕ) → len ≡ header_len_of v → fixed ≡ fixed_of v
    → Holds old with_fixed (with_range old.now 0 (0 + length fixed) fixed) → Holds with_fixed with_options (with_range with_fixed.now 20 len (option_bytes v))
    → Holds old with_options (header_bytes v 0 ++ drop len old.now)
header_written v old with_fixed with_options fixed len size is first options = grind (arith, common_steps, nat_tests, holds_then, part_after, length-option_bytes)

-- the header up to its options, the options and the payload, in order
pub segment_written : (v : TcpHeader) (payload : List ℕ) (old with_fixed with_options whole : MutBor (List ℕ)) (fixed : List ℕ) (len : ℕ) → len ≡ header_len_of v → fixed ≡ fixed_of v
    → Holds old with_fixed (with_range old.now 0 (0 + length fixed) fixed) → Holds with_fixed with_options (with_range with_fixed.now 20 len (option_bytes v))
    → Holds with_options whole (with_range with_options.now len (len + length payload) payload)
    → Holds old whole (segment_with v payload 0 ++ drop (header_len_of v + length payload) old.now)
segment_written v payload old with_fixed with_options whole fixed len size is first options body =
    let header = header_written v old with_fixed with_options fixed len size is first options in
    holds_then old with_options whole (header_bytes v 0 ++ drop len old.now) (with_range with_options.now len (len + length payload) payload) (segment_with v payload 0 ++ drop (header_len_of v + length payload) old.now) header body
    (part_after old.now with_options.now (header_bytes v 0) payload len (len + length payload) header.holds (size ∙ sym (length-header_bytes v 0)) refl
    ∙ ap (λ (n : ℕ). segment_with v payload 0 ++ drop (n + length payload) old.now) size)

-- with 0 as checksum
pub left_unsummed : (v : TcpHeader) (src dst : IpAddress) (payload rest : List ℕ) (old whole : MutBor (List ℕ)) (computed : Bool) → computed ≡ false
    → Holds old whole (segment_with v payload 0 ++ rest) → Holds old whole (bytes_of v payload src dst computed rest ++ rest)
left_unsummed v src dst payload rest old whole computed e h = grind arith

-- with a computed checksum
pub then_summed : (v : TcpHeader) (src dst : IpAddress) (payload rest : List ℕ) (old whole summed : MutBor (List ℕ)) (computed : Bool) → computed ≡ true
    → Holds old whole (segment_with v payload 0 ++ rest) → Holds whole summed (with_field whole.now 128 16 (65535 - segment_sum src dst whole.now)) → Holds old summed (bytes_of v payload src dst computed rest ++ rest)
then_summed v src dst payload rest old whole summed computed e h k = grind (arith, common_steps, nat_tests, holds_then, field-word)
