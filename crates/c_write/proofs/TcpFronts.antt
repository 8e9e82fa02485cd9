-- Segments whose first 20 bytes are written last.
use Rattle.std.proofs.Common.{◌≡◌, ◌∙◌, ℕ, suc, ◌+◌, ◌-◌, ◌*◌, ◌/◌, ◌%◌, ◌^◌, ◌≤◌, ◌<◌, List, [], ◌∷◌, ◌++◌, append_assoc, drop, length, slice_index, slice_range, take, ap, sym, refl, w32, arith}
use Rattle.std.proofs.lemmas.Int.{of_z-to_z}
use Rattle.std.proofs.lemmas.List.{drop-drop, drop_at, length-take-le, take-append-drop}
use Rattle.ip_wire.specs.Field.{with_range}
use Rattle.ip_wire.specs.TcpRepr.{option_bytes}
use Rattle.c_write.specs.Headers.{front_bytes, options_header_len, options_value, segment_with_flags, tcp_value}
use Rattle.c_structs.specs.declared.types.Tcp.{Tcp}
use Rattle.c_structs.specs.declared.types.TcpOptions.{TcpOptions}

-- a segment is its first 20 bytes, the options and the payload
pub segment-parts : (h : Tcp) (o : TcpOptions) (p q size : ℕ) (payload : List ℕ) → size ≡ options_header_len o → size ≤ 60 → h.seq_number < 2 ^ 32 → h.ack_number < 2 ^ 32
    → front_bytes h p q size ++ (option_bytes (options_value o) ++ payload) ≡ segment_with_flags h (tcp_value h o p q) payload
segment-parts h o p q size payload is most seq ack =
    let bytes = segment_with_flags h (tcp_value h o p q) payload in
    let offset : slice_index bytes 12 ≡ size / 4 * 16 % 256 = omega (arith, is, most) in
    let flags_is : slice_index bytes 13 ≡ h.flags % 256 = omega arith in
    let urgent_high : slice_index bytes 18 ≡ h.urgent_at / 256 % 256 = omega arith in
    let urgent_low : slice_index bytes 19 ≡ h.urgent_at % 256 = omega arith in
    rw (offset, flags_is, urgent_high, urgent_low, of_z-to_z w32 h.seq_number seq, of_z-to_z w32 h.ack_number ack) refl

-- the front that was made for the rest of the segment precedes it, and what follows it is unchanged
pub front-written : (C : List ℕ → List ℕ) (start front rest whole tail o1 new : List ℕ) → front ++ rest ≡ C (start ++ rest) → start ++ rest ≡ whole
    → drop 20 o1 ≡ rest ++ tail → new ≡ front ++ drop 20 o1 → new ≡ C whole ++ tail
front-written C start front rest whole tail o1 new made is following holds =
    holds ∙ ap (λ s. front ++ s) following ∙ sym (append_assoc front rest tail) ∙ ap (λ s. s ++ tail) (made ∙ ap C is)

-- the options follow the first 20 bytes
pub options-there : (old o1 options : List ℕ) (size : ℕ) → 20 ≤ length old → o1 ≡ with_range old 20 size options → drop 20 o1 ≡ options ++ drop size old
options-there old o1 options size long is =
    ap (λ l. drop 20 l) (is ∙ append_assoc (take 20 old) options (drop size old)) ∙ drop_at (take 20 old) (options ++ drop size old) 20 (length-take-le 20 old long)

take-options : (options rest : List ℕ) (n : ℕ) → take (length options + n) (options ++ rest) ≡ options ++ take n rest
take-options [] rest n = ap (λ k. take k rest) (omega arith)
take-options (x ∷ options) rest n =
    let e : suc (length options) + n ≡ suc (length options + n) = omega arith in
    ap (λ k. take k (x ∷ (options ++ rest))) e ∙ ap (λ l. x ∷ l) (take-options options rest n)

-- the rest of the segment, where options were written before a payload in place
pub rest-here : (old o1 options : List ℕ) (size n : ℕ) → 20 + length options ≡ size → drop 20 o1 ≡ options ++ drop size old
    → slice_range o1 20 (size + n) ≡ options ++ slice_range old size (size + n)
rest-here old o1 options size n long is =
    let count : size + n - 20 ≡ length options + n = omega (arith, long) in
    let same : size + n - size ≡ n = omega arith in
    let inner : take (length options + n) (options ++ drop size old) ≡ options ++ take n (drop size old) = take-options options (drop size old) n in
    ap (λ s. take (size + n - 20) s) is ∙ ap (λ k. take k (options ++ drop size old)) count ∙ inner ∙ ap (λ k. options ++ take k (drop size old)) (sym same)

pub following-here : (old o1 options : List ℕ) (size n : ℕ) → drop 20 o1 ≡ options ++ drop size old
    → drop 20 o1 ≡ (options ++ slice_range old size (size + n)) ++ drop (size + n) old
following-here old o1 options size n is =
    let parts : drop size old ≡ slice_range old size (size + n) ++ drop (size + n) old =
    let count : size + n - size ≡ n = omega arith in
    let last : drop n (drop size old) ≡ drop (size + n) old = drop-drop n size old ∙ ap (λ k. drop k old) (omega arith) in
    sym (take-append-drop n (drop size old)) ∙ ap (λ k. take k (drop size old) ++ drop n (drop size old)) (sym count)
    ∙ ap (λ s. slice_range old size (size + n) ++ s) last in
    is ∙ ap (λ s. options ++ s) parts ∙ sym (append_assoc options (slice_range old size (size + n)) (drop (size + n) old))
