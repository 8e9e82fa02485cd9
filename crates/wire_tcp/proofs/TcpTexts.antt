-- The printed texts of a segment.
use Rattle.std.proofs.Common.{ℕ, zero, suc, ◌≡◌, ◌≢◌, ◌-◌, ◌^◌, ◌<◌, ◌≤◌, ◌==◌, ◌++◌, Bool, List, Option, [], ◌∷◌, Some, None, codes, decimal, flat_map, length, refl, sym, ap, ◌∙◌, false, arith}
use Rattle.std.specs.Fmt.{◌++?◌, char_count, comma_space, debug_items, debug_list, debug_option, digits, format_spec, padded_integral}
use Rattle.std.specs.Option.{option_map_or}
use Rattle.std.specs.Prelude.{if◌then◌else◌}
use Rattle.std.proofs.lemmas.Bool.{false_from_ne_true, eqb-true}
use Rattle.std.proofs.lemmas.Bool.Decides.{nat_tests}
use Rattle.std.proofs.lemmas.List.{append-nil}
use Rattle.net_base.specs.Field.{field}
use Rattle.wire_tcp.specs.Tcp.{HasLengths, has_lengths, header_len, options_of}
use Rattle.wire_tcp_options.specs.TcpItems.{IsItem, Item, first_item, is_timestamp, text}
use Rattle.wire_tcp_options.specs.TcpOption.{BeginsNothing, IsReading}
use Rattle.wire_tcp.specs.TcpText.{fields_text, flags_text, hex_word, item_text, numbers_text, options_text, options_text_within, packet_text, ports_text, range_text, ranges_text, shown}
use Rattle.wire_tcp_options.specs.declared.tcp.option.TcpOption.{TcpOption}
use Rattle.wire_tcp_options.specs.declared.tcp.option.TcpOption.TheVariants.{EndOfList, NoOperation, MaxSegmentSize, WindowScale, SackPermitted, SackRange, TimeStamp, Unknown}
use Rattle.wire_tcp_options.proofs.FirstItems.{Leads-first_item, first_item-Leads, first_item-None}
use Rattle.wire_tcp_options.proofs.OptionLists.{head-text, nil-text, shorter}
use Rattle.wire_tcp_options.proofs.Summaries.{scale_is}
use Rattle.wire_tcp.proofs.TcpComputed.{has_lengths-Decides}
use Rattle.std.proofs.lemmas.Grind.{common_steps}

-- what `{:08x}` prints
pub padded_hex_word : (n : ℕ) → padded_integral (format_spec 32 0 4 8 (2 ^ 64 - 1)) false [] (digits 16 false n) ≡ hex_word n
unfolding padded_integral char_count
padded_hex_word n = grind (arith, common_steps, nat_tests, append-nil)

-- what `{:?}` prints for a block
abbrev pub range_output : Option (ℕ × ℕ) → Option (List ℕ)
range_output = debug_option (λ (r : ℕ × ℕ). Some (40 ∷ []) ++? Some (decimal r.0) ++? Some comma_space ++? Some (decimal r.1) ++? Some (41 ∷ []))

range_output-text : (o : Option (ℕ × ℕ)) → range_output o ≡ Some (range_text o)
range_output-text o = grind arith

debug_items-ranges : (ranges : List (Option (ℕ × ℕ))) → debug_items range_output comma_space ranges ≡ Some (flat_map (λ o. codes ", " ++ range_text o) ranges)
debug_items-ranges [] = refl
debug_items-ranges (o ∷ ranges) = rw (range_output-text o, debug_items-ranges ranges) refl

-- what it prints for all blocks
pub debug_list_of_ranges : (ranges : List (Option (ℕ × ℕ))) → debug_list range_output ranges ≡ Some (ranges_text ranges)
debug_list_of_ranges [] = refl
debug_list_of_ranges (o ∷ ranges) = rw (range_output-text o, debug_items-ranges ranges) refl

-- ---- the text of the header, from the values of the getters

-- the text of the flags, from the values of the getters
pub flags_text-values : (bytes : List ℕ) (syn fin rst psh ece cwr ns : Bool)
    → syn ≡ (field bytes 110 1 == 1) → fin ≡ (field bytes 111 1 == 1) → rst ≡ (field bytes 109 1 == 1) → psh ≡ (field bytes 108 1 == 1)
    → ece ≡ (field bytes 105 1 == 1) → cwr ≡ (field bytes 104 1 == 1) → ns ≡ (field bytes 103 1 == 1)
    → flags_text bytes ≡ (if syn then codes " syn" else []) ++ (if fin then codes " fin" else []) ++ (if rst then codes " rst" else [])
    ++ (if psh then codes " psh" else []) ++ (if ece then codes " ece" else []) ++ (if cwr then codes " cwr" else []) ++ (if ns then codes " ns" else [])
unfolding flags_text
flags_text-values bytes syn fin rst psh ece cwr ns s f r p e c n = rw (s, f, r, p, e, c, n) refl

-- the text of the other fields, from the values of the getters
pub fields_text-values : (bytes : List ℕ) (ack urg : Bool) (seq a win u len : ℕ) → ack ≡ (field bytes 107 1 == 1) → urg ≡ (field bytes 106 1 == 1)
    → seq ≡ field bytes 32 32 → a ≡ field bytes 64 32 → win ≡ field bytes 112 16 → u ≡ field bytes 144 16 → len ≡ length bytes - header_len bytes
    → fields_text bytes ≡ numbers_text seq (if ack then Some a else None) win (if urg then Some u else None) len
fields_text-values bytes ack urg seq a win u len p q s an w un l = rw (p, q, s, an, w, un, l) refl

-- ---- the text of options

at_step : (n kind : ℕ) (rest : List ℕ) → kind ≢ 0 → options_text_within (suc n) (kind ∷ rest)
    ≡ option_map_or (λ d. item_text d.0 ++ options_text_within n d.1) (first_item (kind ∷ rest)) (codes " (wire::Error)")
unfolding options_text_within
at_step n kind rest some = rw (false_from_ne_true (kind == 0) (λ e. some (eqb-true kind 0 e))) refl

at_none : (n : ℕ) → options_text_within n [] ≡ []
unfolding options_text_within
at_none n = grind arith

at_mark : (n : ℕ) (rest : List ℕ) → options_text_within (suc n) (0 ∷ rest) ≡ []
unfolding options_text_within
at_mark n rest = refl

-- a larger limit than the number of bytes changes nothing
enough_by : (n m : ℕ) (bytes : List ℕ) (o : Option (Item × List ℕ)) → first_item bytes ≡ o → length bytes ≤ suc n → length bytes ≤ suc m
    → ((rest : List ℕ) → length rest ≤ n → length rest ≤ m → options_text_within n rest ≡ options_text_within m rest)
    → option_map_or (λ d. item_text d.0 ++ options_text_within n d.1) o (codes " (wire::Error)") ≡ option_map_or (λ d. item_text d.0 ++ options_text_within m d.1) o (codes " (wire::Error)")
enough_by n m bytes None e a b more = refl
enough_by n m bytes (Some d) e a b more =
    let less = shorter d.0 bytes d.1 (first_item-Leads bytes d.0 d.1 e).joined in
    ap (λ (t : List ℕ). item_text d.0 ++ t) (more d.1 (omega (arith, less)) (omega (arith, less)))

enough : (n m : ℕ) (bytes : List ℕ) → length bytes ≤ n → length bytes ≤ m → options_text_within n bytes ≡ options_text_within m bytes
enough n m [] a b = at_none n ∙ sym (at_none m)
enough zero m (kind ∷ rest) a b = absurd (omega arith)
enough (suc n) zero (kind ∷ rest) a b = absurd (omega arith)
enough (suc n) (suc m) (zero ∷ rest) a b = at_mark n rest ∙ sym (at_mark m rest)
enough (suc n) (suc m) (suc kind ∷ rest) a b =
    let some : suc kind ≢ 0 = λ e. absurd (omega (arith, e)) in
    at_step n (suc kind) rest some
    ∙ enough_by n m (suc kind ∷ rest) (first_item (suc kind ∷ rest)) refl a b (enough n m)
    ∙ sym (at_step m (suc kind) rest some)

-- an item in front, followed by the text of the rest
pub options_text-item : (bytes : List ℕ) (i : Item) (rest : List ℕ) → IsItem i → bytes ≡ text i ++ rest → options_text bytes ≡ item_text i ++ options_text rest
options_text-item [] i rest is e = absurd (nil-text i rest e)
options_text-item (kind ∷ r) i rest is e =
    let above = is.above in
    let same = head-text i kind r rest e in
    let less = shorter i (kind ∷ r) rest e in
    at_step (length r) kind r (λ z. absurd (omega (arith, z, same, above)))
    ∙ rw (Leads-first_item (kind ∷ r) i rest (record { is = is; joined = e }), enough (length r) (length rest) rest (omega (arith, less)) (omega arith)) refl

-- no bytes, no text
pub options_text-empty : (bytes : List ℕ) → length bytes ≤ 0 → options_text bytes ≡ []
options_text-empty [] h = at_none 0
options_text-empty (b ∷ bytes) h = absurd (omega arith)

-- the text ends at an end mark
pub options_text-mark : (bytes rest : List ℕ) → bytes ≡ 0 ∷ rest → options_text bytes ≡ []
options_text-mark bytes rest e = ap options_text e ∙ at_mark (length rest) rest

-- and at a malformed option
pub options_text-malformed : (bytes : List ℕ) → 0 < length bytes → BeginsNothing bytes → options_text bytes ≡ codes " (wire::Error)"
options_text-malformed [] some h = absurd (omega arith)
options_text-malformed (kind ∷ rest) some h =
    at_step (length rest) kind rest (λ z. h.no_mark rest (ap (λ (k : ℕ). k ∷ rest) z))
    ∙ ap (λ (o : Option (Item × List ℕ)). option_map_or (λ d. item_text d.0 ++ options_text_within (length rest) d.1) o (codes " (wire::Error)"))
    (first_item-None (kind ∷ rest) (λ i r l. h.no_item i r l.is l.joined))

-- the text of an option is that of its item
pub shown-item : (o : TcpOption) (i : Item) → IsReading o i → shown o ≡ item_text i
shown-item EndOfList i reading = absurd reading
shown-item NoOperation i reading = rw reading refl
shown-item (MaxSegmentSize size) i (kind, e) = rw (kind, e) refl
shown-item (WindowScale scale) i (kind, e) =
    rw (kind, scale_is i.content scale e) refl
shown-item SackPermitted i reading = rw reading refl
shown-item (SackRange ranges) i (kind, e) = rw (kind, e) refl
shown-item (TimeStamp tsval tsecr) i (kind, len, a, b) = rw (kind, len, a, b) refl
shown-item (Unknown kind bytes) i (above, short, same, e) =
    let none : (n : ℕ) → n < 6 → (i.kind == n) ≡ false = λ n small. grind (arith, nat_tests) in
    let no_stamp : is_timestamp i ≡ false = grind (arith, nat_tests) in
    ap (λ (k : ℕ). codes " opt(" ++ decimal k ++ codes ")") (sym same)
    ∙ rw (none 1 (omega arith), none 2 (omega arith), none 3 (omega arith), none 4 (omega arith), none 5 (omega arith), no_stamp) refl

-- ---- the text of a segment

-- the text of a segment with valid lengths
pub packet_text-some : (bytes : List ℕ) → HasLengths bytes
    → packet_text bytes ≡ ports_text (field bytes 0 16) (field bytes 16 16) ++ (flags_text bytes ++ (fields_text bytes ++ options_text (options_of bytes)))
unfolding packet_text
packet_text-some bytes h = grind arith

-- the text of bytes with invalid lengths
pub packet_text-none : (bytes : List ℕ) → ¬ HasLengths bytes → packet_text bytes ≡ codes "TCP (wire::Error)"
unfolding packet_text
packet_text-none bytes h =
    let short = false_from_ne_true (has_lengths bytes) (λ e. h ((has_lengths-Decides bytes).0 e)) in
    rw short refl
