-- A printed address parses as that address.
use Rattle.std.proofs.Common.{◌≡◌, ℕ, zero, suc, ◌+◌, ◌-◌, ◌*◌, ◌/◌, ◌%◌, ◌^◌, ◌<◌, ◌≤◌, ◌==◌, true, false, List, [], ◌∷◌, ◌++◌, length, get_or, take, drop, map, flat_map, decimal, bytes_eq, refl, sym, ap, ◌∙◌, arith, inl, inr, lt-ltb, le-ltb, take-add, take-append-drop, length-take-le, length-drop, eq-eqb, append-nil}
use Rattle.std.proofs.lemmas.Bool.{cases_lt, cond_both}
use Rattle.std.proofs.lemmas.Slice.Eq.{bytes_eq-Decides}
use Rattle.std.proofs.lemmas.Fmt.{decimal_is_IsNumeral, length-decimal-le, digits_is_IsNumeral}
use Rattle.std.proofs.Math.Nat.{pow-suc}
use Rattle.std.proofs.lemmas.List.{get_or-drop}
use Rattle.std.specs.Fmt.{digits, digits_onto, digit_glyph}
use Rattle.std.specs.List.{join_with_byte}
use Rattle.std.specs.Net.Text.{longest_zero_run}
use Rattle.std.proofs.NetLemmas.Texts.{AllSegments, AllSegments-take, AllSegments-drop, IsZeroRun-longest_zero_run}
use Rattle.wire_addr.specs.Bytes.{IsByteArray, address_bytes, mapped_prefix}
use Rattle.wire_addr.specs.Printed.{dotted, dashed, hex_byte, hex, colon_hex, groups_text, ipv6_text}
use Rattle.wire_addr.specs.Read.{ReadsIpv6}
use Rattle.wire_addr.specs.Grammar.{EachReads, IsNumber, IsDecimalByte, IsDotted, IsHexBytes, IsGroup, AreGroupsText, IsElidedMappedText, IsIpv6Text, groups_of, mapped_groups}
use Rattle.std.proofs.lemmas.Grind.{common_steps}
use Rattle.std.proofs.lemmas.Bool.Decides.{nat_tests}

-- ---- bytes and groups

pub address_bytes-groups_of : (n : ℕ) (octets : List ℕ) → length octets ≡ 2 * n → ((k : ℕ) → get_or octets k 0 < 2 ^ 8) → address_bytes (groups_of octets) ≡ octets
address_bytes-groups_of n [] even small = refl
address_bytes-groups_of n (a ∷ []) even small = absurd (omega arith)
address_bytes-groups_of n (a ∷ b ∷ octets) even small =
    let low = small 1 in
    let first : (a * 256 + b) / 256 ≡ a = omega arith in
    let second : (a * 256 + b) % 256 ≡ b = omega arith in
    λ i. first i ∷ second i ∷ address_bytes-groups_of (n - 1) octets (omega arith) (λ k. small (suc (suc k))) i

length-groups_of : (n : ℕ) (octets : List ℕ) → length octets ≡ 2 * n → length (groups_of octets) ≡ n
length-groups_of n [] even = omega arith
length-groups_of n (a ∷ []) even = absurd (omega arith)
length-groups_of n (a ∷ b ∷ octets) even = omega (arith, length-groups_of (n - 1) octets (omega arith))

groups_fit : (octets : List ℕ) → ((k : ℕ) → get_or octets k 0 < 2 ^ 8) → (k : ℕ) → get_or (groups_of octets) k 0 < 2 ^ 16
groups_fit [] small k = omega arith
groups_fit (a ∷ []) small k = omega arith
groups_fit (a ∷ b ∷ octets) small k =
    let high = small 0 in
    let low = small 1 in
    let later = groups_fit octets (λ j. small (suc (suc j))) in
    elim k as (λ j. get_or ((a * 256 + b) ∷ groups_of octets) j 0 < 2 ^ 16) [ zero ↦ omega arith | suc j ↦ later j ]

-- ---- IPv4 and Ethernet

IsDecimalByte-decimal : (n : ℕ) → n < 2 ^ 8 → IsDecimalByte (decimal n) n
IsDecimalByte-decimal n fits =
    let (digits, value) = decimal_is_IsNumeral n (omega arith) in
    record { digits = digits; places_fit = length-decimal-le 3 n (omega arith) (omega arith) (omega arith); value = value; fits = omega arith }

dotted_each : (octets : List ℕ) → ((k : ℕ) → get_or octets k 0 < 2 ^ 8) → EachReads IsDecimalByte (map decimal octets) octets
dotted_each [] h = tt
dotted_each (n ∷ octets) h = (IsDecimalByte-decimal n (h 0), dotted_each octets (λ k. h (suc k)))

-- a printed IPv4 address parses as that address
pub IsDotted_dotted : (octets : List ℕ) → IsByteArray 4 octets → IsDotted (dotted octets) octets
IsDotted_dotted octets h = (record { pieces = map decimal octets; joined = refl; each = dotted_each octets h.1 }, h.0)

IsNumber-hex_byte : (n : ℕ) → n < 2 ^ 8 → IsNumber 16 2 255 (hex_byte n) n
IsNumber-hex_byte n fits = grind (arith, common_steps, nat_tests)

hex_bytes_each : (octets : List ℕ) → ((k : ℕ) → get_or octets k 0 < 2 ^ 8) → EachReads (IsNumber 16 2 255) (map hex_byte octets) octets
hex_bytes_each [] h = tt
hex_bytes_each (n ∷ octets) h = (IsNumber-hex_byte n (h 0), hex_bytes_each octets (λ k. h (suc k)))

-- a printed Ethernet address parses as that address
pub IsHexBytes-dashed : (octets : List ℕ) → IsByteArray 6 octets → IsHexBytes 45 (dashed octets) octets
IsHexBytes-dashed octets h = (record { pieces = map hex_byte octets; joined = refl; each = hex_bytes_each octets h.1 }, h.0)

-- ---- IPv6

-- a number below 16 ^ (k + 1) has at most k + 1 hex digits
length-digits_onto : (k f n : ℕ) (digits_after : List ℕ) → n < 16 ^ suc k → length (digits_onto f 16 false n digits_after) ≤ suc k + length digits_after
length-digits_onto k zero n digits_after h = omega arith
length-digits_onto zero (suc f) n digits_after h =
    let none : n / 16 ≡ 0 = omega (arith, pow-suc 16 0) in
    rw (eq-eqb (n / 16) 0 none) (omega arith)
length-digits_onto (suc k) (suc f) n digits_after h =
    let front : n / 16 < 16 ^ suc k = omega (arith, pow-suc 16 (suc k)) in
    let later = length-digits_onto k f (n / 16) (digit_glyph false (n % 16) ∷ digits_after) front in
    cond_both (n / 16 == 0) _ _ (λ ds. length ds ≤ suc (suc k) + length digits_after) (λ _. omega arith) (λ _. omega (arith, later))

IsGroup-hex : (n : ℕ) → n < 2 ^ 16 → IsGroup (hex n) n
unfolding digits
IsGroup-hex n fits =
    let (digits, value) = digits_is_IsNumeral 16 false (omega arith) (omega arith) n (omega arith) in
    record { digits = digits; places_fit = length-digits_onto 3 64 n [] (omega arith); value = value; fits = omega arith }

groups_each : (groups : List ℕ) → AllSegments groups → EachReads IsGroup (map hex groups) groups
groups_each [] h = tt
groups_each (g ∷ groups) h = (IsGroup-hex g (h 0), groups_each groups (λ k. h (suc k)))

more_joined : (first : List ℕ) (groups : List ℕ) → first ++ flat_map (λ h. 58 ∷ hex h) groups ≡ join_with_byte 58 (first ∷ map hex groups)
more_joined first [] = append-nil first
more_joined first (g ∷ groups) = ap (λ t. first ++ 58 ∷ t) (more_joined (hex g) groups)

AreGroupsText-colon_hex : (groups : List ℕ) → AllSegments groups → AreGroupsText (colon_hex groups) groups
AreGroupsText-colon_hex [] h = record { pieces = []; joined = refl; each = tt }
AreGroupsText-colon_hex (g ∷ groups) h = record { pieces = map hex (g ∷ groups); joined = more_joined (hex g) groups; each = groups_each (g ∷ groups) h }

IsIpv6Text-groups_text : (groups : List ℕ) → length groups ≡ 8 → AllSegments groups → IsIpv6Text (groups_text groups) groups
IsIpv6Text-groups_text groups eight fit =
    let start = (longest_zero_run groups).0 in
    let len = (longest_zero_run groups).1 in
    let (within, zeros) = IsZeroRun-longest_zero_run groups in
    let front = length-take-le start groups (omega arith) in
    let back = length-drop (start + len) groups in
    let gap : 8 - length (take start groups) - length (drop (start + len) groups) ≡ len = omega arith in
    elim (cases_lt 1 len) [
      | inl long ↦ rw (lt-ltb 1 len long) (inr (inl (record {
        head_text = _;
        tail_text = _;
        head = take start groups;
        tail = drop (start + len) groups;
        spelled = refl;
        head_groups = AreGroupsText-colon_hex (take start groups) (AllSegments-take start groups fit);
        tail_groups = AreGroupsText-colon_hex (drop (start + len) groups) (AllSegments-drop (start + len) groups fit);
        room = omega arith;
        value = rw (gap, ← zeros, ← take-add start len groups) (sym (take-append-drop (start + len) groups));
      })))
      | inr short ↦ rw (le-ltb 1 len short) (inl (AreGroupsText-colon_hex groups fit, eight))
    ]

-- `::ffff:` and a dotted part: no group before `::`
IsElidedMappedText-printed : (octets : List ℕ) → IsByteArray 4 octets → IsElidedMappedText ((58 ∷ 58 ∷ 102 ∷ 102 ∷ 102 ∷ 102 ∷ 58 ∷ []) ++ dotted octets) (mapped_groups ++ groups_of octets)
IsElidedMappedText-printed octets h = record {
  head_text = [];
  mark_text = 102 ∷ 102 ∷ 102 ∷ 102 ∷ [];
  dotted_text = dotted octets;
  zeros = 0;
  octets = octets;
  spelled = refl;
  head = record { pieces = []; joined = refl; each = tt };
  few = omega arith;
  mark = record { digits = omega arith; places_fit = omega arith; value = refl; fits = omega arith };
  last = IsDotted_dotted octets h;
  value = refl;
}

-- a printed IPv6 address parses as that address
pub ReadsIpv6_ipv6_text : (octets : List ℕ) → IsByteArray 16 octets → ReadsIpv6 (ipv6_text octets) octets
unfolding ipv6_text
ReadsIpv6_ipv6_text octets h = cond_both (bytes_eq (take 12 octets) mapped_prefix) _ _ (λ text. ReadsIpv6 text octets) mapped (λ _. plain)
  where
    mapped : bytes_eq (take 12 octets) mapped_prefix ≡ true → ReadsIpv6 ((58 ∷ 58 ∷ 102 ∷ 102 ∷ 102 ∷ 102 ∷ 58 ∷ []) ++ dotted (drop 12 octets)) octets
    mapped same =
        let last : IsByteArray 4 (drop 12 octets) = (omega (arith, length-drop 12 octets, h.0), λ k. rw (get_or-drop 12 octets k 0) (h.1 (12 + k))) in
        let whole : octets ≡ mapped_prefix ++ drop 12 octets = sym (take-append-drop 12 octets) ∙ ap (λ t. t ++ drop 12 octets) ((bytes_eq-Decides (take 12 octets) mapped_prefix).0 same) in (
          mapped_groups ++ groups_of (drop 12 octets),
          inr (inr (inr (IsElidedMappedText-printed (drop 12 octets) last))),
          whole ∙ ap (λ t. mapped_prefix ++ t) (sym (address_bytes-groups_of 2 (drop 12 octets) last.0 last.1)),
        )

    plain : ReadsIpv6 (groups_text (groups_of octets)) octets
    plain = (groups_of octets, IsIpv6Text-groups_text (groups_of octets) (length-groups_of 8 octets h.0) (groups_fit octets h.1), sym (address_bytes-groups_of 8 octets h.0 h.1))
