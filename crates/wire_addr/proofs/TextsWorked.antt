-- Texts that the grammar does not contain.
use Rattle.std.proofs.Common.{◌≡◌, ℕ, Bool, true, false, ◌&&◌, List, [], ◌∷◌, Option, Some, All, codes, is_none, ap, sym, ◌∙◌, inl, inr, lit≤, refl}
use Rattle.std.proofs.lemmas.Bool.{and_parts}
use Rattle.std.proofs.lemmas.List.Elements.{All-weaker}
use Rattle.std.proofs.lemmas.List.Sums.{AllPass-from_list_all}
use Rattle.std.specs.List.{list_all}
use Rattle.wire_addr.specs.Grammar.{IsDotted, IsHexBytes, IsHexText, IsIpv6Text}
use Rattle.wire_addr.specs.Reading.{number_of, dotted_read, hex_bytes_read, mapped_read, groups_from, groups_read}
use Rattle.wire_addr.proofs.Joined.{dotted_complete, hex_bytes_complete}
use Rattle.wire_addr.proofs.Ipv6.{groups_complete}

abbrev HasNoValue : (List ℕ → List ℕ → Type 0) → List ℕ → Type 0
HasNoValue R text = (value : List ℕ) → ¬ (R text value)

no_value : (R : List ℕ → List ℕ → Type 0) (read : List ℕ → Option (List ℕ)) → ((text value : List ℕ) → R text value → read text ≡ Some value)
    → (text : List ℕ) → is_none (read text) ≡ true → HasNoValue R text
no_value R read complete text e value h = let some : true ≡ false = sym e ∙ ap is_none (complete text value h) in absurd (cc)

each : (R : List ℕ → List ℕ → Type 0) (fails : List ℕ → Bool) → ((text : List ℕ) → fails text ≡ true → HasNoValue R text)
    → (texts : List (List ℕ)) → list_all fails texts ≡ true → All (HasNoValue R) texts
each R fails none texts e = All-weaker (λ text. fails text ≡ true) (HasNoValue R) none texts (AllPass-from_list_all fails texts e)

abbrev ipv6_texts : List (List ℕ)
ipv6_texts =
    codes "" ∷ codes ":" ∷ codes "x" ∷ codes ":1::" ∷ codes "1:::2" ∷ codes "1::2::3" ∷ codes "fe80::1%eth0"
    -- too few and too many groups, and no room for `::`
    ∷ codes "1:2:3:4:5:6:7" ∷ codes "1:2:3:4:5:6:7:8:" ∷ codes "1:2:3:4:5:6:7:8:9" ∷ codes "1:2:3::4:5:6:7:8"
    -- groups of five digits
    ∷ codes "10000::" ∷ codes "12345::" ∷ codes "00001::" ∷ codes "::0ffff"
    -- a dotted part after other groups, after five zeros and before a group
    ∷ codes "::1.2.3.4" ∷ codes "::ffff:0:1.2.3.4" ∷ codes "0:0:0:0:0::ffff:1.2.3.4" ∷ codes "::ffff:1.2.3.4:5" ∷ []

no-ipv6 : All (HasNoValue IsIpv6Text) ipv6_texts
unfolding number_of dotted_read mapped_read groups_from groups_read
no-ipv6 = each IsIpv6Text (λ text. is_none (groups_read text)) (no_value IsIpv6Text groups_read groups_complete) ipv6_texts refl

abbrev ipv4_texts : List (List ℕ)
ipv4_texts =
    codes "" ∷ codes "1.2.3" ∷ codes "1.2.3.4.5" ∷ codes "1.2.3.4." ∷ codes "1..3.4" ∷ codes " 1.2.3.4"
    -- a byte of four digits, and one above 255
    ∷ codes "0001.2.3.4" ∷ codes "256.0.0.0" ∷ []

no-ipv4 : All (HasNoValue IsDotted) ipv4_texts
unfolding number_of dotted_read
no-ipv4 = each IsDotted (λ text. is_none (dotted_read text)) (no_value IsDotted dotted_read dotted_complete) ipv4_texts refl

abbrev ethernet_texts : List (List ℕ)
ethernet_texts =
    codes "" ∷ codes "02:00:00:00:00" ∷ codes "02:00-00:00:00:00" ∷ codes "02:00:00:00:00:0x"
    -- groups of three digits
    ∷ codes "02:00:00:00:00:000" ∷ codes "100:00:00:00:00:00" ∷ []

no_hex : (text : List ℕ) → (is_none (hex_bytes_read 45 text) && is_none (hex_bytes_read 58 text)) ≡ true → HasNoValue IsHexText text
no_hex text e octets (inl h) = no_value (IsHexBytes 45) (hex_bytes_read 45) (λ text octets. hex_bytes_complete 45 text octets (lit≤ tt)) text (and_parts _ _ e).0 octets h
no_hex text e octets (inr h) = no_value (IsHexBytes 58) (hex_bytes_read 58) (λ text octets. hex_bytes_complete 58 text octets (lit≤ tt)) text (and_parts _ _ e).1 octets h

no-ethernet : All (HasNoValue IsHexText) ethernet_texts
unfolding number_of hex_bytes_read
no-ethernet = each IsHexText (λ text. is_none (hex_bytes_read 45 text) && is_none (hex_bytes_read 58 text)) no_hex ethernet_texts refl
