-- The texts that an ARP packet prints as.
use Rattle.std.proofs.Common.{ℕ, ◌≡◌, true, List, Option, [], ◌∷◌, ◌++◌, Some, None, codes, decimal, flat_map, refl, arith}
use Rattle.std.proofs.lemmas.Bool.{cases_Bool}
use Rattle.std.proofs.lemmas.Bool.Decides.{nat_tests}
use Rattle.std.specs.Fmt.{debug_items, debug_list, comma_space}
use Rattle.wire_arp.specs.Arp.{HasLengths, arp_of}
use Rattle.wire_arp.specs.ArpText.{fields_text, has_lengths, list_text, packet_text, value_text}
use Rattle.wire_arp.specs.declared.arp.repr.ArpRepr.{ArpRepr}
use Rattle.std.proofs.lemmas.Grind.{common_steps}

-- ---- lists of bytes

-- what a format writes for a byte
abbrev pub byte_text : ℕ → Option (List ℕ)
byte_text n = Some (decimal n)

debug_items-bytes : (octets : List ℕ) → debug_items byte_text comma_space octets ≡ Some (flat_map (λ n. codes ", " ++ decimal n) octets)
debug_items-bytes [] = refl
debug_items-bytes (n ∷ octets) = rw (debug_items-bytes octets) refl

-- what it writes for all of them
pub debug_list_of_bytes : (octets : List ℕ) → debug_list byte_text octets ≡ Some (list_text octets)
debug_list_of_bytes [] = refl
debug_list_of_bytes (n ∷ octets) = rw (debug_items-bytes octets) refl

-- ---- the text of a packet

-- the test says what it is named for
HasLengths-has_lengths : (bytes : List ℕ) → HasLengths bytes → has_lengths bytes ≡ true
HasLengths-has_lengths bytes h = let least = h.least in let whole = h.whole in grind (arith, nat_tests)

has_lengths-HasLengths : (bytes : List ℕ) → has_lengths bytes ≡ true → HasLengths bytes
has_lengths-HasLengths bytes h = record { least = grind (arith, nat_tests); whole = grind (arith, nat_tests) }

-- the text of a packet, by what it is read as
pub packet_text-Some : (bytes : List ℕ) (v : ArpRepr) → arp_of bytes ≡ Some v → packet_text bytes ≡ value_text v
unfolding packet_text
packet_text-Some bytes v e = rw e refl

pub packet_text-None : (bytes : List ℕ) → arp_of bytes ≡ None → HasLengths bytes → packet_text bytes ≡ fields_text bytes
unfolding packet_text
packet_text-None bytes e h = rw (e, HasLengths-has_lengths bytes h) refl

pub packet_text-invalid : (bytes : List ℕ) → arp_of bytes ≡ None → ¬ HasLengths bytes → packet_text bytes ≡ codes "ARP (wire::Error)"
unfolding packet_text
packet_text-invalid bytes e h = grind (arith, common_steps, nat_tests, cases_Bool, has_lengths-HasLengths)
