-- The text of an IPv6 address, and the rule that it meets.
use Rattle.std.proofs.Common.{◌≡◌, ◌≢◌, ◌≤◌, ◌⊎◌, ℕ, ◌<◌, Bool, true, false, List, ◌++◌, take, drop, bytes_eq, refl, sym, ap, ap₂, ◌∙◌, arith, Decides, take-append-drop, inl, inr, lt-ltb, le-ltb}
use Rattle.std.specs.Bool.{then_some}
use Rattle.std.specs.Prelude.{codes, MatchOption}
use Rattle.std.proofs.lemmas.Bool.{cases_lt, false≢true}
use Rattle.std.proofs.lemmas.Slice.Eq.{bytes_eq-Decides}
use Rattle.std.specs.Net.Text.{longest_zero_run}
use Rattle.std.proofs.NetLemmas.Texts.{IsZeroRun-longest_zero_run, longest_zero_run_first}
use Rattle.wire_addr.specs.Bytes.{groups_of, mapped_prefix}
use Rattle.wire_addr.specs.Printed.{dotted, groups_text, shortened_text, IsZeroRun, ipv6_text, IsShortenedRun, IsGroupsPrint, IsIpv6Print}

-- lists of numbers are equal or not
either : (xs ys : List ℕ) → (xs ≡ ys) ⊎ (xs ≢ ys)
either xs ys = by_test (bytes_eq xs ys) (bytes_eq-Decides xs ys)
  where
    by_test : (test : Bool) → Decides test (xs ≡ ys) → (xs ≡ ys) ⊎ (xs ≢ ys)
    by_test true is = inl (is.0 refl)
    by_test false is = inr (λ same. false≢true (is.1 same))

-- the text of an IPv4-mapped address, and of any other
pub ipv6_text_mapped : (octets ipv4 : List ℕ) → octets ≡ mapped_prefix ++ ipv4 → ipv6_text octets ≡ codes "::ffff:" ++ dotted ipv4
unfolding ipv6_text
ipv6_text_mapped octets ipv4 is = rw is refl

-- the text of an address that is not IPv4-mapped
pub ipv6_text_other : (octets : List ℕ) → take 12 octets ≢ mapped_prefix → ipv6_text octets ≡ groups_text (groups_of octets)
unfolding ipv6_text
ipv6_text_other octets apart = grind arith

-- the bytes after the prefix, if the address has it
pub mapped_then_some : (octets ipv4 : List ℕ) (test : Bool) → Decides test (take 12 octets ≡ mapped_prefix) → drop 12 octets ≡ ipv4
    → MatchOption (then_some test ipv4) (take 12 octets ≢ mapped_prefix) (λ following. octets ≡ mapped_prefix ++ following)
mapped_then_some octets ipv4 test is following = grind arith

-- ---- the text meets the rule

IsShortenedRun-longest : (groups : List ℕ) → 1 < (longest_zero_run groups).1 → IsShortenedRun groups (longest_zero_run groups).0 (longest_zero_run groups).1
IsShortenedRun-longest groups long = record {
  zeros = IsZeroRun-longest_zero_run groups;
  several = omega arith;
  longest = λ s l run. (longest_zero_run_first groups s l run).0;
  first = λ s run. (longest_zero_run_first groups s (longest_zero_run groups).1 run).1 refl;
}

IsGroupsPrint-groups_text : (groups : List ℕ) → IsGroupsPrint groups (groups_text groups)
IsGroupsPrint-groups_text groups =
    let run = longest_zero_run groups in
    elim (cases_lt 1 run.1) [
      | inl long ↦ rw (lt-ltb 1 run.1 long) (inl (run.0, run.1, IsShortenedRun-longest groups long, refl))
      | inr short ↦ rw (le-ltb 1 run.1 short) (inr ((λ s l zeros. omega (arith, (longest_zero_run_first groups s l zeros).0)), refl))
    ]

-- the computed text follows the rules for printing an address
pub IsIpv6Print_ipv6_text : (octets : List ℕ) → IsIpv6Print octets (ipv6_text octets)
IsIpv6Print_ipv6_text octets = record {
  mapped = ipv6_text_mapped octets;
  other = λ apart. rw (ipv6_text_other octets apart) (IsGroupsPrint-groups_text (groups_of octets));
}

-- ---- no other text meets the rule

is_groups_text : (groups text : List ℕ) → IsGroupsPrint groups text → text ≡ groups_text groups
is_groups_text groups text (inl (start, len, run, is)) =
    let most = longest_zero_run groups in
    let least = longest_zero_run_first groups start len run.zeros in
    let same_len : len ≡ most.1 = omega (arith, least.0, run.longest most.0 most.1 (IsZeroRun-longest_zero_run groups)) in
    let zeros : IsZeroRun groups most.0 len = rw same_len (IsZeroRun-longest_zero_run groups) in
    let same_start : start ≡ most.0 = omega (arith, least.1 same_len, run.first most.0 zeros) in
    let long : 1 < most.1 = omega (arith, run.several) in
    rw (lt-ltb 1 most.1 long) (is ∙ ap₂ (shortened_text groups) same_start same_len)
is_groups_text groups text (inr (none, is)) =
    let short : (longest_zero_run groups).1 ≤ 1 = omega (arith, none (longest_zero_run groups).0 (longest_zero_run groups).1 (IsZeroRun-longest_zero_run groups)) in
    rw (le-ltb 1 (longest_zero_run groups).1 short) is

-- any text that follows these rules is the computed one
pub is_ipv6_text : (octets text : List ℕ) → IsIpv6Print octets text → text ≡ ipv6_text octets
is_ipv6_text octets text rule = elim (either (take 12 octets) mapped_prefix) [
  | inl same ↦
      let whole : octets ≡ mapped_prefix ++ drop 12 octets = sym (take-append-drop 12 octets) ∙ ap (λ prefix. prefix ++ drop 12 octets) same in
      rule.mapped (drop 12 octets) whole ∙ sym (ipv6_text_mapped octets (drop 12 octets) whole)
  | inr apart ↦ is_groups_text (groups_of octets) text (rule.other apart) ∙ sym (ipv6_text_other octets apart)
]
