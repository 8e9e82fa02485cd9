-- A field that is written twice: the first write does not count.
use Rattle.std.proofs.Common.{ℕ, ◌≡◌, ◌≤◌, ◌<◌, ◌+◌, ◌*◌, ◌/◌, ◌%◌, ◌^◌, List, ◌++◌, length, take, drop, refl, ap, ◌∙◌, arith, length-append}
use Rattle.std.proofs.lemmas.List.{length-take-le, take-append-le, take_all}
use Rattle.std.proofs.lemmas.Nat.{mod_low, pow_pos, pow-add, shr_high}
use Rattle.std.proofs.Math.Nat.{add_assoc, mod-lt}
use Rattle.byteorder.specs.Endian.{big_bytes}
use Rattle.byteorder.specs.Numbers.{length-bytes_high_first}
use Rattle.net_base.specs.Field.{bits_after, span, with_field, with_part, word_at}
use Rattle.net_base.proofs.Part.{part_below, regrouped}
use Rattle.net_base.proofs.Spelled.{AreBytes}
use Rattle.net_base.proofs.Written.{word-with_field}
use Rattle.std.proofs.lemmas.Grind.{common_steps}
use Rattle.std.proofs.lemmas.Bool.Decides.{nat_tests}

-- a part that is written over a part
with_part-twice : (n low width x y : ℕ) → with_part (with_part n low width y) low width x ≡ with_part n low width x
with_part-twice n low width x y =
    let hi = n / 2 ^ (low + width) in
    let part = y % 2 ^ width in
    let lo = n % 2 ^ low in
    let above : with_part n low width y / 2 ^ (low + width) ≡ hi =
    ap (λ (m : ℕ). m / 2 ^ (low + width)) (add_assoc (hi * 2 ^ (low + width)) (part * 2 ^ low) lo) ∙ shr_high hi (low + width) (part * 2 ^ low + lo) (part_below n low width y) in
    let below : with_part n low width y % 2 ^ low ≡ lo =
    ap (λ (m : ℕ). (m + lo) % 2 ^ low) (regrouped hi part (2 ^ low) (2 ^ width) (2 ^ (low + width)) (pow-add 2 low width))
    ∙ mod_low (hi * 2 ^ width + part) low lo (mod-lt n (pow_pos low)) in
    rw (above, below) refl

-- what precedes and what follows a written part
before : (bytes part : List ℕ) (a e : ℕ) → a ≤ length bytes → take a ((take a bytes ++ part) ++ drop e bytes) ≡ take a bytes
before bytes part a e room =
    let long = length-take-le a bytes room in
    let both = length-append (take a bytes) part in
    take-append-le a (take a bytes ++ part) (drop e bytes) (omega (arith, both, long)) ∙ take-append-le a (take a bytes) part (omega (arith, long)) ∙ take_all a (take a bytes) (omega (arith, long))

after : (bytes part : List ℕ) (a e : ℕ) → a ≤ length bytes → e ≡ a + length part → drop e ((take a bytes ++ part) ++ drop e bytes) ≡ drop e bytes
after bytes part a e room is = grind (arith, common_steps, nat_tests)

-- the last of two writes counts
pub with_field_twice : (bytes : List ℕ) (first width x y : ℕ) → AreBytes bytes → 0 < width → first + width ≤ 8 * length bytes
    → with_field (with_field bytes first width y) first width x ≡ with_field bytes first width x
with_field_twice bytes first width x y are some fits =
    let a = first / 8 in
    let s = span first width in
    let part = big_bytes (span first width) (with_part (word_at bytes first width) (bits_after first width) width y) in
    let size = length-bytes_high_first (span first width) (with_part (word_at bytes first width) (bits_after first width) width y) in
    let front = before bytes part (first / 8) (first / 8 + span first width) (omega arith) in
    let back = after bytes part (first / 8) (first / 8 + span first width) (omega arith) (omega (arith, size)) in
    let word = word-with_field bytes first width y are some fits in
    let last = with_part-twice (word_at bytes first width) (bits_after first width) width x y in
    rw (word, last, front, back) refl
