-- Prefixes and blocks, by the big-endian numbers of the bytes.
use Rattle.std.proofs.Common.{◌≡◌, ◌↔◌, ℕ, suc, ◌+◌, ◌-◌, ◌*◌, ◌/◌, ◌%◌, ◌^◌, ◌<◌, ◌≤◌, inl, inr, Bool, true, false, IsTrue, Decides, List, nat_eq, nat_le, bit_and, bit_or, arith, refl, sym, ◌∙◌, ap}
use Rattle.std.specs.Int.{bit_at, bytes_high_first}
use Rattle.std.specs.Int.Count.{count_leading_zeros, leading_unique}
use Rattle.std.proofs.Math.Nat.{lt-div-mul-add, mod-eq_of_lt}
use Rattle.std.proofs.Math.Pow.{pow_mono}
use Rattle.std.proofs.lemmas.Bool.{cases_lt, eq-eqb, eqb-true, false≢true, le-leb, leb-true}
use Rattle.std.proofs.lemmas.Bool.Decides.{Decides-eqb}
use Rattle.std.proofs.lemmas.Option.{none-some, same_Some}
use Rattle.std.specs.Bool.{then_some}
use Rattle.std.specs.Prelude.{Some}
use Rattle.std.proofs.lemmas.List.{get_or_past}
use Rattle.std.proofs.lemmas.Nat.{leading_le, mul-add-lt, or_shifted, pow_pos, pow-add, shr-shr, shr_below, shr_high, shr_split, shl-shr}
use Rattle.std.proofs.lemmas.Nat.Bits.{and_high_mask, bit_at_cat_low, bit_at_mask_below, bit_at_mask_inside, bit_at_ones, bit_at-zero, same_from_bits_below}
use Rattle.wire_addr.specs.Bytes.{IsByteArray}
use Rattle.wire_addr.specs.Prefix.{AgreeFirst, IsMasked, IsNetmask, bit_of, number_of}
use Rattle.wire_addr.specs.Block.{IsWithin, IsLeast, IsGreatest}
use Rattle.wire_addr.proofs.Numbers.{IsByteArray-bytes, bit_at-number_of, number_of_bytes, number_of-lt}
use Rattle.std.proofs.lemmas.Grind.{common_steps}
use Rattle.std.proofs.lemmas.Bool.Decides.{nat_tests}

-- ---- the first n bits agree exactly if the numbers without their lowest s bits are equal

-- shifting right removes the lowest bits
bit_at-shifted : (x s i : ℕ) → bit_at (x / 2 ^ s) i ≡ bit_at x (s + i)
bit_at-shifted x s i = ap (λ v. v % 2) (shr-shr x s i)

-- two numbers that are equal above bit s agree in each bit from s on
agree_from_shifted : (s x y i : ℕ) → x / 2 ^ s ≡ y / 2 ^ s → s ≤ i → bit_at x i ≡ bit_at y i
agree_from_shifted s x y i same above =
    let e : i ≡ s + (i - s) = omega arith in
    ap (λ p. bit_at x p) e ∙ sym (bit_at-shifted x s (i - s)) ∙ ap (λ v. bit_at v (i - s)) same
    ∙ bit_at-shifted y s (i - s) ∙ sym (ap (λ p. bit_at y p) e)

-- the converse
shifted_from_agree : (n s x y : ℕ) → x < 2 ^ (n + s) → y < 2 ^ (n + s)
    → ((i : ℕ) → s ≤ i → i < n + s → bit_at x i ≡ bit_at y i)
    → x / 2 ^ s ≡ y / 2 ^ s
shifted_from_agree n s x y x_fits y_fits agree =
    same_from_bits_below n (x / 2 ^ s) (y / 2 ^ s) (shr_below x n s x_fits) (shr_below y n s y_fits)
    (λ i h. bit_at-shifted x s i ∙ agree (s + i) (omega arith) (omega arith) ∙ sym (bit_at-shifted y s i))

agree_from_numbers : (m n s : ℕ) (xs ys : List ℕ) → IsByteArray m xs → IsByteArray m ys → n + s ≡ 8 * m
    → number_of xs / 2 ^ s ≡ number_of ys / 2 ^ s → AgreeFirst n xs ys
agree_from_numbers m n s xs ys are_xs are_ys e same k lt =
    let place : suc (k + (8 * m - 1 - k)) ≡ 8 * m = omega arith in
    sym (bit_at-number_of m k (8 * m - 1 - k) xs are_xs place)
    ∙ agree_from_shifted s (number_of xs) (number_of ys) (8 * m - 1 - k) same (omega arith)
    ∙ bit_at-number_of m k (8 * m - 1 - k) ys are_ys place

pub numbers_from_agree : (m n s : ℕ) (xs ys : List ℕ) → IsByteArray m xs → IsByteArray m ys → n + s ≡ 8 * m
    → AgreeFirst n xs ys → number_of xs / 2 ^ s ≡ number_of ys / 2 ^ s
numbers_from_agree m n s xs ys are_xs are_ys e agree =
    shifted_from_agree n s (number_of xs) (number_of ys)
    (rw e (number_of-lt m xs are_xs)) (rw e (number_of-lt m ys are_ys))
    (λ i above below.
    let place : suc ((8 * m - 1 - i) + i) ≡ 8 * m = omega arith in
    bit_at-number_of m (8 * m - 1 - i) i xs are_xs place ∙ agree (8 * m - 1 - i) (omega arith)
    ∙ sym (bit_at-number_of m (8 * m - 1 - i) i ys are_ys place))

-- a bit past the last byte is a zero
pub bits_past : (m : ℕ) (xs : List ℕ) (k : ℕ) → IsByteArray m xs → 8 * m ≤ k → bit_of xs k ≡ 0
bits_past m xs k are past =
    rw (get_or_past xs (k / 8) 0 (omega (arith, are.0))) (bit_at-zero (7 - k % 8))

-- ---- masks

pub IsMasked-number : (m n s : ℕ) (xs ys : List ℕ) → IsByteArray m xs → IsByteArray m ys → n + s ≡ 8 * m
    → number_of ys ≡ number_of xs / 2 ^ s * 2 ^ s → IsMasked n xs ys
IsMasked-number m n s xs ys are_xs are_ys e is = record {
  kept = agree_from_numbers m n s xs ys are_xs are_ys e (sym (ap (λ v. v / 2 ^ s) is ∙ shl-shr (number_of xs / 2 ^ s) s));
  zeros = λ k from. elim (cases_lt k (8 * m)) [
    | inl inside ↦
        let place : suc (k + (8 * m - 1 - k)) ≡ 8 * m = omega arith in
        let whole : number_of ys ≡ number_of xs / 2 ^ s * 2 ^ s + 0 = omega (arith, is) in
        sym (bit_at-number_of m k (8 * m - 1 - k) ys are_ys place)
        ∙ ap (λ v. bit_at v (8 * m - 1 - k)) whole
        ∙ bit_at_cat_low (number_of xs / 2 ^ s) s 0 (8 * m - 1 - k) (omega arith)
        ∙ bit_at-zero (8 * m - 1 - k)
    | inr past ↦ bits_past m ys k are_ys past
  ];
}

-- bytes whose number is a mask are a netmask
pub IsNetmask_number : (m n s : ℕ) (xs : List ℕ) → IsByteArray m xs → n + s ≡ 8 * m → number_of xs ≡ 2 ^ (8 * m) - 2 ^ s
    → IsNetmask n xs
IsNetmask_number m n s xs are e is = record {
  ones = λ k before.
      let place : suc (k + (8 * m - 1 - k)) ≡ 8 * m = omega arith in
      sym (bit_at-number_of m k (8 * m - 1 - k) xs are place) ∙ ap (λ v. bit_at v (8 * m - 1 - k)) is
      ∙ bit_at_mask_inside s (8 * m) (8 * m - 1 - k) (omega arith) (omega arith);
  zeros = λ k from. elim (cases_lt k (8 * m)) [
    | inl inside ↦
        let place : suc (k + (8 * m - 1 - k)) ≡ 8 * m = omega arith in
        sym (bit_at-number_of m k (8 * m - 1 - k) xs are place) ∙ ap (λ v. bit_at v (8 * m - 1 - k)) is
        ∙ bit_at_mask_below s (8 * m) (8 * m - 1 - k) (omega arith)
    | inr past ↦ bits_past m xs k are past
  ];
}

-- a netmask has no more ones than bits
pub IsNetmask-within : (m n : ℕ) (xs : List ℕ) → IsByteArray m xs → IsNetmask n xs → n ≤ 8 * m
IsNetmask-within m n xs are is = grind (arith, common_steps, nat_tests)

pub number-IsNetmask : (m n s : ℕ) (xs : List ℕ) → IsByteArray m xs → n + s ≡ 8 * m → IsNetmask n xs
    → number_of xs ≡ 2 ^ (8 * m) - 2 ^ s
number-IsNetmask m n s xs are e is =
    same_from_bits_below (8 * m) (number_of xs) (2 ^ (8 * m) - 2 ^ s) (number_of-lt m xs are)
    (omega (arith, pow_pos s, pow_pos (8 * m)))
    (λ i below.
    let place : suc ((8 * m - 1 - i) + i) ≡ 8 * m = omega arith in
    bit_at-number_of m (8 * m - 1 - i) i xs are place
    ∙ elim (cases_lt i s) [
      | inl low ↦ is.zeros (8 * m - 1 - i) (omega arith) ∙ sym (bit_at_mask_below s (8 * m) i low)
      | inr high ↦ is.ones (8 * m - 1 - i) (omega arith) ∙ sym (bit_at_mask_inside s (8 * m) i high below)
    ])

-- the ones at the front of a netmask are counted
pub leading_ones-mask : (w s : ℕ) → s ≤ w → count_leading_zeros w (2 ^ w - 1 - (2 ^ w - 2 ^ s)) ≡ w - s
leading_ones-mask w s le =
    let least : 2 ^ s ≤ 2 ^ w = pow_mono {i = s} {j = w} le in
    sym (leading_unique w (2 ^ w - 1 - (2 ^ w - 2 ^ s)) (w - s) s (omega arith) (omega (arith, pow_pos s)) (omega (arith, pow_pos s)))

-- ---- the least and the greatest address of a block

-- a number with zeros in its last s bits is the least address of the block
pub IsLeast_number : (m n s : ℕ) (xs ys : List ℕ) → IsByteArray m xs → IsByteArray m ys → n + s ≡ 8 * m
    → number_of ys ≡ number_of xs / 2 ^ s * 2 ^ s → IsLeast m (record { address = xs; prefix_len = n }) ys
IsLeast_number m n s xs ys are_xs are_ys e is = record {
  member = (IsMasked-number m n s xs ys are_xs are_ys e is).kept;
  least = λ zs are_zs member.
      let same : number_of xs / 2 ^ s ≡ number_of zs / 2 ^ s = numbers_from_agree m n s xs zs are_xs are_zs e member in
      rw (is, same) (omega (arith, shr_split (number_of zs) s));
}

-- a number with ones in its last s bits is the greatest address of the block
pub IsGreatest_number : (m n s : ℕ) (xs ys : List ℕ) → IsByteArray m xs → IsByteArray m ys → n + s ≡ 8 * m
    → number_of ys ≡ number_of xs / 2 ^ s * 2 ^ s + (2 ^ s - 1) → IsGreatest m (record { address = xs; prefix_len = n }) ys
IsGreatest_number m n s xs ys are_xs are_ys e is = record {
  member = agree_from_numbers m n s xs ys are_xs are_ys e
      (sym (ap (λ v. v / 2 ^ s) is ∙ shr_high (number_of xs / 2 ^ s) s (2 ^ s - 1) (omega (arith, pow_pos s))));
  greatest = λ zs are_zs member.
      let same : number_of xs / 2 ^ s ≡ number_of zs / 2 ^ s = numbers_from_agree m n s xs zs are_xs are_zs e member in
      rw (is, same) (omega (arith, pow_pos s, lt-div-mul-add {a = number_of zs} {b = 2 ^ s} (pow_pos s)));
}

-- ---- a block within another

-- the bytes of the address that begins as xs does and whose last s bits are those of a number
abbrev with_last : ℕ → ℕ → List ℕ → ℕ → List ℕ
with_last m s xs r = bytes_high_first m (number_of xs / 2 ^ s * 2 ^ s + r)

number_of-with_last : (m n s : ℕ) (xs : List ℕ) (r : ℕ) → IsByteArray m xs → n + s ≡ 8 * m → r < 2 ^ s
    → number_of (with_last m s xs r) ≡ number_of xs / 2 ^ s * 2 ^ s + r
number_of-with_last m n s xs r are e small =
    let q : ℕ = number_of xs / 2 ^ s in
    let below : q < 2 ^ n = shr_below (number_of xs) n s (rw e (number_of-lt m xs are)) in
    let size : 2 ^ s * 2 ^ n ≡ 2 ^ (8 * m) = sym (pow-add 2 s n) ∙ ap (λ k. 2 ^ k) (let turned : s + n ≡ 8 * m = omega arith in turned) in
    let fits : q * 2 ^ s + r < 2 ^ (8 * m) = rw (← size) (mul-add-lt q (2 ^ s) r (2 ^ n) below small) in
    number_of_bytes m (q * 2 ^ s + r) ∙ mod-eq_of_lt fits

-- it is in the block, and the bits after the prefix are those of the number
with_last-member : (m n s : ℕ) (xs : List ℕ) (r : ℕ) → IsByteArray m xs → n + s ≡ 8 * m → r < 2 ^ s
    → AgreeFirst n xs (with_last m s xs r)
with_last-member m n s xs r are e small =
    agree_from_numbers m n s xs (with_last m s xs r) are (IsByteArray-bytes m (number_of xs / 2 ^ s * 2 ^ s + r)) e
    (sym (ap (λ v. v / 2 ^ s) (number_of-with_last m n s xs r are e small) ∙ shr_high (number_of xs / 2 ^ s) s r small))

with_last-bit : (m n s k j : ℕ) (xs : List ℕ) (r : ℕ) → IsByteArray m xs → n + s ≡ 8 * m → r < 2 ^ s → n ≤ k → suc (k + j) ≡ 8 * m
    → bit_of (with_last m s xs r) k ≡ bit_at r j
with_last-bit m n s k j xs r are e small from place =
    sym (bit_at-number_of m k j (with_last m s xs r) (IsByteArray-bytes m (number_of xs / 2 ^ s * 2 ^ s + r)) place)
    ∙ ap (λ v. bit_at v j) (number_of-with_last m n s xs r are e small)
    ∙ bit_at_cat_low (number_of xs / 2 ^ s) s r j (omega arith)

-- a block that is within another has at least as many bits: otherwise its lowest and highest address would differ there
pub prefix_from_within : (m p q : ℕ) (xs ys : List ℕ) → IsByteArray m xs → q ≤ 8 * m
    → IsWithin m (record { address = xs; prefix_len = p }) (record { address = ys; prefix_len = q }) → q ≤ p
prefix_from_within m p q xs ys are bound within =
    elim (cases_lt p q) [
      | inl less ↦
          let s : ℕ = 8 * m - p in
          let e : p + s ≡ 8 * m = omega arith in
          let j : ℕ = 8 * m - 1 - p in
          let place : suc (p + j) ≡ 8 * m = omega arith in
          let fits_0 : 0 < 2 ^ s = pow_pos s in
          let fits_1 : 2 ^ s - 1 < 2 ^ s = omega (arith, pow_pos s) in
          let zero_bit : bit_of ys p ≡ 0 =
          within (with_last m s xs 0) (IsByteArray-bytes m (number_of xs / 2 ^ s * 2 ^ s + 0)) (with_last-member m p s xs 0 are e fits_0) p less
          ∙ with_last-bit m p s p j xs 0 are e fits_0 (omega arith) place ∙ bit_at-zero j in
          let one_bit : bit_of ys p ≡ 1 =
          within (with_last m s xs (2 ^ s - 1)) (IsByteArray-bytes m (number_of xs / 2 ^ s * 2 ^ s + (2 ^ s - 1))) (with_last-member m p s xs (2 ^ s - 1) are e fits_1) p less
          ∙ with_last-bit m p s p j xs (2 ^ s - 1) are e fits_1 (omega arith) place ∙ bit_at_ones s j (omega arith) in
          let no : ⊥ = omega (arith, zero_bit, one_bit) in
          absurd no
      | inr fine ↦ fine
    ]

-- a block is within another exactly if it has at least as many bits and its own address is in the other
pub IsWithin-member : (m p q : ℕ) (xs ys : List ℕ) → IsByteArray m xs → q ≤ 8 * m
    → ((q ≤ p) × AgreeFirst q ys xs) ↔ IsWithin m (record { address = xs; prefix_len = p }) (record { address = ys; prefix_len = q })
IsWithin-member m p q xs ys are bound = (
  (λ both zs are_zs member k lt. both.1 k lt ∙ member k (omega (arith, both.0))),
  (λ within. (prefix_from_within m p q xs ys are bound within, within xs are (λ k lt. refl))),
)

-- ---- what the code computes

-- a number under the mask of a prefix
pub number_under_mask : (m s : ℕ) (xs : List ℕ) → IsByteArray m xs → s ≤ 8 * m
    → bit_and (number_of xs) (2 ^ (8 * m) - 2 ^ s) ≡ number_of xs / 2 ^ s * 2 ^ s
number_under_mask m s xs are le = and_high_mask (8 * m) s le (number_of xs) (number_of-lt m xs are)

-- the low bits are set where the mask has none
pub number_over_mask : (m s : ℕ) (xs : List ℕ) → IsByteArray m xs → s ≤ 8 * m
    → bit_or (number_of xs / 2 ^ s * 2 ^ s) (2 ^ (8 * m) - 1 - (2 ^ (8 * m) - 2 ^ s)) ≡ number_of xs / 2 ^ s * 2 ^ s + (2 ^ s - 1)
number_over_mask m s xs are le =
    let least : 2 ^ s ≤ 2 ^ (8 * m) = pow_mono {i = s} {j = 8 * m} le in
    let low : 2 ^ (8 * m) - 1 - (2 ^ (8 * m) - 2 ^ s) ≡ 2 ^ s - 1 = omega (arith, pow_pos s) in
    ap (λ v. bit_or (number_of xs / 2 ^ s * 2 ^ s) v) low
    ∙ or_shifted (number_of xs / 2 ^ s) s (2 ^ s - 1) (omega (arith, pow_pos s))

-- two numbers that are equal under a mask have the same first bits
pub member_test : (m n x y mask : ℕ) (xs ys : List ℕ) → IsByteArray m xs → IsByteArray m ys → n ≤ 8 * m
    → x ≡ number_of xs → y ≡ number_of ys → mask ≡ 2 ^ (8 * m) - 2 ^ (8 * m - n)
    → IsTrue (nat_eq (bit_and x mask) (bit_and y mask)) ↔ AgreeFirst n xs ys
member_test m n x y mask xs ys are_xs are_ys within ex ey em =
    let s : ℕ = 8 * m - n in
    let e : n + s ≡ 8 * m = omega arith in
    let le : s ≤ 8 * m = omega arith in
    let x_is : bit_and x mask ≡ number_of xs / 2 ^ s * 2 ^ s = rw (ex, em) (number_under_mask m s xs are_xs le) in
    let y_is : bit_and y mask ≡ number_of ys / 2 ^ s * 2 ^ s = rw (ey, em) (number_under_mask m s ys are_ys le) in (
      λ t. agree_from_numbers m n s xs ys are_xs are_ys e
          (sym (shl-shr (number_of xs / 2 ^ s) s) ∙ ap (λ v. v / 2 ^ s) (sym x_is ∙ eqb-true (bit_and x mask) (bit_and y mask) t ∙ y_is)
          ∙ shl-shr (number_of ys / 2 ^ s) s),
      λ agree. eq-eqb (bit_and x mask) (bit_and y mask)
          (x_is ∙ ap (λ v. v * 2 ^ s) (numbers_from_agree m n s xs ys are_xs are_ys e agree) ∙ sym y_is),
    )

-- the test of `contains_subnet`, where the other block contains the address: the prefix lengths decide
pub within_test : (m p q : ℕ) (xs ys : List ℕ) (contains : Bool) → IsByteArray m xs → q ≤ 8 * m → (IsTrue contains ↔ AgreeFirst q ys xs) → contains ≡ true
    → IsTrue (nat_le q p) ↔ IsWithin m (record { address = xs; prefix_len = p }) (record { address = ys; prefix_len = q })
within_test m p q xs ys contains are bound test is =
    let both = IsWithin-member m p q xs ys are bound in
    ((λ t. both.0 (leb-true q p t, test.0 is)), (λ within. le-leb q p (both.1 within).0))

-- and where it does not: the block is not within the other
pub outside_test : (m p q : ℕ) (xs ys : List ℕ) (contains : Bool) → IsByteArray m xs → q ≤ 8 * m → (IsTrue contains ↔ AgreeFirst q ys xs) → contains ≡ false
    → IsTrue contains ↔ IsWithin m (record { address = xs; prefix_len = p }) (record { address = ys; prefix_len = q })
outside_test m p q xs ys contains are bound test is = grind arith

-- the number of leading ones is the prefix length exactly if the number is the mask with as many ones
pub prefix_test : (m ones bits mask : ℕ) (xs : List ℕ) → IsByteArray m xs → bits ≡ number_of xs
    → ones ≡ count_leading_zeros (8 * m) (2 ^ (8 * m) - 1 - bits) → mask ≡ 2 ^ (8 * m) - 2 ^ (8 * m - ones)
    → (n : ℕ) → (then_some (nat_eq bits mask) ones ≡ Some n) ↔ IsNetmask n xs
prefix_test m ones bits mask xs are eb eo em n = by_test (nat_eq bits mask) (Decides-eqb bits mask)
  where
    within : ones ≤ 8 * m
    within = rw eo (leading_le (8 * m) (2 ^ (8 * m) - 1 - bits))

    counted : IsNetmask n xs → ones ≡ n
    counted is =
        let le : n ≤ 8 * m = IsNetmask-within m n xs are is in
        let spelled : bits ≡ 2 ^ (8 * m) - 2 ^ (8 * m - n) = eb ∙ number-IsNetmask m n (8 * m - n) xs are (omega arith) is in
        eo ∙ ap (λ v. count_leading_zeros (8 * m) (2 ^ (8 * m) - 1 - v)) spelled ∙ leading_ones-mask (8 * m) (8 * m - n) (omega arith) ∙ omega arith

    masked : IsNetmask n xs → bits ≡ mask
    masked is =
        let same : ones ≡ n = counted is in
        let le : n ≤ 8 * m = IsNetmask-within m n xs are is in
        eb ∙ number-IsNetmask m n (8 * m - n) xs are (omega arith) is ∙ rw (em, same) refl

    by_test : (test : Bool) → Decides test (bits ≡ mask) → (then_some test ones ≡ Some n) ↔ IsNetmask n xs
    by_test true decides = (
      (λ some.
          let same : ones ≡ n = same_Some ones n some in
          rw (← same) (IsNetmask_number m ones (8 * m - ones) xs are (omega (arith, within)) (sym eb ∙ decides.0 refl ∙ em))),
      (λ is. ap Some (counted is)),
    )
    by_test false decides = (
      (λ some. absurd (none-some n some)),
      (λ is. absurd (false≢true (decides.1 (masked is)))),
    )

-- the bytes of a number under a mask
pub IsMasked_bytes : (m n x mask : ℕ) (xs : List ℕ) → IsByteArray m xs → n ≤ 8 * m → x ≡ number_of xs → mask ≡ 2 ^ (8 * m) - 2 ^ (8 * m - n)
    → IsMasked n xs (bytes_high_first m (bit_and x mask))
IsMasked_bytes m n x mask xs are within ex em =
    let s : ℕ = 8 * m - n in
    let under : bit_and x mask ≡ number_of xs / 2 ^ s * 2 ^ s = rw (ex, em) (number_under_mask m s xs are (omega arith)) in
    let fits : bit_and x mask < 2 ^ (8 * m) = rw under (omega (arith, shr_split (number_of xs) s, number_of-lt m xs are)) in
    IsMasked-number m n s xs (bytes_high_first m (bit_and x mask)) are (IsByteArray-bytes m (bit_and x mask)) (omega arith)
    (number_of_bytes m (bit_and x mask) ∙ mod-eq_of_lt fits ∙ under)
