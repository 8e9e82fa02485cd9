-- The number parser returns exactly the number of the grammar.
use Rattle.std.proofs.Common.{◌≡◌, ℕ, ◌<◌, ◌≤◌, Bool, true, cond, List, [], ◌∷◌, length, get_or, Option, Some, None, refl, arith, lt-ltb, le-leb, nat_lt, nat_le, ◌*◌, ◌+◌, ◌^◌, take, length-take-le, le_trans, lit≤, min, mul-le-mul, ◌&&◌, subst, sym}
use Rattle.std.proofs.Math.Nat.{pow-le-pow_left, pow-le-pow_right}
use Rattle.std.proofs.lemmas.Int.Digits.{digits_value-lt, digits_more, digits_value_more}
use Rattle.std.proofs.lemmas.Bool.{ltb-true, leb-true, and_parts}
use Rattle.std.specs.List.{list_all}
use Rattle.std.specs.Char.{is_digit, digit_value}
use Rattle.std.specs.Str.Parse.{AllDigits, digits_value}
use Rattle.std.proofs.NetLemmas.Options.{cond_some}
use Rattle.std.proofs.NetLemmas.Arrays.{four_items}
use Rattle.wire_addr.specs.Grammar.{IsNumber}
use Rattle.wire_addr.specs.Reading.{number_of}

pub all_pass : (radix : ℕ) (text : List ℕ) → AllDigits radix text → list_all (λ c. is_digit c radix) text ≡ true
all_pass radix [] h = refl
all_pass radix (c ∷ text) h = rw (lt-ltb (digit_value c) radix h.0) (all_pass radix text h.1)

pub all_digits : (radix : ℕ) (text : List ℕ) → list_all (λ c. is_digit c radix) text ≡ true → AllDigits radix text
all_digits radix [] h = tt
all_digits radix (c ∷ text) h =
    let (first, others) = and_parts _ _ h in
    (ltb-true (digit_value c) radix first, all_digits radix text others)

pub number_digits : (radix places most : ℕ) (text : List ℕ) → 0 < length text → length text ≤ places → AllDigits radix text → number_of radix places most text ≡ cond (nat_le (digits_value radix text) most) (Some (digits_value radix text)) None
unfolding number_of
number_digits radix places most text some short all = rw (lt-ltb _ _ some, le-leb _ _ short, all_pass radix text all)

-- a number of the grammar is the computed one
pub number_complete : (radix places most : ℕ) (text : List ℕ) (n : ℕ) → IsNumber radix places most text n → number_of radix places most text ≡ Some n
number_complete radix places most text n h =
    rw (number_digits radix places most text h.digits.0 h.places_fit h.digits.1, h.value, le-leb n most h.fits)

-- both of two tests in a row passed
two_tests : {A : Type 0} (a b : Bool) (o : Option A) (x : A) → cond a (cond b o None) None ≡ Some x → (a ≡ true) × (b ≡ true) × (o ≡ Some x)
two_tests a b o x e = grind arith

-- the computed number is one of the grammar
pub number_sound : (radix places most : ℕ) (text : List ℕ) (n : ℕ) → number_of radix places most text ≡ Some n → IsNumber radix places most text n
unfolding number_of
number_sound radix places most text n e =
    let (within, all, rest) = two_tests _ _ _ n e in
    let (some, short) = and_parts _ _ within in
    let (fits, value) = cond_some _ _ _ rest in
    record {
      digits = (ltb-true 0 _ some, all_digits radix text all);
      places_fit = leb-true (length text) places short;
      value = value;
      fits = rw (← value) (leb-true _ most fits);
    }

-- with at most five digits, one more digit still fits 32 bits
pub number_small : (radix i : ℕ) (text : List ℕ) → 2 ≤ radix → radix ≤ 16 → i ≤ 4 → i < length text → AllDigits radix (take i text) → digits_value radix (take i text) * radix < 2 ^ 21
number_small radix i text low high few within all =
    let len = length-take-le i text (omega arith) in
    let below = digits_value-lt radix (take i text) all in
    let few_more : length (take i text) ≤ 4 = omega arith in
    let more : radix ^ length (take i text) ≤ 16 ^ 4 = le_trans (pow-le-pow_left high (length (take i text))) (pow-le-pow_right (lit≤ tt) few_more) in
    let small : digits_value radix (take i text) ≤ 65536 = omega arith in
    omega (arith, mul-le-mul small high)

-- the value of a digit of the radix; all values of 16 and more count as 16
pub digit_below : (radix digit value : ℕ) → radix ≤ 16 → digit ≡ min 16 value → digit < radix → (value < radix) × (digit ≡ value)
digit_below radix digit value high e below = (omega arith, omega arith)

-- one more digit is appended
pub number_more : (radix i : ℕ) (text : List ℕ) (value byte digit : ℕ) → i < length text → AllDigits radix (take i text) → value ≡ digits_value radix (take i text) → byte ≡ get_or text i 0 → (digit_value byte < radix) × (digit ≡ digit_value byte) → AllDigits radix (take (i + 1) text) × (value * radix + digit ≡ digits_value radix (take (i + 1) text))
number_more radix i text value byte digit within all is read h =
    (digits_more radix text i within all (rw (← read) h.0), rw (digits_value_more radix text i within, ← read, ← is, h.1))

-- four digits are parsed at once
pub four_read : (text : List ℕ) (a b c d : ℕ) → length text ≡ 4 → a ≡ min 16 (digit_value (get_or text 0 0)) → b ≡ min 16 (digit_value (get_or text 1 0)) → c ≡ min 16 (digit_value (get_or text 2 0)) → d ≡ min 16 (digit_value (get_or text 3 0))
    → (nat_lt a 16 && nat_lt b 16 && nat_lt c 16 && nat_lt d 16) ≡ true → AllDigits 16 text × (((a * 16 + b) * 16 + c) * 16 + d ≡ digits_value 16 text)
four_read text a b c d four is_a is_b is_c is_d all =
    let (three, d_below) = and_parts _ _ all in
    let (two, c_below) = and_parts _ _ three in
    let (a_below, b_below) = and_parts _ _ two in
    let (a_digit, a_is) = digit_below 16 a _ (lit≤ tt) is_a (ltb-true a 16 a_below) in
    let (b_digit, b_is) = digit_below 16 b _ (lit≤ tt) is_b (ltb-true b 16 b_below) in
    let (c_digit, c_is) = digit_below 16 c _ (lit≤ tt) is_c (ltb-true c 16 c_below) in
    let (d_digit, d_is) = digit_below 16 d _ (lit≤ tt) is_d (ltb-true d 16 d_below) in
    subst (λ (t : List ℕ). AllDigits 16 t × (((a * 16 + b) * 16 + c) * 16 + d ≡ digits_value 16 t)) (sym (four_items text four))
    ((a_digit, (b_digit, (c_digit, (d_digit, tt)))), omega (arith, a_is, b_is, c_is, d_is))
