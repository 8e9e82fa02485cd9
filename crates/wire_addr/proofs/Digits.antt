-- The digits of small numbers, one by one.
use Rattle.std.proofs.Common.{◌≡◌, ℕ, ◌+◌, ◌/◌, ◌%◌, ◌^◌, ◌<◌, ◌≤◌, [], ◌∷◌, ◌++◌, decimal, false, ap, ap₂, ◌∙◌, arith}
use Rattle.std.proofs.lemmas.Fmt as fmt
use Rattle.std.specs.Char.{digit_char}
use Rattle.wire_addr.specs.Printed.{hex}
use Rattle.wire_addr.proofs.Prints.{three_digits, four_digits}

-- ---- decimal digits

-- the decimal digits of a number of one digit
pub decimal_one : (n : ℕ) → n < 10 → decimal n ≡ (48 + n % 10) ∷ []
decimal_one n small =
    let same : n ≡ n % 10 = omega arith in
    fmt.decimal_digit n small ∙ ap (λ d. (48 + d) ∷ []) same

-- of two digits
pub decimal_two : (n : ℕ) → 10 ≤ n → n < 100 → decimal n ≡ (48 + n / 10 % 10) ∷ (48 + n % 10) ∷ []
decimal_two n large small =
    fmt.decimal_step n large (omega arith) ∙ ap (λ front. front ++ (48 + n % 10) ∷ []) (decimal_one (n / 10) (omega arith))

-- of three digits
pub decimal_three : (n : ℕ) → 100 ≤ n → n < 256 → decimal n ≡ (48 + n / 100) ∷ (48 + n / 10 % 10) ∷ (48 + n % 10) ∷ []
decimal_three n large small =
    let first : n / 10 / 10 % 10 ≡ n / 100 = omega arith in
    fmt.decimal_step n (omega arith) (omega arith)
    ∙ ap (λ front. front ++ (48 + n % 10) ∷ []) (decimal_two (n / 10) (omega arith) (omega arith) ∙ ap (λ d. (48 + d) ∷ (48 + n / 10 % 10) ∷ []) first)

-- ---- hex digits

-- the hex digits of a number of one digit
pub hex_one : (n : ℕ) → n < 0x10 → hex n ≡ digit_char (n % 16) ∷ []
hex_one n small =
    let same : n ≡ n % 16 = omega arith in
    fmt.hex_one_digit false n small ∙ ap (λ d. digit_char d ∷ []) same

-- of two digits
pub hex_two : (n : ℕ) → 0x10 ≤ n → n < 0x100 → hex n ≡ digit_char (n / 0x10 % 16) ∷ digit_char (n % 16) ∷ []
hex_two n large small =
    let first : n / 16 ≡ n / 16 % 16 = omega arith in
    fmt.hex_two_digits false n large small ∙ ap (λ d. digit_char d ∷ digit_char (n % 16) ∷ []) first

-- of three digits
pub hex_three : (n : ℕ) → 0x100 ≤ n → n < 0x1000 → hex n ≡ digit_char (n / 0x100 % 16) ∷ digit_char (n / 0x10 % 16) ∷ digit_char (n % 16) ∷ []
hex_three n large small =
    let first : n / 16 / 16 % 16 ≡ n / 0x100 % 16 = omega arith in
    three_digits n large small ∙ ap (λ d. digit_char d ∷ digit_char (n / 0x10 % 16) ∷ digit_char (n % 16) ∷ []) first

-- of four digits
pub hex_four : (n : ℕ) → 0x1000 ≤ n → n < 2 ^ 16
    → hex n ≡ digit_char (n / 0x1000) ∷ digit_char (n / 0x100 % 16) ∷ digit_char (n / 0x10 % 16) ∷ digit_char (n % 16) ∷ []
hex_four n large small =
    let first : n / 16 / 16 / 16 % 16 ≡ n / 0x1000 = omega arith in
    let second : n / 16 / 16 % 16 ≡ n / 0x100 % 16 = omega arith in
    four_digits n large small ∙ ap₂ (λ d e. digit_char d ∷ digit_char e ∷ digit_char (n / 0x10 % 16) ∷ digit_char (n % 16) ∷ []) first second
