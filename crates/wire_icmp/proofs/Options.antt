-- The walk over the options of a message.
use Rattle.std.proofs.Common.{ℕ, zero, suc, ◌≡◌, ◌≢◌, ◌≤◌, ◌<◌, ◌*◌, false, List, [], ◌∷◌, Option, Some, None, is_none, length, length-drop, drop, take, slice_index, refl, ap, ◌∙◌, arith}
use Rattle.std.proofs.lemmas.Bool.Decides.{nat_tests}
use Rattle.std.specs.Option.{option_and_then, option_map}
use Rattle.wire_addr.specs.declared.ethernet_address.EthernetAddress.{EthernetAddress}
use Rattle.wire_icmp.specs.NdOption.{first_option, lladdr_in, lladdr_of, options_of, options_within}

-- what a walk returns that found this address and has these bytes left
abbrev pub from_here : Option EthernetAddress → ℕ → List ℕ → Option (Option EthernetAddress)
from_here None type rest = lladdr_of type rest
from_here (Some lladdr) type rest = option_map (λ options. Some lladdr) (options_of rest)

-- the first option has the length that it says
pub first_option-parts : (bytes option following : List ℕ) → first_option bytes ≡ Some (option, following)
    → let len = 8 * slice_index bytes 1 in (0 < len) × (len ≤ length bytes) × (option ≡ take len bytes) × (following ≡ drop len bytes)
first_option-parts bytes option following is = grind (arith, nat_tests)

-- the bytes after it are fewer
pub first_option-shorter : (bytes option following : List ℕ) → first_option bytes ≡ Some (option, following) → length following < length bytes
first_option-shorter bytes option following is =
    let (some, whole, front, rest) = first_option-parts bytes option following is in
    rw rest (omega (arith, length-drop (8 * slice_index bytes 1) bytes))

-- no more steps are needed than there are bytes
within-enough : (n m : ℕ) (bytes : List ℕ) → length bytes ≤ n → length bytes ≤ m → options_within n bytes ≡ options_within m bytes
unfolding options_within
within-enough n m [] p q = refl
within-enough zero m (b ∷ bs) p q = absurd (omega (arith, p))
within-enough (suc n) zero (b ∷ bs) p q = absurd (omega (arith, q))
within-enough (suc n) (suc m) (b ∷ bs) p q = by_first (λ following. within-enough n m following) (first_option (b ∷ bs)) refl
  where
    by_first : ((following : List ℕ) → length following ≤ n → length following ≤ m → options_within n following ≡ options_within m following)
        → (d : Option (List ℕ × List ℕ)) → first_option (b ∷ bs) ≡ d
        → option_and_then (λ d. option_map (λ options. d.0 ∷ options) (options_within n d.1)) d ≡ option_and_then (λ d. option_map (λ options. d.0 ∷ options) (options_within m d.1)) d
    by_first same None is = refl
    by_first same (Some (option, following)) is =
        let less = first_option-shorter (b ∷ bs) option following is in
        ap (option_map (λ options. option ∷ options)) (same following (omega (arith, less, p)) (omega (arith, less, q)))

-- the options are the first one and those after it
pub options_of-step : (b : ℕ) (bs : List ℕ) → options_of (b ∷ bs) ≡ option_and_then (λ d. option_map (λ options. d.0 ∷ options) (options_of d.1)) (first_option (b ∷ bs))
unfolding options_within
options_of-step b bs = by_first (first_option (b ∷ bs)) refl
  where
    by_first : (d : Option (List ℕ × List ℕ)) → first_option (b ∷ bs) ≡ d
        → option_and_then (λ d. option_map (λ options. d.0 ∷ options) (options_within (length bs) d.1)) d ≡ option_and_then (λ d. option_map (λ options. d.0 ∷ options) (options_of d.1)) d
    by_first None is = refl
    by_first (Some (option, following)) is =
        let less = first_option-shorter (b ∷ bs) option following is in
        ap (option_map (λ options. option ∷ options)) (within-enough (length bs) (length following) following (omega (arith, less)) (omega (arith)))

-- the options after the first one was read
pub options_of-first : (rest option following : List ℕ) → first_option rest ≡ Some (option, following) → options_of rest ≡ option_map (λ options. option ∷ options) (options_of following)
options_of-first [] option following is = absurd (cc)
options_of-first (b ∷ bs) option following is = options_of-step b bs ∙ ap (option_and_then (λ d. option_map (λ options. d.0 ∷ options) (options_of d.1))) is

-- ---- steps of the walk

pub broken : (found : Option EthernetAddress) (type : ℕ) (rest : List ℕ) → 0 < length rest → first_option rest ≡ None → from_here found type rest ≡ None
broken found type [] some is = absurd (omega (arith, some))
broken None type (b ∷ bs) some is = rw (options_of-step b bs, is) refl
broken (Some lladdr) type (b ∷ bs) some is = rw (options_of-step b bs, is) refl

-- an option of another type is skipped
pub skipped : (found : Option EthernetAddress) (type : ℕ) (rest option following : List ℕ) → first_option rest ≡ Some (option, following)
    → slice_index option 0 ≢ type → from_here found type rest ≡ from_here found type following
skipped found type rest option following is other = by (options_of following) refl found
  where
    by : (o : Option (List (List ℕ))) → options_of following ≡ o → (found : Option EthernetAddress) → from_here found type rest ≡ from_here found type following
    by None e None = rw (options_of-first rest option following is, e) refl
    by None e (Some a) = rw (options_of-first rest option following is, e) refl
    by (Some options) e None = rw (options_of-first rest option following is, e) (grind (arith, nat_tests))
    by (Some options) e (Some a) = rw (options_of-first rest option following is, e) refl

-- after the first option of the type each option is skipped
pub passed : (found : Option EthernetAddress) (type : ℕ) (rest option following : List ℕ) → first_option rest ≡ Some (option, following)
    → is_none found ≡ false → from_here found type rest ≡ from_here found type following
passed None type rest option following is some = absurd (cc)
passed (Some lladdr) type rest option following is some = by (options_of following) refl
  where
    by : (o : Option (List (List ℕ))) → options_of following ≡ o → from_here (Some lladdr) type rest ≡ from_here (Some lladdr) type following
    by None e = rw (options_of-first rest option following is, e) refl
    by (Some options) e = rw (options_of-first rest option following is, e) refl

-- the first option of the type, with an address or without
pub found : (a : Option (Option EthernetAddress)) (type : ℕ) (rest option following : List ℕ) → first_option rest ≡ Some (option, following)
    → slice_index option 0 ≡ type → lladdr_in (Some option) ≡ a → from_here None type rest ≡ option_and_then (λ lladdr. option_map (λ options. lladdr) (options_of following)) a
found a type rest option following is of_type has = by (options_of following) refl a has
  where
    by : (o : Option (List (List ℕ))) → options_of following ≡ o → (a : Option (Option EthernetAddress)) → lladdr_in (Some option) ≡ a
        → from_here None type rest ≡ option_and_then (λ lladdr. option_map (λ options. lladdr) (options_of following)) a
    by None e None has = rw (options_of-first rest option following is, e) refl
    by None e (Some a) has = rw (options_of-first rest option following is, e) refl
    by (Some options) e None has = rw (options_of-first rest option following is, e) (grind (arith, nat_tests))
    by (Some options) e (Some a) has = rw (options_of-first rest option following is, e) (grind (arith, nat_tests))

-- at the end nothing is left
pub ended : (found : Option EthernetAddress) (type : ℕ) (rest : List ℕ) → length rest ≤ 0 → from_here found type rest ≡ Some found
unfolding options_within
ended None type [] none = refl
ended (Some lladdr) type [] none = refl
ended found type (b ∷ bs) none = absurd (omega (arith, none))
