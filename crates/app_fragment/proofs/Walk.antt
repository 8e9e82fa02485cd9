-- The walk over the options of a header.
use Rattle.std.proofs.Common.{Bool, true, false, cond, get_or, leb, replicate, ℕ, zero, suc, ◌≡◌, ◌<◌, ◌≤◌, ◌+◌, Option, None, Some, List, [], ◌∷◌, ◌++◌, length, drop, take, refl, sym, ap, ◌∙◌, arith, append_assoc, length-append, length-drop}
use Rattle.std.specs.Option.{option_map_or}
use borrow.Rule.Slice.PartMut.{put_mid}
use Rattle.std.proofs.lemmas.Bool.Decides.{nat_tests}
use Rattle.std.proofs.lemmas.List.{drop-drop, length-replicate, length-take-le, take-append-drop}
use Rattle.std.proofs.lemmas.Slice.{drop-put_mid, take-put_mid}
use Rattle.ip_wire.proofs.ByteLists.{AreBytes-append, AreBytes-drop, AreBytes-take}
use Rattle.ip_wire.proofs.Spelled.{AreBytes}
use Rattle.app_fragment.specs.Ipv4Options.{later_first, later_option, later_options, option_len}

-- an option has a byte, and is within the bytes
pub option_len-fits : (xs : List ℕ) (len : ℕ) → option_len xs ≡ Some len → (0 < len) × (len ≤ length xs)
option_len-fits [] len e = cc
option_len-fits (x ∷ xs) len e = grind (arith, nat_tests)

-- as many steps as there are bytes are enough
enough : (n m : ℕ) (xs : List ℕ) → length xs ≤ n → length xs ≤ m → later_first n xs ≡ later_first m xs
enough zero zero xs a b = refl
enough zero (suc m) [] a b = refl
enough zero (suc m) (x ∷ xs) a b = absurd (omega arith)
enough (suc n) zero [] a b = refl
enough (suc n) zero (x ∷ xs) a b = absurd (omega arith)
enough (suc n) (suc m) xs a b =
    by (option_len xs) refl (λ len some high. enough n m (drop len xs) (omega (arith, length-drop len xs)) (omega (arith, length-drop len xs)))
  where
    by : (o : Option ℕ) → option_len xs ≡ o
        → ((len : ℕ) → 0 < len → len ≤ length xs → later_first n (drop len xs) ≡ later_first m (drop len xs))
        → option_map_or (λ len. later_option (take len xs) ++ later_first n (drop len xs)) o xs
        ≡ option_map_or (λ len. later_option (take len xs) ++ later_first m (drop len xs)) o xs
    by None e rest = refl
    by (Some len) e rest =
        let fits : (0 < len) × (len ≤ length xs) = option_len-fits xs len e in
        ap (λ others. later_option (take len xs) ++ others) (rest len fits.0 fits.1)

-- without an option the bytes stay
pub no_option : (xs : List ℕ) → option_len xs ≡ None → later_options xs ≡ xs
unfolding later_options
no_option [] e = refl
no_option (x ∷ xs) e = rw e refl

-- the first option, and the others
pub one_option : (xs : List ℕ) (len : ℕ) → option_len xs ≡ Some len
    → later_options xs ≡ later_option (take len xs) ++ later_options (drop len xs)
unfolding later_options
one_option [] len e = cc
one_option (x ∷ xs) len e =
    let fits : (0 < len) × (len ≤ length (x ∷ xs)) = option_len-fits (x ∷ xs) len e in
    rw e (ap (λ rest. later_option (take len (x ∷ xs)) ++ rest)
    (enough (length xs) (length (drop len (x ∷ xs))) (drop len (x ∷ xs)) (omega (arith, length-drop len (x ∷ xs), fits.0)) (omega arith)))

pub length-later_option : (xs : List ℕ) → length (later_option xs) ≡ length xs
length-later_option xs = grind (arith, length-replicate {A = ℕ})

-- the options before a place are done, those from it on are not
pub walked_more : (xs ys done : List ℕ) (at len : ℕ) → at ≤ length xs → option_len (drop at xs) ≡ Some len
    → ys ≡ later_option (take len (drop at xs))
    → take at xs ++ later_options (drop at xs) ≡ done
    → (take at xs ++ ys) ++ later_options (drop (at + len) xs) ≡ done
walked_more xs ys done at len within e is walked =
    append_assoc (take at xs) ys (later_options (drop (at + len) xs))
    ∙ ap (λ part. take at xs ++ (part ++ later_options (drop (at + len) xs))) is
    ∙ ap (λ rest. take at xs ++ (later_option (take len (drop at xs)) ++ later_options rest)) (sym (drop-drop len at xs))
    ∙ ap (λ rest. take at xs ++ rest) (sym (one_option (drop at xs) len e))
    ∙ walked

-- the same of the bytes into which the option is written
pub walked_step : (xs ys done : List ℕ) (at len n : ℕ) → n ≡ len → at ≤ length xs → option_len (drop at xs) ≡ Some len
    → ys ≡ later_option (take n (drop at xs)) → take at xs ++ later_options (drop at xs) ≡ done
    → (length (put_mid at n xs ys) ≡ length xs) × (at + len ≤ length (put_mid at n xs ys))
    × (take (at + len) (put_mid at n xs ys) ++ later_options (drop (at + len) (put_mid at n xs ys)) ≡ done)
walked_step xs ys done at len n k within e is walked =
    let fits : (0 < len) × (len ≤ length (drop at xs)) = option_len-fits (drop at xs) len e in
    let part : ys ≡ later_option (take len (drop at xs)) = is ∙ ap (λ m. later_option (take m (drop at xs))) k in
    let long : length ys ≡ len = ap length part ∙ length-later_option (take len (drop at xs)) ∙ length-take-le len (drop at xs) fits.1 in
    let front : take (at + len) (put_mid at n xs ys) ≡ take at xs ++ ys = take-put_mid at n xs ys (at + len) (omega (arith, long)) within in
    let back : drop (at + len) (put_mid at n xs ys) ≡ drop (at + len) xs = drop-put_mid at n xs ys (at + len) (omega (arith, k)) within (omega (arith, long, k)) in
    let whole : length (put_mid at n xs ys) ≡ length xs =
    ap length (sym (take-append-drop (at + len) (put_mid at n xs ys))) ∙ length-append (take (at + len) (put_mid at n xs ys)) (drop (at + len) (put_mid at n xs ys))
    ∙ omega (arith, ap length front, ap length back, length-append (take at xs) ys, length-take-le at xs within, length-drop (at + len) xs, length-drop at xs, fits.1, long) in (
      whole,
      omega (arith, whole, length-drop at xs, fits.0, fits.1),
      ap (λ l. l ++ later_options (drop (at + len) (put_mid at n xs ys))) front
          ∙ ap (λ l. (take at xs ++ ys) ++ later_options l) back
          ∙ walked_more xs ys done at len within e part walked,
    )

pub walked_all : (xs done : List ℕ) (at : ℕ) → option_len (drop at xs) ≡ None
    → take at xs ++ later_options (drop at xs) ≡ done → xs ≡ done
walked_all xs done at e walked =
    sym (take-append-drop at xs) ∙ ap (λ rest. take at xs ++ rest) (sym (no_option (drop at xs) e)) ∙ walked

-- ---- what a walk keeps

length-later_first : (n : ℕ) (xs : List ℕ) → length (later_first n xs) ≡ length xs
length-later_first zero xs = refl
length-later_first (suc n) xs = by (option_len xs) refl (λ len. length-later_first n (drop len xs))
  where
    by : (o : Option ℕ) → option_len xs ≡ o → ((len : ℕ) → length (later_first n (drop len xs)) ≡ length (drop len xs))
        → length (option_map_or (λ len. later_option (take len xs) ++ later_first n (drop len xs)) o xs) ≡ length xs
    by None e rest = refl
    by (Some len) e rest =
        let fits : (0 < len) × (len ≤ length xs) = option_len-fits xs len e in
        let part : length (later_option (take len xs)) ≡ len = length-later_option (take len xs) ∙ length-take-le len xs fits.1 in
        omega (arith, length-append (later_option (take len xs)) (later_first n (drop len xs)), part, rest len, length-drop len xs, fits.1)

pub length-later_options : (xs : List ℕ) → length (later_options xs) ≡ length xs
unfolding later_options
length-later_options xs = length-later_first (length xs) xs

AreBytes-nops : (n : ℕ) → AreBytes (replicate n 1)
AreBytes-nops zero i = omega arith
AreBytes-nops (suc n) zero = omega arith
AreBytes-nops (suc n) (suc i) = AreBytes-nops n i

AreBytes-later_option : (xs : List ℕ) → AreBytes xs → AreBytes (later_option xs)
AreBytes-later_option xs are = by (leb 128 (get_or xs 0 0))
  where
    by : (b : Bool) → AreBytes (cond b xs (replicate (length xs) 1))
    by true = are
    by false = AreBytes-nops (length xs)

AreBytes-later_first : (n : ℕ) (xs : List ℕ) → AreBytes xs → AreBytes (later_first n xs)
AreBytes-later_first zero xs h = h
AreBytes-later_first (suc n) xs h = by (option_len xs) (λ len. AreBytes-later_first n (drop len xs) (AreBytes-drop len xs h))
  where
    by : (o : Option ℕ) → ((len : ℕ) → AreBytes (later_first n (drop len xs)))
        → AreBytes (option_map_or (λ len. later_option (take len xs) ++ later_first n (drop len xs)) o xs)
    by None rest = h
    by (Some len) rest =
        AreBytes-append (later_option (take len xs)) (later_first n (drop len xs)) (AreBytes-later_option (take len xs) (AreBytes-take len xs h)) (rest len)

pub AreBytes-later_options : (xs : List ℕ) → AreBytes xs → AreBytes (later_options xs)
unfolding later_options
AreBytes-later_options xs are = AreBytes-later_first (length xs) xs are
