-- `options_of` finds the options of bytes, and `lladdr_of` the address in the first of a type.
use Rattle.std.proofs.Common.{ℕ, zero, suc, ◌≡◌, ◌↔◌, ◌≤◌, ◌+◌, ◌*◌, List, [], ◌∷◌, ◌++◌, Option, Some, None, length, length-append, slice_index, refl, sym, ap, ◌∙◌, arith}
use Rattle.std.proofs.Math.ListN.{get_or-append}
use Rattle.std.proofs.Math.Seq.{drop-append_seam, take-append_seam}
use Rattle.std.proofs.lemmas.Bool.Decides.{nat_tests}
use Rattle.std.proofs.lemmas.List.{get_or-take, length-take-le, take-append-drop}
use Rattle.std.proofs.lemmas.Option.{same_Some}
use Rattle.std.specs.List.{AllByRecursion, concat}
use Rattle.std.specs.Option.{option_and_then, option_map}
use Rattle.wire_addr.specs.declared.ethernet_address.EthernetAddress.{EthernetAddress}
use Rattle.wire_icmp.proofs.Options.{first_option-parts, options_of-first}
use Rattle.wire_icmp.specs.NdOption.{AreOptions, HasLladdr, IsLladdr, IsNdOption, first_of, first_option, lladdr_in, lladdr_of, options_of, options_within}

-- what is found first is an option, and the bytes are it and those after it
first_option-is : (bytes option following : List ℕ) → first_option bytes ≡ Some (option, following) → IsNdOption option × (bytes ≡ option ++ following)
first_option-is bytes option following is =
    let (some, whole, front, rest) = first_option-parts bytes option following is in
    let len = 8 * slice_index bytes 1 in
    let unit : slice_index option 1 ≡ slice_index bytes 1 = ap (λ o. slice_index o 1) front ∙ get_or-take len bytes 1 0 (omega arith) in
    let long : length option ≡ len = ap length front ∙ length-take-le len bytes whole in (
      record { some = rw unit (omega arith); whole = rw unit long },
      rw (front, rest) (sym (take-append-drop len bytes)),
    )

-- an option is found first of bytes that it begins
is-first_option : (option following : List ℕ) → IsNdOption option → first_option (option ++ following) ≡ Some (option, following)
is-first_option option following is =
    let long : 8 ≤ length option = omega (arith, is.some, is.whole) in
    let unit : slice_index (option ++ following) 1 ≡ slice_index option 1 = get_or-append option following 0 1 (omega (arith, long)) in
    let all : length (option ++ following) ≡ length option + length following = length-append option following in
    rw (unit, ← is.whole, take-append_seam option following, drop-append_seam option following) (grind (arith, nat_tests))

-- what is computed are the options
options_within-are : (n : ℕ) (bytes : List ℕ) (options : List (List ℕ)) → options_within n bytes ≡ Some options → AreOptions bytes options
unfolding options_within
options_within-are n [] options is = let none : [] ≡ options = same_Some [] options is in rw (← none) (record { each = search; joined = refl })
options_within-are zero (b ∷ bs) options is = absurd (cc)
options_within-are (suc n) (b ∷ bs) options is = by (λ following os. options_within-are n following os) (first_option (b ∷ bs)) refl is
  where
    by_rest : (option following : List ℕ) → first_option (b ∷ bs) ≡ Some (option, following)
        → ((os : List (List ℕ)) → options_within n following ≡ Some os → AreOptions following os)
        → (r : Option (List (List ℕ))) → options_within n following ≡ r → option_map (λ os. option ∷ os) r ≡ Some options → AreOptions (b ∷ bs) options
    by_rest option following first inner None e is = absurd (cc)
    by_rest option following first inner (Some os) e is =
        let (valid, joined) = first_option-is (b ∷ bs) option following first in
        let rest = inner os e in
        let all : option ∷ os ≡ options = same_Some (option ∷ os) options is in
        rw (← all) (record { each = (valid, rest.each); joined = joined ∙ ap (λ r. option ++ r) rest.joined })

    by : ((following : List ℕ) (os : List (List ℕ)) → options_within n following ≡ Some os → AreOptions following os)
        → (d : Option (List ℕ × List ℕ)) → first_option (b ∷ bs) ≡ d
        → option_and_then (λ d. option_map (λ options. d.0 ∷ options) (options_within n d.1)) d ≡ Some options → AreOptions (b ∷ bs) options
    by inner None first is = absurd (cc)
    by inner (Some (option, following)) first is = by_rest option following first (inner following) (options_within n following) refl is

-- and options are computed
are-options_of : (options : List (List ℕ)) → AllByRecursion IsNdOption options → options_of (concat options) ≡ Some options
unfolding options_within
are-options_of [] each = refl
are-options_of (option ∷ options) each =
    options_of-first (option ++ concat options) option (concat options) (is-first_option option (concat options) each.0)
    ∙ ap (option_map (λ os. option ∷ os)) (are-options_of options each.1)

pub options_of-are : (bytes : List ℕ) (options : List (List ℕ)) → (options_of bytes ≡ Some options) ↔ AreOptions bytes options
options_of-are bytes options = (options_within-are (length bytes) bytes options, λ are. ap options_of are.joined ∙ are-options_of options are.each)

-- ---- the address

lladdr_in-is : (option : Option (List ℕ)) (lladdr : Option EthernetAddress) → (lladdr_in option ≡ Some lladdr) ↔ IsLladdr option lladdr
lladdr_in-is None lladdr = (λ is. sym (same_Some None lladdr is), λ is. ap Some (sym is))
lladdr_in-is (Some option) lladdr = (λ is. grind (arith, nat_tests), λ is. grind (arith, nat_tests))

pub lladdr_of-has : (type : ℕ) (bytes : List ℕ) (lladdr : Option EthernetAddress) → (lladdr_of type bytes ≡ Some lladdr) ↔ HasLladdr bytes type lladdr
lladdr_of-has type bytes lladdr = (
  by (options_of bytes) refl,
  λ has. let (options, are, is) = has in
      ap (option_and_then (λ os. lladdr_in (first_of type os))) ((options_of-are bytes options).1 are) ∙ (lladdr_in-is (first_of type options) lladdr).1 is,
)
  where
    by : (found : Option (List (List ℕ))) → options_of bytes ≡ found
        → option_and_then (λ options. lladdr_in (first_of type options)) found ≡ Some lladdr → HasLladdr bytes type lladdr
    by None e is = absurd (cc)
    by (Some options) e is = (options, (options_of-are bytes options).0 e, (lladdr_in-is (first_of type options) lladdr).0 is)
