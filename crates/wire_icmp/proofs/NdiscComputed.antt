-- `ndisc_of` computes the value that a message parses as.
use Rattle.std.proofs.Common.{ℕ, ◌≡◌, ◌↔◌, ◌≤◌, Bool, true, false, List, Option, Some, None, Result, Ok, Err, IsTrue, inl, inr, ◌==◌, if◌then◌else◌, length, slice_range, drop, refl, sym, ap, ◌∙◌, arith}
use Rattle.std.proofs.lemmas.Bool.{cases_Bool}
use Rattle.std.proofs.lemmas.Bool.Decides.{Decides-eqb, nat_tests}
use Rattle.net_base.specs.declared.error.Error.{Error}
use Rattle.std.specs.Option.{option_and_then, option_map}
use Rattle.std.specs.Result.{result_ok}
use Rattle.std.specs.Bool.{Decides}
use Rattle.std.proofs.lemmas.Option.{same_Some}
use Rattle.wire_addr.specs.declared.ethernet_address.EthernetAddress.{EthernetAddress}
use Rattle.wire_addr.specs.declared.ip_address.IpAddress.TheVariants as address
use Rattle.net_base.specs.Field.{field}
use Rattle.wire_icmp.specs.Icmp.{Verifies}
use Rattle.wire_icmp.proofs.Addresses.{is_allowed-IsAllowed}
use Rattle.wire_icmp.proofs.OptionsComputed.{lladdr_of-has}
use Rattle.wire_icmp.specs.NdOption.{HasLladdr, lladdr_of}
use Rattle.wire_icmp.specs.Ndisc.{HasFlags, IsAllowed, Reads, address_in, flags_of, is_allowed, is_sound, ndisc_of, option_type, target_of, type_of, value_of}
use Rattle.wire_icmp.specs.declared.ndisc.repr.NdiscRepr.{NdiscRepr}
use Rattle.wire_icmp.specs.declared.ndisc.repr.NdiscRepr.TheVariants.{NeighborSolicit, NeighborAdvert}

-- the fields of a message have the value
record Fields (bytes : List ℕ) (v : NdiscRepr) : Type 0 where
  type : field bytes 0 8 ≡ type_of v
  flags : HasFlags bytes v
  target : target_of v ≡ slice_range bytes 8 24
  lladdr : HasLladdr (drop 24 bytes) (option_type v) (address_in v)

-- the facts beside fields and rules for addresses
record Sound (src dst : List ℕ) (hop_limit : ℕ) (verified : Bool) (bytes : List ℕ) : Type 0 where
  least : 24 ≤ length bytes
  hops : hop_limit ≡ 255
  checksum : IsTrue verified → Verifies (address.Ipv6 src) (address.Ipv6 dst) bytes
  code : field bytes 8 8 ≡ 0

is_sound-Sound : (src dst : List ℕ) (hop_limit : ℕ) (verified : Bool) (bytes : List ℕ) → Decides (is_sound (address.Ipv6 src) (address.Ipv6 dst) hop_limit verified bytes) (Sound src dst hop_limit verified bytes)
is_sound-Sound src dst hop_limit true bytes = grind (arith, nat_tests)
is_sound-Sound src dst hop_limit false bytes = grind (arith, nat_tests)

solicit-Fields : (bytes : List ℕ) (v : NdiscRepr) → field bytes 0 8 ≡ 135 → (l : Option (Option EthernetAddress)) → lladdr_of 1 (drop 24 bytes) ≡ l
    → option_map (λ lladdr. NeighborSolicit (slice_range bytes 8 24) lladdr) l ≡ Some v → Fields bytes v
solicit-Fields bytes v type None e is = absurd (cc)
solicit-Fields bytes v type (Some lladdr) e is =
    let same : NeighborSolicit (slice_range bytes 8 24) lladdr ≡ v = same_Some _ v is in
    rw (← same) (record { type = type; flags = tt; target = refl; lladdr = (lladdr_of-has 1 (drop 24 bytes) lladdr).0 e })

advert-Fields : (bytes : List ℕ) (v : NdiscRepr) → field bytes 0 8 ≡ 136 → (l : Option (Option EthernetAddress)) → lladdr_of 2 (drop 24 bytes) ≡ l
    → option_map (λ lladdr. NeighborAdvert (flags_of bytes) (slice_range bytes 8 24) lladdr) l ≡ Some v → Fields bytes v
advert-Fields bytes v type None e is = absurd (cc)
advert-Fields bytes v type (Some lladdr) e is =
    let same : NeighborAdvert (flags_of bytes) (slice_range bytes 8 24) lladdr ≡ v = same_Some _ v is in
    rw (← same) (record { type = type; flags = refl; target = refl; lladdr = (lladdr_of-has 2 (drop 24 bytes) lladdr).0 e })

value_of-Fields : (bytes : List ℕ) (v : NdiscRepr) → value_of bytes ≡ Some v → Fields bytes v
value_of-Fields bytes v = elim (cases_Bool (field bytes 0 8 == 135)) [
  | inl solicit ↦ rw solicit (solicit-Fields bytes v ((Decides-eqb _ _).0 solicit) (lladdr_of 1 (drop 24 bytes)) refl)
  | inr not_solicit ↦ rw not_solicit (elim (cases_Bool (field bytes 0 8 == 136)) [
    | inl advert ↦ rw advert (advert-Fields bytes v ((Decides-eqb _ _).0 advert) (lladdr_of 2 (drop 24 bytes)) refl)
    | inr other ↦ rw other (λ is. absurd (cc))
  ])
]

Fields-value_of : (bytes : List ℕ) (v : NdiscRepr) → Fields bytes v → value_of bytes ≡ Some v
Fields-value_of bytes (NeighborSolicit target lladdr) f =
    rw (f.type, f.target, (lladdr_of-has 1 (drop 24 bytes) lladdr).1 f.lladdr) refl
Fields-value_of bytes (NeighborAdvert flags target lladdr) f =
    rw (f.type, f.flags, f.target, (lladdr_of-has 2 (drop 24 bytes) lladdr).1 f.lladdr) refl

-- the value, of the address that was found
pub value_of-solicit : (bytes : List ℕ) (found : Option (Option EthernetAddress)) → field bytes 0 8 ≡ 135 → lladdr_of 1 (drop 24 bytes) ≡ found
    → value_of bytes ≡ option_map (λ lladdr. NeighborSolicit (slice_range bytes 8 24) lladdr) found
value_of-solicit bytes found type is = rw (type, is) refl

pub value_of-advert : (bytes : List ℕ) (found : Option (Option EthernetAddress)) → field bytes 0 8 ≡ 136 → lladdr_of 2 (drop 24 bytes) ≡ found
    → value_of bytes ≡ option_map (λ lladdr. NeighborAdvert (flags_of bytes) (slice_range bytes 8 24) lladdr) found
value_of-advert bytes found type is = rw (type, is) refl

-- two tests that imply each other
decided : (a b : Bool) → (IsTrue a → IsTrue b) → (IsTrue b → IsTrue a) → a ≡ b
decided true true f g = refl
decided true false f g = sym (f refl)
decided false true f g = g refl
decided false false f g = refl

-- the computed value is the one that the relation `Reads` defines
pub ndisc_of_Reads : (src dst : List ℕ) (hop_limit : ℕ) (verified : Bool) (bytes : List ℕ) (v : NdiscRepr)
    → (ndisc_of src dst hop_limit verified bytes ≡ Some v) ↔ Reads bytes src dst hop_limit verified v
unfolding ndisc_of
ndisc_of_Reads src dst hop_limit verified bytes v = (to, from)
  where
    by_test : Sound src dst hop_limit verified bytes → (w : NdiscRepr) → Fields bytes w → (b : Bool) → is_allowed w src dst ≡ b
        → if b then Some w else None ≡ Some v → Reads bytes src dst hop_limit verified v
    by_test s w f false e is = absurd (cc)
    by_test s w f true e is =
        let same : w ≡ v = same_Some w v is in
        rw (← same) (record {
          least = s.least;
          hops = s.hops;
          checksum = s.checksum;
          type = f.type;
          code = s.code;
          flags = f.flags;
          target = f.target;
          lladdr = f.lladdr;
          allowed = (is_allowed-IsAllowed w src dst).0 e;
        })

    by_value : Sound src dst hop_limit verified bytes → (r : Option NdiscRepr) → value_of bytes ≡ r
        → option_and_then (λ w. if is_allowed w src dst then Some w else None) r ≡ Some v → Reads bytes src dst hop_limit verified v
    by_value s None e is = absurd (cc)
    by_value s (Some w) e is = by_test s w (value_of-Fields bytes w e) (is_allowed w src dst) refl is

    by_sound : (b : Bool) → is_sound (address.Ipv6 src) (address.Ipv6 dst) hop_limit verified bytes ≡ b
        → (if b then option_and_then (λ w. if is_allowed w src dst then Some w else None) (value_of bytes) else None) ≡ Some v → Reads bytes src dst hop_limit verified v
    by_sound false e is = absurd (cc)
    by_sound true e is = by_value ((is_sound-Sound src dst hop_limit verified bytes).0 e) (value_of bytes) refl is

    to : ndisc_of src dst hop_limit verified bytes ≡ Some v → Reads bytes src dst hop_limit verified v
    to = by_sound (is_sound (address.Ipv6 src) (address.Ipv6 dst) hop_limit verified bytes) refl

    from : Reads bytes src dst hop_limit verified v → ndisc_of src dst hop_limit verified bytes ≡ Some v
    from r =
        let f : Fields bytes v = record { type = r.type; flags = r.flags; target = r.target; lladdr = r.lladdr } in
        let s : Sound src dst hop_limit verified bytes = record { least = r.least; hops = r.hops; checksum = r.checksum; code = r.code } in
        rw ((is_sound-Sound src dst hop_limit verified bytes).1 s, Fields-value_of bytes v f, (is_allowed-IsAllowed v src dst).1 r.allowed) refl

-- ---- the steps of `parse`

-- its result is the computed value, which is the one that the relation defines
pub answer-Reads : (src dst : List ℕ) (hop_limit : ℕ) (verified : Bool) (bytes : List ℕ) (answer : Result NdiscRepr Error)
    → ndisc_of src dst hop_limit verified bytes ≡ result_ok answer → (v : NdiscRepr) → (answer ≡ Ok v) ↔ Reads bytes src dst hop_limit verified v
answer-Reads src dst hop_limit verified bytes (Ok w) is v =
    let same = ndisc_of_Reads src dst hop_limit verified bytes v in
    (λ e. same.0 (is ∙ ap result_ok e), λ r. ap Ok (same_Some w v (sym is ∙ same.1 r)))
answer-Reads src dst hop_limit verified bytes (Err w) is v =
    let same = ndisc_of_Reads src dst hop_limit verified bytes v in
    (λ e. absurd (cc), λ r. let no : None ≡ Some v = sym is ∙ same.1 r in absurd (cc))

pub ndisc_of-unsound : (src dst : List ℕ) (hop_limit : ℕ) (verified : Bool) (bytes : List ℕ) → is_sound (address.Ipv6 src) (address.Ipv6 dst) hop_limit verified bytes ≡ false
    → ndisc_of src dst hop_limit verified bytes ≡ None
unfolding ndisc_of
ndisc_of-unsound src dst hop_limit verified bytes not = rw not refl

pub ndisc_of-no_fields : (src dst : List ℕ) (hop_limit : ℕ) (verified : Bool) (bytes : List ℕ) → is_sound (address.Ipv6 src) (address.Ipv6 dst) hop_limit verified bytes ≡ true
    → value_of bytes ≡ None → ndisc_of src dst hop_limit verified bytes ≡ None
unfolding ndisc_of
ndisc_of-no_fields src dst hop_limit verified bytes sound none = rw (sound, none) refl

-- with fields and all else valid, the rules for addresses decide
pub ndisc_of-allowed : (src dst : List ℕ) (hop_limit : ℕ) (verified : Bool) (bytes : List ℕ) (v : NdiscRepr) (allowed : Bool)
    → is_sound (address.Ipv6 src) (address.Ipv6 dst) hop_limit verified bytes ≡ true → value_of bytes ≡ Some v → (IsTrue allowed ↔ IsAllowed v src dst)
    → ndisc_of src dst hop_limit verified bytes ≡ if allowed then Some v else None
unfolding ndisc_of
ndisc_of-allowed src dst hop_limit verified bytes v allowed sound value is =
    let test = is_allowed-IsAllowed v src dst in
    let same : is_allowed v src dst ≡ allowed = decided (is_allowed v src dst) allowed (λ t. is.1 (test.0 t)) (λ t. test.1 (is.0 t)) in
    rw (sound, value, same) refl
