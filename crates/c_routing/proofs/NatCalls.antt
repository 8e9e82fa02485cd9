-- What C gets for a frame that a NAT with a table translates or rejects.
use Rattle.std.proofs.Common.{ℕ, ℤ, pos, ◌≡◌, ◌∙◌, ◌+◌, ◌-◌, ◌⊎◌, ◌<◌, ◌≤◌, ◌==◌, Bool, true, false, List, [], SFits, arith, if◌then◌else◌, inl, inr, length, min, of_z, refl, subst, subst₂, sym, take, to_z, w32}
use Rattle.std.proofs.Math.Nat.{zero-min}
use Rattle.std.proofs.lemmas.Int.{to_z-of_z}
use Rattle.app_nat.specs.Table.{Chooses, HasPort}
use Rattle.app_nat.specs.Table.Chooses.{kept, made}
use Rattle.app_nat.specs.declared.Event.{Event}
use Rattle.app_nat.specs.declared.Ipv4Endpoint.{Ipv4Endpoint}
use Rattle.app_nat.specs.declared.Mapping.{Mapping}
use Rattle.app_nat.specs.declared.Nat.{Nat}
use Rattle.app_nat.specs.Flows.{ComesIn, GoesOut, IsKeptInside, IsKeptOutside}
use Rattle.app_nat.specs.declared.translation.Rejection.{Rejection}
use Rattle.app_nat.specs.declared.translation.Rejection.TheVariants.{NotIpv4}
use Rattle.c_structs.specs.Written.{max_len}
use Rattle.c_routing.proofs.Tables.{IsUnused, IsUsed, part-before, part-stays}
use Rattle.c_routing.proofs.Translations.{nothing}
use Rattle.c_routing.proofs.Within.{within-itself, within-nothing}
use Rattle.c_routing.specs.Lengths.{in_bounds}
use Rattle.c_routing.specs.Nat.{TranslatesIn, TranslatesOut}
use Rattle.c_routing.specs.Rejections.{of_nat, rejection_code}

-- ---- an empty table

no-ports : (none : Bool) (n : ℕ) → (if none then 0 else min 0 n) ≡ 0
no-ports true n = refl
no-ports false n = zero-min n

no-port : (nat : Nat) (port : ℕ) → ¬ HasPort nat 0 port
no-port nat port it =
    let least = it.least in
    let most = subst (λ n. port < nat.first_port + n) (no-ports (nat.first_port == 0) (65536 - nat.first_port)) it.most in
    absurd (omega (arith, least, most))

no-choice : (nat : Nat) (now : ℕ) (event : Event) (inside remote : Ipv4Endpoint) (port : ℕ) (l : List Mapping) (m : Mapping)
    → ¬ Chooses nat [] now event inside remote port l m
no-choice nat now event inside remote port l m (kept first) = no-port nat port first.holds.exists
no-choice nat now event inside remote port l m (made unmapped first) = no-port nat port first.holds.exists

no-way-out : (nat : Nat) (new : List Mapping) (now : ℕ) (before after : List ℕ) → ¬ GoesOut nat [] new now before after
no-way-out nat new now before after (inl it) = no-choice nat now _ _ _ it.port it.opens.table it.opens.mapping it.opens.chosen
no-way-out nat new now before after (inr e) = no-port nat e.1.port e.1.maps.exists

no-way-in : (nat : Nat) (new : List Mapping) (now : ℕ) (before after : List ℕ) → ¬ ComesIn nat [] new now before after
no-way-in nat new now before after (inl it) = no-port nat it.packet.dst_port it.finds.mapped.exists
no-way-in nat new now before after (inr e) = no-port nat e.1.quoted.end.port e.1.maps.exists

-- ---- frames that are too long

pub long-out : (nat : Nat) (mappings : List Mapping) (now : ℕ) (frame : List ℕ) (answer : ℤ) → max_len < length frame → answer ≡ pos 2 → SFits w32 answer
    → TranslatesOut nat mappings mappings now frame frame (to_z w32 (of_z w32 answer))
long-out nat mappings now frame answer long is fits =
    inr (
      NotIpv4,
      to_z-of_z w32 answer fits ∙ is,
      subst (λ l. IsKeptInside nat (in_bounds mappings) now l NotIpv4) (sym (within-nothing frame long)) (inl ((λ other. cc), inl nothing)),
      refl,
      refl,
    )

pub long-in : (nat : Nat) (mappings : List Mapping) (now : ℕ) (frame : List ℕ) (answer : ℤ) → max_len < length frame → answer ≡ pos 2 → SFits w32 answer
    → TranslatesIn nat mappings mappings now frame frame (to_z w32 (of_z w32 answer))
long-in nat mappings now frame answer long is fits =
    inr (
      NotIpv4,
      to_z-of_z w32 answer fits ∙ is,
      subst (λ l. IsKeptOutside nat (in_bounds mappings) (in_bounds mappings) now l NotIpv4) (sym (within-nothing frame long))
          (inl ((λ other. cc), inl (inl nothing, refl))),
      refl,
    )

-- ---- frames that are translated

pub goes-out : (nat : Nat) (old part new : List Mapping) (k now : ℕ) (before after : List ℕ) → IsUsed old part new k ⊎ IsUnused old part new k
    → length before ≤ max_len → GoesOut nat (take k old) part now before after → TranslatesOut nat old new now before after (pos 0)
goes-out nat old part new k now before after (inl used) short it =
    inl (refl, record { short_table = used.fits; short_frame = short }, subst₂ (λ a b. GoesOut nat a b now before after) used.whole (sym used.becomes) it)
goes-out nat old part new k now before after (inr unused) short it =
    absurd (no-way-out nat part now before after (subst (λ l. GoesOut nat l part now before after) unused.nothing it))

pub comes-in : (nat : Nat) (old part new : List Mapping) (k now : ℕ) (before after : List ℕ) → IsUsed old part new k ⊎ IsUnused old part new k
    → length before ≤ max_len → ComesIn nat (take k old) part now before after → TranslatesIn nat old new now before after (pos 0)
comes-in nat old part new k now before after (inl used) short it =
    inl (refl, record { short_table = used.fits; short_frame = short }, subst₂ (λ a b. ComesIn nat a b now before after) used.whole (sym used.becomes) it)
comes-in nat old part new k now before after (inr unused) short it =
    absurd (no-way-in nat part now before after (subst (λ l. ComesIn nat l part now before after) unused.nothing it))

-- ---- frames that are rejected

pub stays-inside : (nat : Nat) (old part new : List Mapping) (k now : ℕ) (before after : List ℕ) (reason : Rejection) (answer : ℤ)
    → IsUsed old part new k ⊎ IsUnused old part new k → length before ≤ max_len → IsKeptInside nat (take k old) now before reason
    → part ≡ take k old → after ≡ before → answer ≡ pos (rejection_code (of_nat reason)) → SFits w32 answer
    → TranslatesOut nat old new now before after (to_z w32 (of_z w32 answer))
stays-inside nat old part new k now before after reason answer either short why same stays is fits =
    inr (
      reason,
      to_z-of_z w32 answer fits ∙ is,
      subst₂ (λ l b. IsKeptInside nat l now b reason) (part-before old part new k either) (sym (within-itself before short)) why,
      part-stays old part new k either same,
      stays,
    )

pub stays-outside : (nat : Nat) (old part new : List Mapping) (k now : ℕ) (before after : List ℕ) (reason : Rejection) (answer : ℤ)
    → IsUsed old part new k ⊎ IsUnused old part new k → part ≡ in_bounds new → length before ≤ max_len → IsKeptOutside nat (take k old) part now before reason
    → after ≡ before → answer ≡ pos (rejection_code (of_nat reason)) → SFits w32 answer
    → TranslatesIn nat old new now before after (to_z w32 (of_z w32 answer))
stays-outside nat old part new k now before after reason answer either bounded short why stays is fits =
    inr (
      reason,
      to_z-of_z w32 answer fits ∙ is,
      subst (λ b. IsKeptOutside nat (in_bounds old) (in_bounds new) now b reason) (sym (within-itself before short))
          (subst₂ (λ l m. IsKeptOutside nat l m now before reason) (part-before old part new k either) bounded why),
      stays,
    )
