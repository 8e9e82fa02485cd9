-- The places of mappings: ports apart have places apart, and a write changes one of them.
use Rattle.std.proofs.Common.{ℕ, ◌≡◌, ◌≢◌, ◌∙◌, ◌-◌, ◌/◌, ◌<◌, ◌≤◌, ◌==◌, ◌⊎◌, inl, inr, List, length, min, refl, sym, ap, subst, arith, get_or, get_or-set_other, get_or-set_same}
use Rattle.std.proofs.Math.ListN.{set, length-set}
use Rattle.std.proofs.lemmas.Bool.{cases_eq, cond-false, cond-true, eq-eqb, ne_eqb}
use Rattle.app_nat.specs.Mapping.{IsOf}
use Rattle.app_nat.specs.Table.{HasPort, MapsTo, free_mapping, mapping_at, place_of, ports}
use Rattle.app_nat.specs.declared.mapping.Ipv4Endpoint.{Ipv4Endpoint}
use Rattle.app_nat.specs.declared.mapping.Mapping.{Mapping}
use Rattle.app_nat.specs.declared.nat.Nat.{Nat}
use Rattle.app_nat.specs.declared.state.Protocol.{Protocol}
use Rattle.app_nat.specs.declared.state.Protocol.TheVariants.{Udp, Tcp, Icmp}

-- ---- bounds

pub record IsWithin (nat : Nat) (len port : ℕ) : Type 0 where
  pub some : nat.first_port ≢ 0
  pub fits : port ≤ 65535
  pub exists : port - nat.first_port < len / 3

pub within : (nat : Nat) (len port : ℕ) → HasPort nat len port → IsWithin nat len port
within nat len port h = elim (cases_eq nat.first_port 0) [
  | inl none ↦
      let e : ports nat len ≡ 0 = cond-true (nat.first_port == 0) 0 (min (len / 3) (65536 - nat.first_port)) (eq-eqb nat.first_port 0 none) in
      absurd (omega (arith, h.least, h.most, e))
  | inr some ↦
      let e : ports nat len ≡ min (len / 3) (65536 - nat.first_port) = cond-false (nat.first_port == 0) 0 (min (len / 3) (65536 - nat.first_port)) (ne_eqb nat.first_port 0 some) in
      record { some = some; fits = omega (arith, h.least, h.most, e); exists = omega (arith, h.least, h.most, e) }
]

pub place-lt : (nat : Nat) (len : ℕ) (protocol : Protocol) (port : ℕ) → HasPort nat len port → place_of nat len protocol port < len
place-lt nat len Udp port h = let w = within nat len port h in omega (arith, w.exists)
place-lt nat len Tcp port h = let w = within nat len port h in omega (arith, w.exists)
place-lt nat len Icmp port h = let w = within nat len port h in omega (arith, w.exists)

-- ---- apart

parts-apart : (nat : Nat) (len : ℕ) (a b : Protocol) (p q : ℕ) → nat.first_port ≤ p → nat.first_port ≤ q → p - nat.first_port < len / 3 → q - nat.first_port < len / 3
    → place_of nat len a p ≡ place_of nat len b q → (a ≡ b) × (p ≡ q)
parts-apart nat len Udp Udp p q low least in_p in_q e = (refl, omega arith)
parts-apart nat len Tcp Tcp p q low least in_p in_q e = (refl, omega arith)
parts-apart nat len Icmp Icmp p q low least in_p in_q e = (refl, omega arith)
parts-apart nat len Udp Tcp p q low least in_p in_q e = absurd (omega arith)
parts-apart nat len Udp Icmp p q low least in_p in_q e = absurd (omega arith)
parts-apart nat len Tcp Udp p q low least in_p in_q e = absurd (omega arith)
parts-apart nat len Tcp Icmp p q low least in_p in_q e = absurd (omega arith)
parts-apart nat len Icmp Udp p q low least in_p in_q e = absurd (omega arith)
parts-apart nat len Icmp Tcp p q low least in_p in_q e = absurd (omega arith)

pub place-apart : (nat : Nat) (len : ℕ) (a b : Protocol) (p q : ℕ) → HasPort nat len p → HasPort nat len q → place_of nat len a p ≡ place_of nat len b q → (a ≡ b) × (p ≡ q)
place-apart nat len a b p q h i = parts-apart nat len a b p q h.least i.least (within nat len p h).exists (within nat len q i).exists

-- ---- a write

-- a write leaves the places
at-place : (nat : Nat) (old : List Mapping) (i : ℕ) (b : Protocol) (q : ℕ) (m : Mapping)
    → mapping_at nat (set old i m) b q ≡ get_or (set old i m) (place_of nat (length old) b q) free_mapping
at-place nat old i b q m = ap (λ n. get_or (set old i m) (place_of nat n b q) free_mapping) (length-set old i m)

pub same-at : (nat : Nat) (old : List Mapping) (a : Protocol) (p : ℕ) (m : Mapping) → HasPort nat (length old) p
    → mapping_at nat (set old (place_of nat (length old) a p) m) a p ≡ m
same-at nat old a p m h =
    let i = place_of nat (length old) a p in at-place nat old i a p m ∙ get_or-set_same old i m free_mapping (place-lt nat (length old) a p h)

pub other-at : (nat : Nat) (old : List Mapping) (a b : Protocol) (p q : ℕ) (m : Mapping) → place_of nat (length old) b q ≢ place_of nat (length old) a p
    → mapping_at nat (set old (place_of nat (length old) a p) m) b q ≡ mapping_at nat old b q
other-at nat old a b p q m apart =
    let i = place_of nat (length old) a p in at-place nat old i b q m ∙ get_or-set_other old i (place_of nat (length old) b q) m free_mapping apart

pub record IsThere (a b : Protocol) (p q : ℕ) (m : Mapping) (now : ℕ) (e : Ipv4Endpoint) : Type 0 where
  pub protocol : b ≡ a
  pub port : q ≡ p
  pub leads : IsOf e m
  pub live : now < m.expires

-- a live mapping after a write was there before, or is the one that was written
pub changed : (nat : Nat) (old : List Mapping) (now : ℕ) (a b : Protocol) (p q : ℕ) (m : Mapping) (e : Ipv4Endpoint) → HasPort nat (length old) p
    → MapsTo nat (set old (place_of nat (length old) a p) m) now b q e → MapsTo nat old now b q e ⊎ IsThere a b p q m now e
changed nat old now a b p q m e h new =
    let exists : HasPort nat (length old) q = subst (λ n. HasPort nat n q) (length-set old (place_of nat (length old) a p) m) new.exists in
    elim (cases_eq (place_of nat (length old) b q) (place_of nat (length old) a p)) [
      | inl same ↦
          let both = place-apart nat (length old) b a q p exists h same in
          let is : mapping_at nat (set old (place_of nat (length old) a p) m) b q ≡ m =
          (λ i. mapping_at nat (set old (place_of nat (length old) a p) m) (both.0 i) (both.1 i)) ∙ same-at nat old a p m h in
          inr (record { protocol = both.0; port = both.1; leads = subst (IsOf e) is new.leads; live = subst (λ (x : Mapping). now < x.expires) is new.live })
      | inr apart ↦
          let is = other-at nat old a b p q m apart in
          inl (record { exists = exists; live = subst (λ (x : Mapping). now < x.expires) is new.live; leads = subst (IsOf e) is new.leads })
    ]

-- a live mapping elsewhere stays
pub stays : (nat : Nat) (old : List Mapping) (now : ℕ) (a b : Protocol) (p q : ℕ) (m : Mapping) (e : Ipv4Endpoint) → place_of nat (length old) b q ≢ place_of nat (length old) a p
    → MapsTo nat old now b q e → MapsTo nat (set old (place_of nat (length old) a p) m) now b q e
stays nat old now a b p q m e apart was =
    let is = sym (other-at nat old a b p q m apart) in
    record {
      exists = subst (λ n. HasPort nat n q) (sym (length-set old (place_of nat (length old) a p) m)) was.exists;
      live = subst (λ (x : Mapping). now < x.expires) is was.live;
      leads = subst (IsOf e) is was.leads;
    }
