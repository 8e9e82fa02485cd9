-- Writes that keep the invariant of the table.
use Rattle.std.proofs.Common.{ℕ, ◌≡◌, ◌≢◌, ◌∙◌, ◌+◌, ◌<◌, ◌≤◌, ◌==◌, inl, inr, List, length, max, min, refl, sym, ap, subst, arith, get_or, get_or-set_other, get_or-set_same}
use Rattle.std.proofs.Math.ListN.{set, length-set}
use Rattle.std.proofs.Math.Nat.{mul-le-mul_right}
use Rattle.std.proofs.lemmas.Bool.{cases_eq, cond-false, cond-true, eq-eqb, ne_eqb}
use Rattle.std.proofs.lemmas.Nat.{mod_below}
use Rattle.app_nat.proofs.Places.{changed, place-lt}
use Rattle.app_nat.proofs.Searches.{in-all-rows, ranked}
use Rattle.app_nat.specs.Mapping.{IsOf, with_reach}
use Rattle.app_nat.specs.Table.{HasPort, HasRank, IsCandidate, IsTable, IsUnmapped, MapsTo, all_rows, free_mapping, hash_of, home_of, mapping_at, mapping_at_home, noted, place_of, ports, row_len, row_of, rows_of, step_of}
use Rattle.app_nat.specs.declared.mapping.Ipv4Endpoint.{Ipv4Endpoint}
use Rattle.app_nat.specs.declared.mapping.Mapping.{Mapping}
use Rattle.app_nat.specs.declared.nat.Nat.{Nat}
use Rattle.app_nat.specs.declared.state.Protocol.{Protocol}

-- the mapping of one endpoint is the mapping of no other
pub same-end : (m : Mapping) (e f : Ipv4Endpoint) → IsOf e m → IsOf f m → e ≡ f
same-end m e f a b =
    let addr : e.addr ≡ f.addr = sym a.0 ∙ b.0 in
    let port : e.port ≡ f.port = sym a.1 ∙ b.1 in
    λ i. record { addr = addr i; port = port i }

-- ---- reaches that do not shrink

pub record Keeps (old new : List Mapping) : Type 0 where
  pub len : length new ≡ length old
  pub reach : (k : ℕ) → (get_or old k free_mapping).reach ≤ (get_or new k free_mapping).reach

-- a write that does not lower the reach of its place
pub set-keeps : (l : List Mapping) (i : ℕ) (m : Mapping) → i < length l → (get_or l i free_mapping).reach ≤ m.reach → Keeps l (set l i m)
set-keeps l i m here most = record {
  len = length-set l i m;
  reach = λ k. elim (cases_eq k i) [
    | inl same ↦
        let at : get_or (set l i m) k free_mapping ≡ m = ap (λ x. get_or (set l i m) x free_mapping) same ∙ get_or-set_same l i m free_mapping here in
        let was : get_or l k free_mapping ≡ get_or l i free_mapping = ap (λ x. get_or l x free_mapping) same in
        let a : (get_or (set l i m) k free_mapping).reach ≡ m.reach = ap (λ (x : Mapping). x.reach) at in
        let b : (get_or l k free_mapping).reach ≡ (get_or l i free_mapping).reach = ap (λ (x : Mapping). x.reach) was in
        omega (arith, a, b, most)
    | inr apart ↦
        let a : (get_or (set l i m) k free_mapping).reach ≡ (get_or l k free_mapping).reach = ap (λ (x : Mapping). x.reach) (get_or-set_other l i k m free_mapping apart) in
        omega (arith, a)
  ];
}

-- then a candidate stays one
pub candidate-stays : (nat : Nat) (old new : List Mapping) (b : Protocol) (e : Ipv4Endpoint) (q : ℕ) → Keeps old new → IsCandidate nat old b e q → IsCandidate nat new b e q
candidate-stays nat old new b e q keeps (inl own) = inl own
candidate-stays nat old new b e q keeps (inr r) =
    let rows : ℕ → ℕ = λ n. min (1 + (get_or new (place_of nat n b (home_of nat n e)) free_mapping).reach) (all_rows nat n e) in
    let count = ports nat (length old) in
    let more : rows_of nat old b e ≤ rows (length old) =
    let reach = keeps.reach (place_of nat (length old) b (home_of nat (length old) e)) in omega (arith, reach) in
    let most = mul-le-mul_right (row_len count (step_of nat.key count e)) more in
    let here : HasRank nat (length old) e (rows (length old)) q = record { rank = r.rank; within = omega (arith, r.within, most); is = r.is } in
    inr (subst (λ n. HasRank nat n e (rows n) q) (sym keeps.len) here)

-- ---- a row that is noted

-- the home of an endpoint is an outside port
pub home-port : (nat : Nat) (len port : ℕ) (inside : Ipv4Endpoint) → HasPort nat len port → HasPort nat len (home_of nat len inside)
home-port nat len port inside exists =
    let begins = mod_below (hash_of nat.key inside) (max 1 (ports nat len)) (omega arith) in
    record { least = omega arith; most = omega (arith, begins, exists.least, exists.most) }

-- the mapping that is written at the home
abbrev pub home_mapping : Nat → List Mapping → Protocol → Ipv4Endpoint → ℕ → Mapping
home_mapping nat old a inside port = with_reach (max (mapping_at_home nat old a inside).reach (row_of nat (length old) inside port)) (mapping_at_home nat old a inside)

pub noted-own : (nat : Nat) (old : List Mapping) (a : Protocol) (inside : Ipv4Endpoint) (port : ℕ) → port ≡ inside.port → noted nat old a inside port ≡ old
noted-own nat old a inside port own =
    cond-true (port == inside.port) old (set old (place_of nat (length old) a (home_of nat (length old) inside)) (home_mapping nat old a inside port)) (eq-eqb port inside.port own)

pub noted-other : (nat : Nat) (old : List Mapping) (a : Protocol) (inside : Ipv4Endpoint) (port : ℕ) → port ≢ inside.port
    → noted nat old a inside port ≡ set old (place_of nat (length old) a (home_of nat (length old) inside)) (home_mapping nat old a inside port)
noted-other nat old a inside port apart =
    cond-false (port == inside.port) old (set old (place_of nat (length old) a (home_of nat (length old) inside)) (home_mapping nat old a inside port)) (ne_eqb port inside.port apart)

pub noted-keeps : (nat : Nat) (old : List Mapping) (a : Protocol) (inside : Ipv4Endpoint) (port : ℕ) → HasPort nat (length old) port → Keeps old (noted nat old a inside port)
noted-keeps nat old a inside port exists = elim (cases_eq port inside.port) [
  | inl own ↦ subst (Keeps old) (sym (noted-own nat old a inside port own)) (record { len = refl; reach = λ k. omega arith })
  | inr apart ↦ subst (Keeps old) (sym (noted-other nat old a inside port apart))
      (set-keeps old _ (home_mapping nat old a inside port) (place-lt nat (length old) a _ (home-port nat (length old) port inside exists)) (omega arith))
]

-- a note changes only a reach
pub noted-at : (nat : Nat) (old : List Mapping) (a : Protocol) (inside : Ipv4Endpoint) (port k : ℕ) → HasPort nat (length old) port
    → get_or (noted nat old a inside port) k free_mapping ≡ with_reach (get_or (noted nat old a inside port) k free_mapping).reach (get_or old k free_mapping)
noted-at nat old a inside port k exists = elim (cases_eq port inside.port) [
  | inl own ↦ subst (λ l. get_or l k free_mapping ≡ with_reach (get_or l k free_mapping).reach (get_or old k free_mapping)) (sym (noted-own nat old a inside port own)) refl
  | inr apart ↦
      let home = place_of nat (length old) a (home_of nat (length old) inside) in
      let m = home_mapping nat old a inside port in
      let here = place-lt nat (length old) a _ (home-port nat (length old) port inside exists) in
      subst (λ l. get_or l k free_mapping ≡ with_reach (get_or l k free_mapping).reach (get_or old k free_mapping)) (sym (noted-other nat old a inside port apart))
      (elim (cases_eq k home) [
        | inl same ↦ subst (λ x. get_or (set old home m) x free_mapping ≡ with_reach (get_or (set old home m) x free_mapping).reach (get_or old x free_mapping)) (sym same)
            (subst (λ (x : Mapping). x ≡ with_reach x.reach (get_or old home free_mapping)) (sym (get_or-set_same old home m free_mapping here)) refl)
        | inr differ ↦ subst (λ (x : Mapping). x ≡ with_reach x.reach (get_or old k free_mapping)) (sym (get_or-set_other old home k m free_mapping differ)) refl
      ])
]

-- the mapping of a port after the note
pub noted-mapping : (nat : Nat) (old : List Mapping) (a b : Protocol) (inside : Ipv4Endpoint) (port q : ℕ) → HasPort nat (length old) port
    → mapping_at nat (noted nat old a inside port) b q ≡ with_reach (mapping_at nat (noted nat old a inside port) b q).reach (mapping_at nat old b q)
noted-mapping nat old a b inside port q exists =
    let l = noted nat old a inside port in
    subst (λ n. get_or l (place_of nat n b q) free_mapping ≡ with_reach (get_or l (place_of nat n b q) free_mapping).reach (mapping_at nat old b q))
    (sym (noted-keeps nat old a inside port exists).len) (noted-at nat old a inside port (place_of nat (length old) b q) exists)

pub noted-maps : (nat : Nat) (old : List Mapping) (now : ℕ) (a b : Protocol) (inside e : Ipv4Endpoint) (port q : ℕ) → HasPort nat (length old) port
    → MapsTo nat (noted nat old a inside port) now b q e → MapsTo nat old now b q e
noted-maps nat old now a b inside e port q exists new =
    let at = noted-mapping nat old a b inside port q exists in
    record {
      exists = subst (λ n. HasPort nat n q) (noted-keeps nat old a inside port exists).len new.exists;
      live = subst (λ (x : Mapping). now < x.expires) at new.live;
      leads = subst (IsOf e) at new.leads;
    }

-- the endpoint is searched for at the port that was noted
pub noted-candidate : (nat : Nat) (old : List Mapping) (a : Protocol) (inside : Ipv4Endpoint) (port : ℕ) → HasPort nat (length old) port
    → IsCandidate nat (noted nat old a inside port) a inside port
noted-candidate nat old a inside port exists = elim (cases_eq port inside.port) [
  | inl own ↦ inl own
  | inr apart ↦
      let l = noted nat old a inside port in
      let len = (noted-keeps nat old a inside port exists).len in
      let home = place_of nat (length old) a (home_of nat (length old) inside) in
      let m = home_mapping nat old a inside port in
      let here = place-lt nat (length old) a _ (home-port nat (length old) port inside exists) in
      let rows : ℕ → ℕ = λ n. min (1 + (get_or l (place_of nat n a (home_of nat n inside)) free_mapping).reach) (all_rows nat n inside) in
      let at : get_or l home free_mapping ≡ m = ap (λ x. get_or x home free_mapping) (noted-other nat old a inside port apart) ∙ get_or-set_same old home m free_mapping here in
      let reach : (get_or l home free_mapping).reach ≡ m.reach = ap (λ (x : Mapping). x.reach) at in
      let within = in-all-rows nat (length old) inside port in
      let row : row_of nat (length old) inside port < rows (length old) = omega (arith, reach, within) in
      inr (subst (λ n. HasRank nat n inside (rows n) port) (sym len) (ranked nat (length old) inside (rows (length old)) port exists row))
]

pub noted-table : (nat : Nat) (old : List Mapping) (now : ℕ) (a : Protocol) (inside : Ipv4Endpoint) (port : ℕ) → HasPort nat (length old) port
    → IsTable nat old now → IsTable nat (noted nat old a inside port) now
noted-table nat old now a inside port exists table = record {
  placed = λ b q e new. candidate-stays nat old (noted nat old a inside port) b e q (noted-keeps nat old a inside port exists)
      (table.placed b q e (noted-maps nat old now a b inside e port q exists new));
  apart = λ b q r e first second. table.apart b q r e (noted-maps nat old now a b inside e port q exists first) (noted-maps nat old now a b inside e port r exists second);
}

-- ---- a mapping that is written again with its inside endpoint

again : (nat : Nat) (old : List Mapping) (now : ℕ) (a b : Protocol) (p q : ℕ) (m : Mapping) (i e : Ipv4Endpoint) → MapsTo nat old now a p i → IsOf i m
    → MapsTo nat (set old (place_of nat (length old) a p) m) now b q e → MapsTo nat old now b q e
again nat old now a b p q m i e was of new = elim (changed nat old now a b p q m e was.exists new) [
  | inl old ↦ old
  | inr there ↦
      let first : MapsTo nat old now a p e = subst (λ x. MapsTo nat old now a p x) (same-end m i e of there.leads) was in
      let second : MapsTo nat old now b p e = subst (λ x. MapsTo nat old now x p e) (sym there.protocol) first in
      subst (λ x. MapsTo nat old now b x e) (sym there.port) second
]

pub again-table : (nat : Nat) (old : List Mapping) (now : ℕ) (a : Protocol) (p : ℕ) (m : Mapping) (i : Ipv4Endpoint) → MapsTo nat old now a p i → IsOf i m
    → (mapping_at nat old a p).reach ≤ m.reach → IsTable nat old now → IsTable nat (set old (place_of nat (length old) a p) m) now
again-table nat old now a p m i was of most table = record {
  placed = λ b q e new. candidate-stays nat old (set old (place_of nat (length old) a p) m) b e q
      (set-keeps old (place_of nat (length old) a p) m (place-lt nat (length old) a p was.exists) most) (table.placed b q e (again nat old now a b p q m i e was of new));
  apart = λ b q r e first second. table.apart b q r e (again nat old now a b p q m i e was of first) (again nat old now a b p r m i e was of second);
}

-- ---- a mapping that is new

pub made-table : (nat : Nat) (old : List Mapping) (now : ℕ) (a : Protocol) (p : ℕ) (m : Mapping) (i : Ipv4Endpoint) → HasPort nat (length old) p
    → IsCandidate nat old a i p → ((q : ℕ) → ¬ MapsTo nat old now a q i) → IsOf i m → (mapping_at nat old a p).reach ≤ m.reach
    → IsTable nat old now → IsTable nat (set old (place_of nat (length old) a p) m) now
made-table nat old now a p m i exists candidate unmapped of most table =
    let keeps = set-keeps old (place_of nat (length old) a p) m (place-lt nat (length old) a p exists) most in
    let none : (b : Protocol) (q : ℕ) (e : Ipv4Endpoint) → b ≡ a → IsOf e m → ¬ MapsTo nat old now b q e = λ b q e same leads was.
    (let here : MapsTo nat old now a q e = subst (λ x. MapsTo nat old now x q e) same was in
    unmapped q (subst (λ x. MapsTo nat old now a q x) (same-end m e i leads of) here)) in
    record {
      placed = λ b q e new. candidate-stays nat old (set old (place_of nat (length old) a p) m) b e q keeps
          (elim (changed nat old now a b p q m e exists new) [
            | inl old ↦ table.placed b q e old
            | inr there ↦
                let first : IsCandidate nat old a e p = subst (λ x. IsCandidate nat old a x p) (same-end m i e of there.leads) candidate in
                let second : IsCandidate nat old b e p = subst (λ x. IsCandidate nat old x e p) (sym there.protocol) first in
                subst (λ x. IsCandidate nat old b e x) (sym there.port) second
          ]);
      apart = λ b q r e first second. elim (changed nat old now a b p q m e exists first) [
        | inl was ↦ elim (changed nat old now a b p r m e exists second) [
          | inl other ↦ table.apart b q r e was other
          | inr there ↦ absurd (none b q e there.protocol there.leads was)
        ]
        | inr here ↦ elim (changed nat old now a b p r m e exists second) [
          | inl other ↦ absurd (none b r e here.protocol here.leads other)
          | inr there ↦ here.port ∙ sym there.port
        ]
      ];
    }

-- an endpoint without a live mapping gets one
pub new-table : (nat : Nat) (old : List Mapping) (now : ℕ) (a : Protocol) (p : ℕ) (m : Mapping) (i : Ipv4Endpoint) → HasPort nat (length old) p
    → IsUnmapped nat old now a i → IsOf i m → (mapping_at nat (noted nat old a i p) a p).reach ≤ m.reach
    → IsTable nat old now → IsTable nat (set (noted nat old a i p) (place_of nat (length old) a p) m) now
new-table nat old now a p m i exists unmapped of most table =
    let l = noted nat old a i p in
    let len = (noted-keeps nat old a i p exists).len in
    let none : (q : ℕ) → ¬ MapsTo nat l now a q i = λ q new.
    (let was = noted-maps nat old now a a i i p q exists new in unmapped q (table.placed a q i was) was) in
    subst (λ n. IsTable nat (set l (place_of nat n a p) m) now) len
    (made-table nat l now a p m i (subst (λ n. HasPort nat n p) (sym len) exists) (noted-candidate nat old a i p exists) none of most (noted-table nat old now a i p exists table))
