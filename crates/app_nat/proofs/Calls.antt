-- What `open` and `find` do, from the mapping that they choose.
use Rattle.std.proofs.Common.{ℕ, ◌≡◌, ◌∙◌, ◌<◌, ◌≤◌, ◌&&◌, not, arith, List, length, refl, sym, ap, subst, get_or}
use Rattle.std.proofs.Math.ListN.{set}
use Rattle.std.proofs.lemmas.Bool.{cond_both}
use Rattle.std.proofs.lemmas.List.{get_or_default}
use Rattle.app_nat.proofs.Places.{place-lt}
use Rattle.app_nat.proofs.Tables.{again-table, new-table, noted-keeps}
use Rattle.app_nat.specs.Mapping.{IsOf, after_end, after_inbound, after_outbound, inside_of, is_shared, new_mapping}
use Rattle.app_nat.specs.State.{ends_connection, protocol_of}
use Rattle.app_nat.specs.Table.{Chooses, HasPort, IsFirstFree, IsFirstMapped, IsTable, IsUnmapped, MapsTo, Opens, free_mapping, kept, made, mapping_at, noted, place_of}
use Rattle.app_nat.specs.declared.mapping.Ipv4Endpoint.{Ipv4Endpoint}
use Rattle.app_nat.specs.declared.mapping.Mapping.{Mapping}
use Rattle.app_nat.specs.declared.nat.Nat.{Nat}
use Rattle.app_nat.specs.declared.state.Event.{Event}

-- the mapping that is read at the place of an outside port
pub read-at : (nat : Nat) (old : List Mapping) (now : ℕ) (event : Event) (port : ℕ) (inside : Ipv4Endpoint) (d : Mapping)
    → MapsTo nat old now (protocol_of event) port inside → get_or old (place_of nat (length old) (protocol_of event) port) d ≡ mapping_at nat old (protocol_of event) port
read-at nat old now event port inside d mapped =
    get_or_default old (place_of nat (length old) (protocol_of event) port) d free_mapping (place-lt nat (length old) (protocol_of event) port mapped.exists)

-- ---- a mapping that is kept

pub kept-opens : (nat : Nat) (old : List Mapping) (now : ℕ) (event : Event) (inside remote : Ipv4Endpoint) (port : ℕ) (m d : Mapping)
    → IsFirstMapped nat old now (protocol_of event) inside port
    → m ≡ after_outbound nat now event remote (get_or old (place_of nat (length old) (protocol_of event) port) d)
    → Opens nat old (set old (place_of nat (length old) (protocol_of event) port) m) now event inside remote port
kept-opens nat old now event inside remote port m d first is =
    let same : m ≡ after_outbound nat now event remote (mapping_at nat old (protocol_of event) port) =
    is ∙ ap (after_outbound nat now event remote) (read-at nat old now event port inside d first.holds) in
    record {
      table = old;
      mapping = m;
      chosen = subst (Chooses nat old now event inside remote port old) (sym same) (kept first);
      becomes = refl;
    }

pub kept-table : (nat : Nat) (old : List Mapping) (now : ℕ) (event : Event) (inside remote : Ipv4Endpoint) (port : ℕ) (m d : Mapping)
    → MapsTo nat old now (protocol_of event) port inside
    → m ≡ after_outbound nat now event remote (get_or old (place_of nat (length old) (protocol_of event) port) d)
    → IsTable nat old now → IsTable nat (set old (place_of nat (length old) (protocol_of event) port) m) now
kept-table nat old now event inside remote port m d mapped is table =
    let same : m ≡ after_outbound nat now event remote (mapping_at nat old (protocol_of event) port) =
    is ∙ ap (after_outbound nat now event remote) (read-at nat old now event port inside d mapped) in
    let reach : m.reach ≡ (mapping_at nat old (protocol_of event) port).reach = ap (λ (x : Mapping). x.reach) same in
    again-table nat old now (protocol_of event) port m inside mapped (subst (IsOf inside) (sym same) mapped.leads) (omega (arith, reach)) table

-- ---- a mapping that is new

-- the mapping that is read at the place of a port after its row was noted
pub noted-read : (nat : Nat) (old : List Mapping) (event : Event) (inside : Ipv4Endpoint) (port : ℕ) (d : Mapping) → HasPort nat (length old) port
    → get_or (noted nat old (protocol_of event) inside port) (place_of nat (length old) (protocol_of event) port) d
    ≡ mapping_at nat (noted nat old (protocol_of event) inside port) (protocol_of event) port
noted-read nat old event inside port d exists =
    let l = noted nat old (protocol_of event) inside port in
    let len = (noted-keeps nat old (protocol_of event) inside port exists).len in
    get_or_default l (place_of nat (length old) (protocol_of event) port) d free_mapping
    (subst (λ n. place_of nat (length old) (protocol_of event) port < n) (sym len) (place-lt nat (length old) (protocol_of event) port exists))
    ∙ ap (λ n. get_or l (place_of nat n (protocol_of event) port) free_mapping) (sym len)

pub made-opens : (nat : Nat) (old : List Mapping) (now : ℕ) (event : Event) (inside remote : Ipv4Endpoint) (port : ℕ) (m d : Mapping)
    → IsUnmapped nat old now (protocol_of event) inside → IsFirstFree nat old now (protocol_of event) inside port
    → m ≡ after_outbound nat now event remote (new_mapping inside remote
    (get_or (noted nat old (protocol_of event) inside port) (place_of nat (length old) (protocol_of event) port) d).reach)
    → Opens nat old (set (noted nat old (protocol_of event) inside port) (place_of nat (length old) (protocol_of event) port) m) now event inside remote port
made-opens nat old now event inside remote port m d unmapped first is =
    let l = noted nat old (protocol_of event) inside port in
    let same = is ∙ ap (λ (x : Mapping). after_outbound nat now event remote (new_mapping inside remote x.reach)) (noted-read nat old event inside port d first.holds.exists) in
    record {
      table = l;
      mapping = m;
      chosen = subst (Chooses nat old now event inside remote port l) (sym same) (made unmapped first);
      becomes = refl;
    }

pub made-table : (nat : Nat) (old : List Mapping) (now : ℕ) (event : Event) (inside remote : Ipv4Endpoint) (port : ℕ) (m d : Mapping)
    → IsUnmapped nat old now (protocol_of event) inside → IsFirstFree nat old now (protocol_of event) inside port
    → m ≡ after_outbound nat now event remote (new_mapping inside remote
    (get_or (noted nat old (protocol_of event) inside port) (place_of nat (length old) (protocol_of event) port) d).reach)
    → IsTable nat old now → IsTable nat (set (noted nat old (protocol_of event) inside port) (place_of nat (length old) (protocol_of event) port) m) now
made-table nat old now event inside remote port m d unmapped first is table =
    let same = is ∙ ap (λ (x : Mapping). after_outbound nat now event remote (new_mapping inside remote x.reach)) (noted-read nat old event inside port d first.holds.exists) in
    let reach : m.reach ≡ (mapping_at nat (noted nat old (protocol_of event) inside port) (protocol_of event) port).reach = ap (λ (x : Mapping). x.reach) same in
    new-table nat old now (protocol_of event) port m inside first.holds.exists unmapped (subst (IsOf inside) (sym is) (refl, refl)) (omega (arith, reach)) table

-- ---- an inbound packet

-- an inbound packet does not change the inside endpoint
pub after_inbound-inside : (nat : Nat) (now : ℕ) (event : Event) (remote : Ipv4Endpoint) (m : Mapping) (inside : Ipv4Endpoint) → IsOf inside m
    → IsOf inside (after_inbound nat now event remote m)
after_inbound-inside nat now event remote m inside of = cond_both _ _ _ (IsOf inside) (λ _. of) (λ _. of)

-- nor the reach of its place
after_inbound-reach : (nat : Nat) (now : ℕ) (event : Event) (remote : Ipv4Endpoint) (m : Mapping) → m.reach ≤ (after_inbound nat now event remote m).reach
after_inbound-reach nat now event remote m =
    cond_both (ends_connection event && not (is_shared m remote)) (after_end nat now event m) m (λ (x : Mapping). m.reach ≤ x.reach) (λ _. omega arith) (λ _. omega arith)

pub found-table : (nat : Nat) (old : List Mapping) (now : ℕ) (event : Event) (remote : Ipv4Endpoint) (port : ℕ) (m d : Mapping) → HasPort nat (length old) port
    → now < (get_or old (place_of nat (length old) (protocol_of event) port) d).expires
    → m ≡ after_inbound nat now event remote (get_or old (place_of nat (length old) (protocol_of event) port) d)
    → IsTable nat old now → IsTable nat (set old (place_of nat (length old) (protocol_of event) port) m) now
found-table nat old now event remote port m d exists live is table =
    let at : get_or old (place_of nat (length old) (protocol_of event) port) d ≡ mapping_at nat old (protocol_of event) port =
    get_or_default old (place_of nat (length old) (protocol_of event) port) d free_mapping (place-lt nat (length old) (protocol_of event) port exists) in
    let same : m ≡ after_inbound nat now event remote (mapping_at nat old (protocol_of event) port) = is ∙ ap (after_inbound nat now event remote) at in
    let inside : Ipv4Endpoint = inside_of (mapping_at nat old (protocol_of event) port) in
    let mapped : MapsTo nat old now (protocol_of event) port inside =
    record { exists = exists; live = subst (λ (x : Mapping). now < x.expires) at live; leads = (refl, refl) } in
    again-table nat old now (protocol_of event) port m inside mapped
    (subst (IsOf inside) (sym same) (after_inbound-inside nat now event remote (mapping_at nat old (protocol_of event) port) inside mapped.leads))
    (subst (λ (x : Mapping). (mapping_at nat old (protocol_of event) port).reach ≤ x.reach) (sym same) (after_inbound-reach nat now event remote (mapping_at nat old (protocol_of event) port))) table
