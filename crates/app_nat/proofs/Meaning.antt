-- What the calls mean: proofs of the laws.
use Rattle.std.proofs.Common.{ℕ, ◌≡◌, ◌≢◌, ◌∙◌, ◌<◌, ◌≤◌, inl, inr, Option, Some, None, IfNone, IfSome, List, length, refl, sym, ap, subst, arith}
use Rattle.std.proofs.Math.ListN.{set, length-set}
use Rattle.std.proofs.lemmas.Bool.{cases_lt}
use Rattle.app_nat.proofs.Searches.{first-candidate}
use Rattle.app_nat.proofs.Places.{other-at, place-apart, same-at}
use Rattle.app_nat.proofs.Tables.{noted-keeps, noted-maps, noted-mapping, same-end}
use Rattle.app_nat.specs.Mapping.{IsOf, after_outbound, expiry, is_shared, new_mapping, with_reach}
use Rattle.app_nat.specs.State.{byte_of, next_state, protocol_of, shortest_timeout, state_of, timeout_of}
use Rattle.app_nat.specs.Table.{Chooses, Finds, HasPort, IsFirst, IsFirstAt, IsFree, IsFull, IsTable, IsUnmapped, MapsTo, Opens, all_rows, kept, made, mapping_at, noted, place_of, port_at, ranks, rows_of}
use Rattle.app_nat.specs.declared.mapping.Ipv4Endpoint.{Ipv4Endpoint}
use Rattle.app_nat.specs.declared.mapping.Mapping.{Mapping}
use Rattle.app_nat.specs.declared.nat.Nat.{Nat}
use Rattle.app_nat.specs.declared.state.Event.{Event}
use Rattle.app_nat.specs.declared.state.Protocol.{Protocol}
use Rattle.app_nat.specs.declared.state.Protocol.TheVariants.{Udp, Tcp, Icmp}
use Rattle.app_nat.specs.declared.state.TcpState.{TcpState}
use Rattle.app_nat.specs.declared.state.TcpState.TheVariants.{Opening, Established, Closing}

-- ---- the choice of a port

pub chosen-exists : (nat : Nat) (old : List Mapping) (now : ℕ) (event : Event) (inside remote : Ipv4Endpoint) (port : ℕ) (l : List Mapping) (m : Mapping)
    → Chooses nat old now event inside remote port l m → HasPort nat (length old) port
chosen-exists nat old now event inside remote port l m (kept first) = first.holds.exists
chosen-exists nat old now event inside remote port l m (made none first) = first.holds.exists

-- the mapping that is written leads to the endpoint
pub chosen-leads : (nat : Nat) (old : List Mapping) (now : ℕ) (event : Event) (inside remote : Ipv4Endpoint) (port : ℕ) (l : List Mapping) (m : Mapping)
    → Chooses nat old now event inside remote port l m → IsOf inside m
chosen-leads nat old now event inside remote port l m (kept first) = first.holds.leads
chosen-leads nat old now event inside remote port l m (made none first) = (refl, refl)

-- the table that is written has the same places
pub chosen-len : (nat : Nat) (old : List Mapping) (now : ℕ) (event : Event) (inside remote : Ipv4Endpoint) (port : ℕ) (l : List Mapping) (m : Mapping)
    → Chooses nat old now event inside remote port l m → length l ≡ length old
chosen-len nat old now event inside remote port l m (kept first) = refl
chosen-len nat old now event inside remote port l m (made none first) = (noted-keeps nat old (protocol_of event) inside port first.holds.exists).len

-- the same mappings but for reaches
pub chosen-mappings : (nat : Nat) (old : List Mapping) (now : ℕ) (event : Event) (inside remote : Ipv4Endpoint) (port : ℕ) (l : List Mapping) (m : Mapping)
    → Chooses nat old now event inside remote port l m → (b : Protocol) (q : ℕ) → mapping_at nat l b q ≡ with_reach (mapping_at nat l b q).reach (mapping_at nat old b q)
chosen-mappings nat old now event inside remote port l m (kept first) b q = refl
chosen-mappings nat old now event inside remote port l m (made none first) b q = noted-mapping nat old (protocol_of event) b inside port q first.holds.exists

-- and the same live mappings
pub chosen-maps : (nat : Nat) (old : List Mapping) (now : ℕ) (event : Event) (inside remote : Ipv4Endpoint) (port : ℕ) (l : List Mapping) (m : Mapping)
    → Chooses nat old now event inside remote port l m → (b : Protocol) (q : ℕ) (e : Ipv4Endpoint) (later : ℕ) → MapsTo nat l later b q e → MapsTo nat old later b q e
chosen-maps nat old now event inside remote port l m (kept first) b q e later maps = maps
chosen-maps nat old now event inside remote port l m (made none first) b q e later maps = noted-maps nat old later (protocol_of event) b inside e port q first.holds.exists maps

-- a written table, by the places of the table before the note
pub opened-as : (nat : Nat) (old new : List Mapping) (now : ℕ) (event : Event) (inside remote : Ipv4Endpoint) (port : ℕ) (o : Opens nat old new now event inside remote port)
    → new ≡ set o.table (place_of nat (length o.table) (protocol_of event) port) o.mapping
opened-as nat old new now event inside remote port o =
    o.becomes ∙ ap (λ n. set o.table (place_of nat n (protocol_of event) port) o.mapping) (sym (chosen-len nat old now event inside remote port o.table o.mapping o.chosen))

-- the opened port exists there
pub opened-exists : (nat : Nat) (old new : List Mapping) (now : ℕ) (event : Event) (inside remote : Ipv4Endpoint) (port : ℕ) (o : Opens nat old new now event inside remote port)
    → HasPort nat (length o.table) port
opened-exists nat old new now event inside remote port o =
    subst (λ n. HasPort nat n port) (sym (chosen-len nat old now event inside remote port o.table o.mapping o.chosen)) (chosen-exists nat old now event inside remote port o.table o.mapping o.chosen)

state-byte : (s : TcpState) → state_of (byte_of s) ≡ s
state-byte Opening = refl
state-byte Established = refl
state-byte Closing = refl

-- its time-out is that of its state
restarts : (nat : Nat) (now : ℕ) (event : Event) (remote : Ipv4Endpoint) (m : Mapping)
    → (after_outbound nat now event remote m).expires ≡ expiry now (timeout_of nat (protocol_of event) (state_of (after_outbound nat now event remote m).state))
restarts nat now event remote m =
    ap (λ s. expiry now (timeout_of nat (protocol_of event) s)) (sym (state-byte (next_state (is_shared m remote) (state_of m.state) event)))

restarts-chosen : (nat : Nat) (old : List Mapping) (now : ℕ) (event : Event) (inside remote : Ipv4Endpoint) (port : ℕ) (l : List Mapping) (m : Mapping)
    → Chooses nat old now event inside remote port l m → m.expires ≡ expiry now (timeout_of nat (protocol_of event) (state_of m.state))
restarts-chosen nat old now event inside remote port l m (kept first) = restarts nat now event remote (mapping_at nat old (protocol_of event) port)
restarts-chosen nat old now event inside remote port l m (made none first) =
    restarts nat now event remote (new_mapping inside remote (mapping_at nat (noted nat old (protocol_of event) inside port) (protocol_of event) port).reach)

shortest : (nat : Nat) (protocol : Protocol) (s : TcpState) → shortest_timeout nat protocol ≤ timeout_of nat protocol s
shortest nat Udp s = omega arith
shortest nat Tcp Opening = omega arith
shortest nat Tcp Established = omega arith
shortest nat Tcp Closing = omega arith
shortest nat Icmp s = omega arith

-- ---- the opened port

pub opened-at : (nat : Nat) (old new : List Mapping) (now : ℕ) (event : Event) (inside remote : Ipv4Endpoint) (port : ℕ) (o : Opens nat old new now event inside remote port)
    → mapping_at nat new (protocol_of event) port ≡ o.mapping
opened-at nat old new now event inside remote port o =
    ap (λ l. mapping_at nat l (protocol_of event) port) (opened-as nat old new now event inside remote port o)
    ∙ same-at nat o.table (protocol_of event) port o.mapping (opened-exists nat old new now event inside remote port o)

pub opened-restarts : (nat : Nat) (old new : List Mapping) (now : ℕ) (event : Event) (inside remote : Ipv4Endpoint) (port : ℕ) → Opens nat old new now event inside remote port
    → (mapping_at nat new (protocol_of event) port).expires ≡ expiry now (timeout_of nat (protocol_of event) (state_of (mapping_at nat new (protocol_of event) port).state))
opened-restarts nat old new now event inside remote port o =
    let P : Mapping → Type 0 = λ m. m.expires ≡ expiry now (timeout_of nat (protocol_of event) (state_of m.state)) in
    subst P (sym (opened-at nat old new now event inside remote port o)) (restarts-chosen nat old now event inside remote port o.table o.mapping o.chosen)

pub opened-leads : (nat : Nat) (old new : List Mapping) (now later : ℕ) (event : Event) (inside remote : Ipv4Endpoint) (port : ℕ) → Opens nat old new now event inside remote port
    → later < expiry now (shortest_timeout nat (protocol_of event)) → MapsTo nat new later (protocol_of event) port inside
opened-leads nat old new now later event inside remote port o before =
    let m = mapping_at nat new (protocol_of event) port in
    let len : length new ≡ length old =
    ap length o.becomes ∙ length-set o.table (place_of nat (length old) (protocol_of event) port) o.mapping ∙ chosen-len nat old now event inside remote port o.table o.mapping o.chosen in
    let least = shortest nat (protocol_of event) (state_of m.state) in
    let ends = opened-restarts nat old new now event inside remote port o in
    record {
      exists = subst (λ n. HasPort nat n port) (sym len) (chosen-exists nat old now event inside remote port o.table o.mapping o.chosen);
      live = omega (arith, before, least, ends);
      leads = subst (IsOf inside) (sym (opened-at nat old new now event inside remote port o)) (chosen-leads nat old now event inside remote port o.table o.mapping o.chosen);
    }

pub all_restart : (nat : Nat) (old new : List Mapping) (now : ℕ) (event : Event) (inside remote : Ipv4Endpoint) (r : Option ℕ) → IfSome r (Opens nat old new now event inside remote)
    → IfSome r (λ port. (mapping_at nat new (protocol_of event) port).expires
    ≡ expiry now (timeout_of nat (protocol_of event) (state_of (mapping_at nat new (protocol_of event) port).state)))
all_restart nat old new now event inside remote None opens = tt
all_restart nat old new now event inside remote (Some port) opens = opened-restarts nat old new now event inside remote port opens

-- what `find` gives at a port that leads to an endpoint
found-is : (nat : Nat) (old new : List Mapping) (later : ℕ) (event : Event) (port : ℕ) (sender inside : Ipv4Endpoint) (r : Option Ipv4Endpoint)
    → IfSome r (Finds nat old new later event port sender) → IfNone r ((e : Ipv4Endpoint) → ¬ MapsTo nat old later (protocol_of event) port e)
    → MapsTo nat old later (protocol_of event) port inside → r ≡ Some inside
found-is nat old new later event port sender inside (Some e) found none mapped =
    ap Some (same-end (mapping_at nat old (protocol_of event) port) e inside found.mapped.leads mapped.leads)
found-is nat old new later event port sender inside None found none mapped = absurd (none inside mapped)

pub answered : (nat : Nat) (old new newer : List Mapping) (now later : ℕ) (packet answer : Event) (inside remote sender : Ipv4Endpoint) (port : ℕ) (r : Option Ipv4Endpoint)
    → Opens nat old new now packet inside remote port → IfSome r (Finds nat new newer later answer port sender)
    → IfNone r ((e : Ipv4Endpoint) → ¬ MapsTo nat new later (protocol_of answer) port e)
    → protocol_of answer ≡ protocol_of packet → later < expiry now (shortest_timeout nat (protocol_of packet)) → r ≡ Some inside
answered nat old new newer now later packet answer inside remote sender port r opens found none same before =
    found-is nat new newer later answer port sender inside r found none
    (subst (λ x. MapsTo nat new later x port inside) (sym same) (opened-leads nat old new now later packet inside remote port opens before))

-- ---- port preservation, and one port for all remote endpoints

pub preserved : (nat : Nat) (old new : List Mapping) (now : ℕ) (event : Event) (inside remote : Ipv4Endpoint) (r : Option ℕ) → IfSome r (Opens nat old new now event inside remote)
    → IfNone r (IsFull nat old now (protocol_of event) inside) → IsUnmapped nat old now (protocol_of event) inside → IsFree nat old now (protocol_of event) inside.port
    → r ≡ Some inside.port
preserved nat old new now event inside remote None opens full unmapped free =
    let live = full.taken inside.port free.exists in absurd (omega (arith, live, free.expired))
preserved nat old new now event inside remote (Some port) opens full unmapped free = ap Some (preserved-port nat old now event inside remote port opens.table opens.mapping opens.chosen unmapped free)
  where
    preserved-port : (nat : Nat) (old : List Mapping) (now : ℕ) (event : Event) (inside remote : Ipv4Endpoint) (port : ℕ) (l : List Mapping) (m : Mapping) → Chooses nat old now event inside remote port l m
        → IsUnmapped nat old now (protocol_of event) inside → IsFree nat old now (protocol_of event) inside.port → port ≡ inside.port
    preserved-port nat old now event inside remote port l m (kept first) unmapped free = absurd (unmapped port (first-candidate first) first.holds)
    preserved-port nat old now event inside remote port l m (made none first) unmapped free = elim first.first [
      | inl same ↦ same
      | inr following ↦ absurd (following.0 free)
    ]

pub found : (nat : Nat) (old : List Mapping) (now : ℕ) (protocol : Protocol) (inside : Ipv4Endpoint) (r : Option ℕ) (port : ℕ) → IfNone r (IsFull nat old now protocol inside)
    → IsFree nat old now protocol port → r ≢ None
found nat old now protocol inside None port full free none = let live = full.taken port free.exists in omega (arith, live, free.expired)
found nat old now protocol inside (Some p) port full free none = cc

independent-port : (nat : Nat) (old : List Mapping) (now : ℕ) (event : Event) (inside remote : Ipv4Endpoint) (port was : ℕ) (l : List Mapping) (m : Mapping) → Chooses nat old now event inside remote port l m
    → IsTable nat old now → MapsTo nat old now (protocol_of event) was inside → port ≡ was
independent-port nat old now event inside remote port was l m (kept first) table mapped = table.apart (protocol_of event) port was inside first.holds mapped
independent-port nat old now event inside remote port was l m (made none first) table mapped =
    absurd (none was (table.placed (protocol_of event) was inside mapped) mapped)

pub independent : (nat : Nat) (old new : List Mapping) (now : ℕ) (event : Event) (inside remote : Ipv4Endpoint) (r : Option ℕ) (was : ℕ) → IfSome r (Opens nat old new now event inside remote)
    → IfNone r (IsFull nat old now (protocol_of event) inside) → IsTable nat old now → MapsTo nat old now (protocol_of event) was inside → r ≡ Some was
independent nat old new now event inside remote None was opens full table mapped =
    absurd (full.unmapped was (table.placed (protocol_of event) was inside mapped) mapped)
independent nat old new now event inside remote (Some port) was opens full table mapped =
    ap Some (independent-port nat old now event inside remote port was opens.table opens.mapping opens.chosen table mapped)

-- ---- other mappings

-- the opened port was free, or its mapping led to the endpoint
not-other : (nat : Nat) (old : List Mapping) (now : ℕ) (event : Event) (inside remote other : Ipv4Endpoint) (port : ℕ) (l : List Mapping) (m : Mapping) → Chooses nat old now event inside remote port l m
    → MapsTo nat old now (protocol_of event) port other → other ≡ inside
not-other nat old now event inside remote other port l m (kept first) mapped =
    same-end (mapping_at nat old (protocol_of event) port) other inside mapped.leads first.holds.leads
not-other nat old now event inside remote other port l m (made none first) mapped = absurd (omega (arith, mapped.live, first.holds.expired))

opened-other : (nat : Nat) (old new : List Mapping) (now : ℕ) (event : Event) (inside remote other : Ipv4Endpoint) (port q : ℕ) (b : Protocol) → Opens nat old new now event inside remote port
    → MapsTo nat old now b q other → ¬ ((b ≡ protocol_of event) × (other ≡ inside)) → mapping_at nat new b q ≡ with_reach (mapping_at nat new b q).reach (mapping_at nat old b q)
opened-other nat old new now event inside remote other port q b o mapped apart =
    let len = chosen-len nat old now event inside remote port o.table o.mapping o.chosen in
    let differ : place_of nat (length o.table) b q ≢ place_of nat (length o.table) (protocol_of event) port = λ same.
    (let here = subst (λ n. place_of nat n b q ≡ place_of nat n (protocol_of event) port) len same in
    let both = place-apart nat (length old) b (protocol_of event) q port mapped.exists (chosen-exists nat old now event inside remote port o.table o.mapping o.chosen) here in
    let first : MapsTo nat old now (protocol_of event) q other = subst (λ x. MapsTo nat old now x q other) both.0 mapped in
    let second : MapsTo nat old now (protocol_of event) port other = subst (λ x. MapsTo nat old now (protocol_of event) x other) both.1 first in
    apart (both.0, not-other nat old now event inside remote other port o.table o.mapping o.chosen second)) in
    let stays : mapping_at nat new b q ≡ mapping_at nat o.table b q =
    ap (λ l. mapping_at nat l b q) (opened-as nat old new now event inside remote port o) ∙ other-at nat o.table (protocol_of event) b port q o.mapping differ in
    subst (λ (x : Mapping). x ≡ with_reach x.reach (mapping_at nat old b q)) (sym stays) (chosen-mappings nat old now event inside remote port o.table o.mapping o.chosen b q)

pub others : (nat : Nat) (old new : List Mapping) (now : ℕ) (event : Event) (inside remote : Ipv4Endpoint) (r : Option ℕ) → IfSome r (Opens nat old new now event inside remote)
    → IfNone r (new ≡ old) → (b : Protocol) (q : ℕ) (other : Ipv4Endpoint) → MapsTo nat old now b q other → ¬ ((b ≡ protocol_of event) × (other ≡ inside))
    → mapping_at nat new b q ≡ with_reach (mapping_at nat new b q).reach (mapping_at nat old b q)
others nat old new now event inside remote None opens same b q other mapped apart =
    subst (λ l. mapping_at nat l b q ≡ with_reach (mapping_at nat l b q).reach (mapping_at nat old b q)) (sym same) refl
others nat old new now event inside remote (Some port) opens same b q other mapped apart = opened-other nat old new now event inside remote other port q b opens mapped apart

-- ---- one outcome

ranked-once : (P : ℕ → Type 0) (number : ℕ → ℕ) (count p q : ℕ) → P p → P q → IsFirstAt P number count p → IsFirstAt P number count q → p ≡ q
ranked-once P number count p q holds too a b = elim (cases_lt a.rank b.rank) [
  | inl lower ↦ absurd (b.before a.rank lower (subst P a.is holds))
  | inr rest ↦ elim (cases_lt b.rank a.rank) [
    | inl lower ↦ absurd (a.before b.rank lower (subst P b.is too))
    | inr least ↦ let same : a.rank ≡ b.rank = omega (arith, rest, least) in a.is ∙ ap number same ∙ sym b.is
  ]
]

first-once : (P : ℕ → Type 0) (nat : Nat) (len : ℕ) (inside : Ipv4Endpoint) (rows p q : ℕ) → IsFirst P nat len inside rows p → IsFirst P nat len inside rows q → p ≡ q
first-once P nat len inside rows p q a b = elim a.first [
  | inl own ↦ elim b.first [
    | inl too ↦ own ∙ sym too
    | inr ranked ↦ absurd (ranked.0 (subst P own a.holds))
  ]
  | inr ranked ↦ elim b.first [
    | inl own ↦ absurd (ranked.0 (subst P own b.holds))
    | inr too ↦ ranked-once P (port_at nat len inside) (ranks nat len inside rows) p q a.holds b.holds ranked.1 too.1
  ]
]

chosen-port : (nat : Nat) (old : List Mapping) (now : ℕ) (event : Event) (inside remote : Ipv4Endpoint) (p q : ℕ) (k l : List Mapping) (m n : Mapping)
    → Chooses nat old now event inside remote p k m → Chooses nat old now event inside remote q l n → p ≡ q
chosen-port nat old now event inside remote p q k l m n (kept a) (kept b) =
    first-once (λ x. MapsTo nat old now (protocol_of event) x inside) nat (length old) inside (rows_of nat old (protocol_of event) inside) p q a b
chosen-port nat old now event inside remote p q k l m n (kept a) (made none b) = absurd (none p (first-candidate a) a.holds)
chosen-port nat old now event inside remote p q k l m n (made none a) (kept b) = absurd (none q (first-candidate b) b.holds)
chosen-port nat old now event inside remote p q k l m n (made none a) (made too b) =
    first-once (IsFree nat old now (protocol_of event)) nat (length old) inside (all_rows nat (length old) inside) p q a b

-- the table and the mapping that are written
chosen-write : (nat : Nat) (old : List Mapping) (now : ℕ) (event : Event) (inside remote : Ipv4Endpoint) (p q : ℕ) (k l : List Mapping) (m n : Mapping) → p ≡ q
    → Chooses nat old now event inside remote p k m → Chooses nat old now event inside remote q l n → (k ≡ l) × (m ≡ n)
chosen-write nat old now event inside remote p q k l m n same (kept a) (kept b) = (refl, ap (λ x. after_outbound nat now event remote (mapping_at nat old (protocol_of event) x)) same)
chosen-write nat old now event inside remote p q k l m n same (kept a) (made none b) = absurd (none p (first-candidate a) a.holds)
chosen-write nat old now event inside remote p q k l m n same (made none a) (kept b) = absurd (none q (first-candidate b) b.holds)
chosen-write nat old now event inside remote p q k l m n same (made none a) (made too b) = (
  ap (noted nat old (protocol_of event) inside) same,
  ap (λ x. after_outbound nat now event remote (new_mapping inside remote (mapping_at nat (noted nat old (protocol_of event) inside x) (protocol_of event) x).reach)) same,
)

pub port_once : (nat : Nat) (old new other : List Mapping) (now : ℕ) (event : Event) (inside remote : Ipv4Endpoint) (p q : ℕ) → Opens nat old new now event inside remote p
    → Opens nat old other now event inside remote q → p ≡ q
port_once nat old new other now event inside remote p q a b = chosen-port nat old now event inside remote p q a.table b.table a.mapping b.mapping a.chosen b.chosen

pub table_once : (nat : Nat) (old new other : List Mapping) (now : ℕ) (event : Event) (inside remote : Ipv4Endpoint) (p q : ℕ) → Opens nat old new now event inside remote p
    → Opens nat old other now event inside remote q → new ≡ other
table_once nat old new other now event inside remote p q a b =
    let port = port_once nat old new other now event inside remote p q a b in
    let write = chosen-write nat old now event inside remote p q a.table b.table a.mapping b.mapping port a.chosen b.chosen in
    a.becomes ∙ (λ i. set (write.0 i) (place_of nat (length old) (protocol_of event) (port i)) (write.1 i)) ∙ sym b.becomes

chosen-room : (nat : Nat) (old : List Mapping) (now : ℕ) (event : Event) (inside remote : Ipv4Endpoint) (p : ℕ) (l : List Mapping) (m : Mapping)
    → Chooses nat old now event inside remote p l m → ¬ IsFull nat old now (protocol_of event) inside
chosen-room nat old now event inside remote p l m (kept a) full = full.unmapped p (first-candidate a) a.holds
chosen-room nat old now event inside remote p l m (made none a) full =
    let live = full.taken p a.holds.exists in omega (arith, live, a.holds.expired)

pub room : (nat : Nat) (old new : List Mapping) (now : ℕ) (event : Event) (inside remote : Ipv4Endpoint) (p : ℕ) → Opens nat old new now event inside remote p
    → ¬ IsFull nat old now (protocol_of event) inside
room nat old new now event inside remote p o = chosen-room nat old now event inside remote p o.table o.mapping o.chosen

-- ---- time

earlier : (nat : Nat) (mappings : List Mapping) (now later : ℕ) (protocol : Protocol) (port : ℕ) (inside : Ipv4Endpoint) → now ≤ later
    → MapsTo nat mappings later protocol port inside → MapsTo nat mappings now protocol port inside
earlier nat mappings now later protocol port inside before mapped =
    record { exists = mapped.exists; live = omega (arith, before, mapped.live); leads = mapped.leads }

pub later_table : (nat : Nat) (mappings : List Mapping) (now later : ℕ) → now ≤ later → IsTable nat mappings now → IsTable nat mappings later
later_table nat mappings now later before table = record {
  placed = λ b q e mapped. table.placed b q e (earlier nat mappings now later b q e before mapped);
  apart = λ b q r e first second. table.apart b q r e (earlier nat mappings now later b q e before first) (earlier nat mappings now later b r e before second);
}

-- the port of a live mapping is opened for no other inside endpoint
pub opened_apart : (nat : Nat) (old new newer : List Mapping) (now : ℕ) (event next : Event) (inside remote other sender : Ipv4Endpoint) (port second : ℕ)
    → Opens nat old new now event inside remote port → Opens nat new newer now next other sender second
    → protocol_of next ≡ protocol_of event → now < expiry now (shortest_timeout nat (protocol_of event)) → port ≡ second → other ≡ inside
opened_apart nat old new newer now event next inside remote other sender port second opens again same before one =
    let mapped = opened-leads nat old new now now event inside remote port opens before in
    let moved = subst (λ p. MapsTo nat new now p port inside) (sym same) mapped in
    let there = subst (λ (n : ℕ). MapsTo nat new now (protocol_of next) n inside) one moved in
    sym (not-other nat new now next other sender inside second again.table again.mapping again.chosen there)
