-- The table of mappings: where a mapping may be, which inside endpoint an outside port leads to, and what `open` and
-- `find` do.
-- Pinned by: `worked/mappings`
use Rattle.std.specs.Prelude.{ℕ, ◌≡◌, ◌+◌, ◌-◌, ◌*◌, ◌/◌, ◌%◌, ◌^◌, ◌<◌, ◌≤◌, ◌==◌, ◌⊎◌, max, min, if◌then◌else◌, Option, Some, None, List, [], ◌∷◌, length, slice_index, slice_index_or, slice_set}
use Rattle.std.specs.Hash.DefaultHasher as sip
use Rattle.std.specs.Int.{div_ceil, w16, w64, to_le_bytes}
use Rattle.app_nat.specs.Mapping.{IsOf, after_inbound, after_outbound, new_mapping, with_reach}
use Rattle.app_nat.specs.State.{protocol_of}
use Rattle.app_nat.specs.declared.mapping.Ipv4Endpoint.{Ipv4Endpoint}
use Rattle.app_nat.specs.declared.mapping.Mapping.{Mapping}
use Rattle.app_nat.specs.declared.nat.Nat.{Nat}
use Rattle.app_nat.specs.declared.state.Event.{Event}
use Rattle.app_nat.specs.declared.state.Protocol.{Protocol}
use Rattle.app_nat.specs.declared.state.Protocol.TheVariants.{Udp, Tcp, Icmp}
use Rattle.app_nat.specs.declared.choice.Choice.{Choice}

-- ---- ports

-- how many mappings an outside port has: one for each protocol
abbrev pub protocols : ℕ
protocols = 3

-- how many outside ports there are, in a table with this many mappings
abbrev pub ports : Nat → ℕ → ℕ
ports nat len = if nat.first_port == 0 then 0 else min (len / protocols) (65536 - nat.first_port)

-- a port is one of the outside ports of a table with `len` mappings
pub record HasPort (nat : Nat) (len port : ℕ) : Type 0 where
  pub least : nat.first_port ≤ port
  pub most : port < nat.first_port + ports nat len

-- the index of a port's mapping: a table has three equal parts, one for each protocol
abbrev pub place_of : Nat → ℕ → Protocol → ℕ → ℕ
place_of nat len Udp port = port - nat.first_port
place_of nat len Tcp port = len / protocols + (port - nat.first_port)
place_of nat len Icmp port = 2 * (len / protocols) + (port - nat.first_port)

-- a mapping that is not live
abbrev pub free_mapping : Mapping
free_mapping = record {
  expires = 0;
  inside = 0 ∷ 0 ∷ 0 ∷ 0 ∷ [];
  remote = 0 ∷ 0 ∷ 0 ∷ 0 ∷ [];
  inside_port = 0;
  remote_port = 0;
  state = 0;
  shared = 0;
  reach = 0;
}

-- the mapping of an outside port
abbrev pub mapping_at : Nat → List Mapping → Protocol → ℕ → Mapping
mapping_at nat mappings protocol port = slice_index_or mappings (place_of nat (length mappings) protocol port) free_mapping

-- ---- live mappings

-- the outside port has a live mapping of this inside endpoint
pub record MapsTo (nat : Nat) (mappings : List Mapping) (now : ℕ) (protocol : Protocol) (port : ℕ) (inside : Ipv4Endpoint) : Type 0 where
  pub exists : HasPort nat (length mappings) port
  pub live : now < (mapping_at nat mappings protocol port).expires
  pub leads : IsOf inside (mapping_at nat mappings protocol port)

-- the outside port has no live mapping
pub record IsFree (nat : Nat) (mappings : List Mapping) (now : ℕ) (protocol : Protocol) (port : ℕ) : Type 0 where
  pub exists : HasPort nat (length mappings) port
  pub expired : (mapping_at nat mappings protocol port).expires ≤ now

-- ---- the order in which an inside endpoint gets outside ports

-- SipHash-1-3 of the secret key and the endpoint
unfoldable pub hash_of : List ℕ → Ipv4Endpoint → ℕ
hash_of key inside =
    let s = sip.write sip.initial (to_le_bytes w64 (slice_index key 0)) in
    let t = sip.write s (to_le_bytes w64 (slice_index key 1)) in
    sip.finish (sip.write (sip.write t inside.addr) (to_le_bytes w16 inside.port))

-- the widest step with which 63 ports go round all ports at most once
abbrev pub widest_step : ℕ → ℕ
widest_step count = max 1 (count / 63)

-- the step from one port of an endpoint's row to the next: up to a 32nd less than the widest, by the hash
abbrev pub step_of : List ℕ → ℕ → Ipv4Endpoint → ℕ
step_of key count inside = widest_step count - hash_of key inside / 2 ^ 32 % (widest_step count / 32 + 1)

-- where the first row of an endpoint begins, counted from the first outside port
abbrev pub start_of : List ℕ → ℕ → Ipv4Endpoint → ℕ
start_of key count inside = hash_of key inside % max 1 count

-- the outside port that is so many steps after a start; after the last port the first one follows
abbrev pub port_after : Nat → ℕ → ℕ → ℕ → ℕ → ℕ
port_after nat count start step rank = nat.first_port + (start + rank * step) % max 1 count

-- how many ports a row has: with this step they go round all ports once
abbrev pub row_len : ℕ → ℕ → ℕ
row_len count step = div_ceil count step

-- The port of this rank, from 0 on, in rows from a start: each row begins one port after the one before. The last port
-- of a row may be one of an earlier row.
abbrev pub port_in_rows : Nat → ℕ → ℕ → ℕ → ℕ → ℕ
port_in_rows nat count start step rank =
    let len = row_len count step in port_after nat count (start + rank / len) step (rank % len)

-- the port of this rank in the rows of an endpoint
abbrev pub port_at : Nat → ℕ → Ipv4Endpoint → ℕ → ℕ
port_at nat len inside rank =
    let count = ports nat len in port_in_rows nat count (start_of nat.key count inside) (step_of nat.key count inside) rank

-- how many ranks so many rows of an endpoint have
abbrev pub ranks : Nat → ℕ → Ipv4Endpoint → ℕ → ℕ
ranks nat len inside rows = let count = ports nat len in rows * row_len count (step_of nat.key count inside)

-- all rows of an endpoint: each port is in one of them
abbrev pub all_rows : Nat → ℕ → Ipv4Endpoint → ℕ
all_rows nat len inside = step_of nat.key (ports nat len) inside

-- the first row of an endpoint that has this outside port
abbrev pub row_of : Nat → ℕ → Ipv4Endpoint → ℕ → ℕ
row_of nat len inside port =
    let count = ports nat len in
    (port - nat.first_port + (count - start_of nat.key count inside)) % max 1 count % step_of nat.key count inside

-- ---- the reach of an endpoint

-- the port with which the first row of an endpoint begins
abbrev pub home_of : Nat → ℕ → Ipv4Endpoint → ℕ
home_of nat len inside = nat.first_port + start_of nat.key (ports nat len) inside

-- the mapping at the home of an endpoint
abbrev pub mapping_at_home : Nat → List Mapping → Protocol → Ipv4Endpoint → Mapping
mapping_at_home nat mappings protocol inside = mapping_at nat mappings protocol (home_of nat (length mappings) inside)

-- the rows in which an endpoint is searched for: the first one, and as many as its home notes
abbrev pub rows_of : Nat → List Mapping → Protocol → Ipv4Endpoint → ℕ
rows_of nat mappings protocol inside =
    min (1 + (mapping_at_home nat mappings protocol inside).reach) (all_rows nat (length mappings) inside)

-- the table after the row of this port was noted at the home of an endpoint, except for its own port
abbrev pub noted : Nat → List Mapping → Protocol → Ipv4Endpoint → ℕ → List Mapping
noted nat mappings protocol inside port =
    if port == inside.port then mappings
    else (let m = mapping_at_home nat mappings protocol inside in
    slice_set mappings (place_of nat (length mappings) protocol (home_of nat (length mappings) inside))
    (with_reach (max m.reach (row_of nat (length mappings) inside port)) m))

-- ---- candidates

-- the port has a rank in so many rows of an endpoint
pub record HasRank (nat : Nat) (len : ℕ) (inside : Ipv4Endpoint) (rows port : ℕ) : Type 0 where
  pub rank : ℕ
  pub within : rank < ranks nat len inside rows
  pub is : port ≡ port_at nat len inside rank

-- the ports where an inside endpoint is searched for: its own port, and then those of its rows
abbrev pub IsCandidate : Nat → List Mapping → Protocol → Ipv4Endpoint → ℕ → Type 0
IsCandidate nat mappings protocol inside port =
    (port ≡ inside.port) ⊎ HasRank nat (length mappings) inside (rows_of nat mappings protocol inside) port

-- `number rank` is the first number with a property, of those with a rank below `count`
pub record IsFirstAt (P : ℕ → Type 0) (number : ℕ → ℕ) (count first : ℕ) : Type 0 where
  pub rank : ℕ
  pub within : rank < count
  pub is : first ≡ number rank
  pub before : (other : ℕ) → other < rank → ¬ P (number other)

-- the first port with a property: the own port, or else the one of the lowest rank in so many rows
pub record IsFirst (P : ℕ → Type 0) (nat : Nat) (len : ℕ) (inside : Ipv4Endpoint) (rows port : ℕ) : Type 0 where
  pub holds : P port
  pub first : (port ≡ inside.port) ⊎ ((¬ P inside.port) × IsFirstAt P (port_at nat len inside) (ranks nat len inside rows) port)

-- the first live mapping of the endpoint is at this port
abbrev pub IsFirstMapped : Nat → List Mapping → ℕ → Protocol → Ipv4Endpoint → ℕ → Type 0
IsFirstMapped nat mappings now protocol inside port =
    IsFirst (λ p. MapsTo nat mappings now protocol p inside) nat (length mappings) inside (rows_of nat mappings protocol inside) port

-- this port is the first of all ports that is free
abbrev pub IsFirstFree : Nat → List Mapping → ℕ → Protocol → Ipv4Endpoint → ℕ → Type 0
IsFirstFree nat mappings now protocol inside port =
    IsFirst (IsFree nat mappings now protocol) nat (length mappings) inside (all_rows nat (length mappings) inside) port

-- no candidate has a live mapping of the endpoint
abbrev pub IsUnmapped : Nat → List Mapping → ℕ → Protocol → Ipv4Endpoint → Type 0
IsUnmapped nat mappings now protocol inside =
    (port : ℕ) → IsCandidate nat mappings protocol inside port → ¬ MapsTo nat mappings now protocol port inside

-- ---- the invariant

-- each live mapping is at a candidate of its inside endpoint, and no endpoint has two live mappings of a protocol
pub record IsTable (nat : Nat) (mappings : List Mapping) (now : ℕ) : Type 0 where
  pub placed : (protocol : Protocol) (port : ℕ) (inside : Ipv4Endpoint) → MapsTo nat mappings now protocol port inside
      → IsCandidate nat mappings protocol inside port
  pub apart : (protocol : Protocol) (port other : ℕ) (inside : Ipv4Endpoint) → MapsTo nat mappings now protocol port inside
      → MapsTo nat mappings now protocol other inside → port ≡ other

-- ---- calls

-- the table before the write, and the mapping at this port after an outbound packet: the first live one of the endpoint,
-- or a new one
pub data Chooses (nat : Nat) (mappings : List Mapping) (now : ℕ) (event : Event) (inside remote : Ipv4Endpoint) (port : ℕ) : List Mapping → Mapping → Type 0 where
  -- the first live mapping of the endpoint
  kept : IsFirstMapped nat mappings now (protocol_of event) inside port
      → Chooses nat mappings now event inside remote port mappings
      (after_outbound nat now event remote (mapping_at nat mappings (protocol_of event) port))
  -- if there is none, a new one at the first port that is free; the reach there stays
  made : IsUnmapped nat mappings now (protocol_of event) inside → IsFirstFree nat mappings now (protocol_of event) inside port
      → Chooses nat mappings now event inside remote port (noted nat mappings (protocol_of event) inside port)
      (after_outbound nat now event remote
      (new_mapping inside remote (mapping_at nat (noted nat mappings (protocol_of event) inside port) (protocol_of event) port).reach))

-- `open` returns this outside port, and changes its mapping and the reach at the home of the endpoint
pub record Opens (nat : Nat) (old new : List Mapping) (now : ℕ) (event : Event) (inside remote : Ipv4Endpoint) (port : ℕ) : Type 0 where
  pub table : List Mapping
  pub mapping : Mapping
  pub chosen : Chooses nat old now event inside remote port table mapping
  pub becomes : new ≡ slice_set table (place_of nat (length old) (protocol_of event) port) mapping

-- the endpoint has no live mapping, and no outside port is free
pub record IsFull (nat : Nat) (mappings : List Mapping) (now : ℕ) (protocol : Protocol) (inside : Ipv4Endpoint) : Type 0 where
  pub unmapped : IsUnmapped nat mappings now protocol inside
  pub taken : (port : ℕ) → HasPort nat (length mappings) port → now < (mapping_at nat mappings protocol port).expires

-- `find` returns this inside endpoint, and changes only its mapping
pub record Finds (nat : Nat) (old new : List Mapping) (now : ℕ) (event : Event) (port : ℕ) (remote inside : Ipv4Endpoint) : Type 0 where
  pub mapped : MapsTo nat old now (protocol_of event) port inside
  pub becomes : new ≡ slice_set old (place_of nat (length old) (protocol_of event) port)
      (after_inbound nat now event remote (mapping_at nat old (protocol_of event) port))

-- ---- what a search gives

-- the first of such numbers with a property, if there is one
abbrev pub Searches : (ℕ → Type 0) → (ℕ → ℕ) → ℕ → Option ℕ → Type 0
Searches P number count None = (rank : ℕ) → rank < count → ¬ P (number rank)
Searches P number count (Some first) = P first × IsFirstAt P number count first

-- the port whose mapping is kept, or else the port where a new one is made, with the rows of the endpoint, or none is free
abbrev pub Chosen : Nat → List Mapping → ℕ → Protocol → Ipv4Endpoint → Choice → Type 0
Chosen nat mappings now protocol inside (Choice.Kept port) = IsFirstMapped nat mappings now protocol inside port
Chosen nat mappings now protocol inside (Choice.Made port start step) =
    IsUnmapped nat mappings now protocol inside × IsFirstFree nat mappings now protocol inside port
    × (start ≡ start_of nat.key (ports nat (length mappings)) inside) × (step ≡ step_of nat.key (ports nat (length mappings)) inside)
Chosen nat mappings now protocol inside Choice.Full = IsFull nat mappings now protocol inside
