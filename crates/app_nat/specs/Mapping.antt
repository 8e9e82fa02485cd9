-- One mapping, and how packets change it.
-- Pinned by: `worked/mappings`
use Rattle.std.specs.Prelude.{ℕ, ◌≡◌, ◌+◌, ◌-◌, ◌^◌, ◌==◌, min, Bool, false, not, ◌&&◌, ◌||◌, if◌then◌else◌}
use Rattle.std.specs.Str.{bytes_eq}
use Rattle.app_nat.specs.State.{byte_of, ends_connection, next_state, protocol_of, state_of, timeout_of}
use Rattle.app_nat.specs.declared.mapping.Ipv4Endpoint.{Ipv4Endpoint}
use Rattle.app_nat.specs.declared.mapping.Mapping.{Mapping}
use Rattle.app_nat.specs.declared.nat.Nat.{Nat}
use Rattle.app_nat.specs.declared.state.Event.{Event}
use Rattle.app_nat.specs.declared.state.Protocol.TheVariants as protocol
use Rattle.app_nat.specs.declared.state.TcpState.TheVariants.{Closing}

-- ---- endpoints

-- the inside endpoint of a mapping
abbrev pub inside_of : Mapping → Ipv4Endpoint
inside_of m = record { addr = m.inside; port = m.inside_port }

-- an address and port are the inside endpoint of the mapping
abbrev pub IsOf : Ipv4Endpoint → Mapping → Type 0
IsOf inside m = (m.inside ≡ inside.addr) × (m.inside_port ≡ inside.port)

-- whether this is the remote endpoint of the mapping
abbrev pub is_remote : Mapping → Ipv4Endpoint → Bool
is_remote m remote = bytes_eq m.remote remote.addr && (m.remote_port == remote.port)

-- whether the mapping serves more than one remote endpoint, together with this one
abbrev pub is_shared : Mapping → Ipv4Endpoint → Bool
is_shared m remote = not (m.shared == 0) || not (is_remote m remote)

-- the mapping with another reach, which belongs to its place
abbrev pub with_reach : ℕ → Mapping → Mapping
with_reach reach m = record m { reach = reach }

-- ---- packets

-- the end of a time-out that starts now
abbrev pub expiry : ℕ → ℕ → ℕ
expiry now timeout = min (now + timeout) (2 ^ 64 - 1)

-- a mapping that no packet used yet, at a place with this reach
abbrev pub new_mapping : Ipv4Endpoint → Ipv4Endpoint → ℕ → Mapping
new_mapping inside remote reach = record {
  expires = 0;
  inside = inside.addr;
  remote = remote.addr;
  inside_port = inside.port;
  remote_port = remote.port;
  state = 0;
  shared = 0;
  reach = reach;
}

-- the mapping after its inside endpoint sent a packet: the time-out starts anew
abbrev pub after_outbound : Nat → ℕ → Event → Ipv4Endpoint → Mapping → Mapping
after_outbound nat now event remote m =
    let shared = is_shared m remote in
    let state = next_state shared (state_of m.state) event in
    record m {
      expires = expiry now (timeout_of nat (protocol_of event) state);
      state = byte_of state;
      shared = if shared then 1 else 0;
    }

-- the mapping after a FIN or RST of its only remote endpoint: at most the transitory time-out is left
abbrev pub after_end : Nat → ℕ → Event → Mapping → Mapping
after_end nat now event m = record m {
  expires = min m.expires (expiry now (timeout_of nat protocol.Tcp Closing));
  state = byte_of (next_state false (state_of m.state) event);
}

-- The mapping after a remote endpoint sent a packet. Only the end of the connection with its only remote endpoint
-- changes it.
abbrev pub after_inbound : Nat → ℕ → Event → Ipv4Endpoint → Mapping → Mapping
after_inbound nat now event remote m =
    if ends_connection event && not (is_shared m remote)
    then after_end nat now event m
    else m
