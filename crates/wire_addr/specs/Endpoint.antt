-- Endpoints: addresses with a port.
-- Pinned by: `calls/endpoint`, `wire/ip_endpoint`, `EndsWorked`, `wire/orders`
use Rattle.std.specs.Prelude.{ℕ, ◌≡◌, ◌≢◌, ◌⊎◌, ◌∷◌, ◌++◌, Option, Some, None, IsSome, List, codes, decimal}
use Rattle.std.specs.Hash as hash
use Rattle.std.specs.Option.{option_cmp}
use Rattle.std.specs.Ordering.{nat_cmp, ordering_then}
use Rattle.std.specs.declared.cmp.Ordering.{Ordering}
use Rattle.wire_addr.specs.Printed.{dotted, ipv6_text}
use Rattle.wire_addr.specs.Read.{ReadsIpv4, ReadsIpv6}
use Rattle.wire_addr.specs.IpAddress.{ReadsAddress, address_cmp, address_hash}
use Rattle.wire_addr.specs.declared.ip_address.IpAddress.{IpAddress}
use Rattle.wire_addr.specs.declared.ip_address.IpAddress.TheVariants.{Ipv4, Ipv6}
use Rattle.wire_addr.specs.declared.ip_endpoint.IpEndpoint.{IpEndpoint}
use Rattle.wire_addr.specs.declared.ip_listen_endpoint.IpListenEndpoint.{IpListenEndpoint}
use Rattle.wire_addr.specs.Ending.{EndsInNumber}
use Rattle.wire_addr.specs.Grammar.{colon}

-- the endpoint with an address and a port
abbrev pub endpoint_at : IpAddress → ℕ → IpEndpoint
endpoint_at addr port = record { addr = addr; port = port }

-- the endpoint has the port of the pair and an address to which the first part of the pair converts
abbrev pub IsAtPair : {A : Type 0} → (A → IpAddress → Type 0) → A × ℕ → IpEndpoint → Type 0
IsAtPair Converts pair endpoint = Converts pair.0 endpoint.addr × (endpoint.port ≡ pair.1)

-- the listening endpoint with the address and port of an endpoint
abbrev pub listening_at : IpEndpoint → IpListenEndpoint
listening_at endpoint = record { addr = Some endpoint.addr; port = endpoint.port }

-- the listening endpoint with a port and no address
abbrev pub listening_on : ℕ → IpListenEndpoint
listening_on port = record { addr = None; port = port }

-- the listening endpoint has an address, and its port is not 0
abbrev pub IsSpecified : IpListenEndpoint → Type 0
IsSpecified endpoint = IsSome endpoint.addr × (endpoint.port ≢ 0)

-- the text in square brackets (RFC 5952, section 6)
abbrev pub bracketed : List ℕ → List ℕ
bracketed text = codes "[" ++ text ++ codes "]"

-- ---- printed

-- the text of the address in an endpoint: an IPv6 address is in brackets, because it contains colons
-- (RFC 5952, section 6)
abbrev pub host_text : IpAddress → List ℕ
host_text (Ipv4 bytes) = dotted bytes
host_text (Ipv6 bytes) = bracketed (ipv6_text bytes)

-- the text of the port in an endpoint, with the colon before it (RFC 5952, section 6)
abbrev pub port_text : ℕ → List ℕ
port_text port = colon ∷ decimal port

-- the printed text of an endpoint (RFC 5952, section 6)
abbrev pub endpoint_text : IpEndpoint → List ℕ
endpoint_text endpoint = host_text endpoint.addr ++ port_text endpoint.port

-- the printed text of a listening endpoint; `*` stands for any address
abbrev pub listening_text : Option IpAddress → ℕ → List ℕ
listening_text (Some addr) port = endpoint_text (endpoint_at addr port)
listening_text None port = codes "*" ++ port_text port

-- ---- parsed

-- the text before a port parses as this address; an IPv6 address is in brackets (RFC 5952, section 6)
abbrev pub ReadsHost : List ℕ → IpAddress → Type 0
ReadsHost text (Ipv4 bytes) = ReadsIpv4 text bytes
ReadsHost text (Ipv6 bytes) = (inner : List ℕ) × (text ≡ bracketed inner) × ReadsIpv6 inner bytes

-- the text is an address, a colon and a port of one to five digits, at most 65535 (RFC 5952, section 6)
pub record IsWithPort (text : List ℕ) (endpoint : IpEndpoint) : Type 0 where
  pub host_text : List ℕ
  pub host : ReadsHost host_text endpoint.addr
  pub port : EndsInNumber colon 5 65535 text host_text endpoint.port

-- the text parses as this endpoint; the port of a text without one is 0 (RFC 5952, section 6)
abbrev pub ReadsEndpoint : List ℕ → IpEndpoint → Type 0
ReadsEndpoint text endpoint = (ReadsAddress text endpoint.addr × (endpoint.port ≡ 0)) ⊎ IsWithPort text endpoint

-- ---- order and hash

-- the order of endpoints: by address, then by port
abbrev pub endpoint_cmp : IpEndpoint → IpEndpoint → Ordering
endpoint_cmp a b = ordering_then (address_cmp a.addr b.addr) (nat_cmp a.port b.port)

-- the order of listening endpoints: by address, with none first, then by port
abbrev pub listening_cmp : IpListenEndpoint → IpListenEndpoint → Ordering
listening_cmp a b = ordering_then (option_cmp address_cmp a.addr b.addr) (nat_cmp a.port b.port)

-- the hashed values of an endpoint: its address and its port
abbrev pub endpoint_hash : IpEndpoint → hash.HashWrites
endpoint_hash endpoint = address_hash endpoint.addr ++ hash.u16 endpoint.port

-- the hashed values of a listening endpoint: its address, if it has one, and its port
abbrev pub listening_hash : IpListenEndpoint → hash.HashWrites
listening_hash endpoint = hash.option address_hash endpoint.addr ++ hash.u16 endpoint.port
