-- Addresses, blocks and endpoints as structs of both versions.
-- Pinned by: `worked/values`, `worked/read`, `worked/write`, `judge`
use Rattle.std.specs.Prelude.{ℕ, ◌++◌, ◌==◌, nat_le, if◌then◌else◌, List, replicate, take, Option, None, Some}
use Rattle.std.specs.Option.{option_and_then, option_map, option_map_or}
use Rattle.ip_wire.specs.Endpoint.{endpoint_at}
use Rattle.ip_wire.specs.IpAddress.{address_bytes, bits_of}
use Rattle.ip_wire.specs.IpCidr.{block_address, block_at, block_prefix_len}
use Rattle.ip_wire.specs.Types.{EthernetAddress, IpAddress}
use Rattle.ip_wire.specs.WordSum.{sum_of_bytes}
use Rattle.ip_wire.specs.declared.IpAddress.TheVariants.{Ipv4, Ipv6}
use Rattle.ip_wire.specs.declared.IpCidr.{IpCidr}
use Rattle.ip_wire.specs.declared.IpEndpoint.{IpEndpoint}
use Rattle.c_structs.specs.declared.types.Addr.{Addr}
use Rattle.c_structs.specs.declared.types.Block.{Block}
use Rattle.c_structs.specs.declared.types.Endpoint.{Endpoint}

-- ---- structs of values

-- the struct of an address: its bytes first, and its version
abbrev pub addr_of : IpAddress → Addr
addr_of (Ipv4 octets) = record { octets = octets ++ replicate 12 0; version = 4 }
addr_of (Ipv6 octets) = record { octets = octets; version = 6 }

-- the struct of an address with a port
abbrev pub endpoint_of : IpAddress → ℕ → Endpoint
endpoint_of address port = record { addr = addr_of address; port = port }

-- the struct of no address: zeros
abbrev pub no_addr : Addr
no_addr = record { octets = replicate 16 0; version = 0 }

-- the struct of no endpoint: zeros
abbrev pub no_endpoint : Endpoint
no_endpoint = record { addr = no_addr; port = 0 }

-- the struct of an endpoint
abbrev pub endpoint_struct : IpEndpoint → Endpoint
endpoint_struct v = endpoint_of v.addr v.port

-- the struct of a CIDR block
abbrev pub block_struct : IpCidr → Block
block_struct v = record { addr = addr_of (block_address v); prefix_len = block_prefix_len v }

-- the bytes of an Ethernet address
abbrev pub ethernet_bytes : EthernetAddress → List ℕ
ethernet_bytes v = v.0

-- ---- values of structs

-- the address in a struct, if its version is 4 or 6
abbrev pub ip_of : Addr → Option IpAddress
ip_of a = if a.version == 4 then Some (Ipv4 (take 4 a.octets)) else if a.version == 6 then Some (Ipv6 a.octets) else None

-- two addresses, if they have the same version
abbrev pub same_version : IpAddress → IpAddress → Option (IpAddress × IpAddress)
same_version (Ipv4 a) (Ipv4 b) = Some (Ipv4 a, Ipv4 b)
same_version (Ipv4 a) (Ipv6 b) = None
same_version (Ipv6 a) (Ipv4 b) = None
same_version (Ipv6 a) (Ipv6 b) = Some (Ipv6 a, Ipv6 b)

-- the addresses in two structs, if they have the same version
abbrev pub pair_of : Addr → Addr → Option (IpAddress × IpAddress)
pair_of a b = option_and_then (λ src. option_and_then (λ dst. same_version src dst) (ip_of b)) (ip_of a)

-- the endpoint in a struct, if it has an address
abbrev pub ip_endpoint_of : Endpoint → Option IpEndpoint
ip_endpoint_of e = option_map (λ address. endpoint_at address e.port) (ip_of e.addr)

-- the CIDR block of an address with this prefix length, if the address has so many bits
abbrev pub block_with : ℕ → IpAddress → Option IpCidr
block_with prefix_len address = if nat_le prefix_len (bits_of address) then Some (block_at address prefix_len) else None

-- the CIDR block in a struct, if there is an address and its prefix length is valid
abbrev pub block_of : Block → Option IpCidr
block_of b = option_and_then (block_with b.prefix_len) (ip_of b.addr)

-- the sum of the bytes of an address, 0 without a version
abbrev pub address_sum : Addr → ℕ
address_sum a = option_map_or (λ address. sum_of_bytes (address_bytes address)) (ip_of a) 0
