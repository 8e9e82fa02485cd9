-- The conversions from the addresses and socket addresses of `std::net`.
-- Pinned by: `wire/ip_address`, `wire/ip_endpoint`
use Rattle.std.specs.Net.Addr.{ipv4_octets, ipv6_octets}
use Rattle.std.specs.Net.Socket.{socket_ip, socket_port}
use Rattle.std.specs.declared.net.ip_addr.IpAddr.{IpAddr}
use Rattle.std.specs.declared.net.ip_addr.IpAddr.TheVariants.{V4, V6}
use Rattle.std.specs.declared.net.socket_addr.SocketAddr.{SocketAddr}
use Rattle.wire_addr.specs.declared.ip_address.IpAddress.{IpAddress}
use Rattle.wire_addr.specs.declared.ip_address.IpAddress.TheVariants.{Ipv4, Ipv6}
use Rattle.wire_addr.specs.declared.ip_endpoint.IpEndpoint.{IpEndpoint}

-- the address of the same version with the same bytes
abbrev pub address_of : IpAddr → IpAddress
address_of (V4 addr) = Ipv4 (ipv4_octets addr)
address_of (V6 addr) = Ipv6 (ipv6_octets addr)

-- the endpoint with the address and port of a socket address; its flow and scope are dropped
abbrev pub endpoint_of : SocketAddr → IpEndpoint
endpoint_of socket = record { addr = address_of (socket_ip socket); port = socket_port socket }
