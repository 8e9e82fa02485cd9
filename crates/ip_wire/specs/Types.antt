-- The types of the values that most clauses and proofs cite, passed on from one place. Declares nothing.
pub use Rattle.net_base.specs.declared.Error.{Error}
pub use Rattle.wire_addr.specs.declared.EthernetAddress.{EthernetAddress}
pub use Rattle.wire_arp.specs.declared.ArpRepr.{ArpRepr}
pub use Rattle.wire_addr.specs.declared.IpAddress.{IpAddress}
pub use Rattle.wire_addr.specs.declared.IpProtocol.{IpProtocol}
pub use Rattle.wire_addr.specs.declared.IpVersion.{IpVersion}
pub use Rattle.wire_ethernet.specs.declared.EthernetProtocol.{EthernetProtocol}
pub use Rattle.wire_ethernet.specs.declared.EthernetRepr.{EthernetRepr}
pub use Rattle.wire_ip.specs.declared.IpRepr.{IpRepr}
pub use Rattle.wire_ip.specs.declared.IpRepr.TheVariants.{Ipv4, Ipv6}
pub use Rattle.wire_ipv4.specs.declared.Ipv4Repr.{Ipv4Repr}
pub use Rattle.wire_ipv6.specs.declared.Ipv6Repr.{Ipv6Repr}
pub use Rattle.wire_tcp.specs.TcpRepr.{TcpHeader}
pub use Rattle.wire_udp.specs.declared.UdpRepr.{UdpRepr}
