-- Offsets of fields in an Ethernet frame (RFC 791, section 3.1; RFC 8200, sections 3 and 4.5), and in transport headers
-- (RFC 9293, section 3.1; RFC 768; RFC 792; RFC 4443, section 2.1).
-- Pinned by: `worked/edit`
use Rattle.std.specs.Prelude.{ℕ}

-- the end of the Ethernet header, where the IP header begins
abbrev pub ip_header : ℕ
ip_header = 14

-- the end of the byte with the version, and with the header length of IPv4
abbrev pub version_end : ℕ
version_end = 15

-- the end of the bytes with the DSCP
abbrev pub dscp_end : ℕ
dscp_end = 16

-- the total length of IPv4
abbrev pub ipv4_total_len : ℕ
ipv4_total_len = 16

-- the TTL of IPv4
abbrev pub ipv4_hop_limit : ℕ
ipv4_hop_limit = 22

-- the protocol of IPv4
abbrev pub ipv4_protocol : ℕ
ipv4_protocol = 23

-- the checksum of an IPv4 header
abbrev pub ipv4_checksum : ℕ
ipv4_checksum = 24

-- the source address of IPv4
abbrev pub ipv4_src : ℕ
ipv4_src = 26

-- the destination address of IPv4
abbrev pub ipv4_dst : ℕ
ipv4_dst = 30

-- the end of an IPv4 header without options
abbrev pub ipv4_end : ℕ
ipv4_end = 34

-- the payload length of IPv6
abbrev pub ipv6_payload_len : ℕ
ipv6_payload_len = 18

-- the hop limit of IPv6
abbrev pub ipv6_hop_limit : ℕ
ipv6_hop_limit = 21

-- the source address of IPv6
abbrev pub ipv6_src : ℕ
ipv6_src = 22

-- the destination address of IPv6
abbrev pub ipv6_dst : ℕ
ipv6_dst = 38

-- the end of an IPv6 header, where its extension headers begin
abbrev pub ipv6_end : ℕ
ipv6_end = 54

-- the data offset in a TCP header
abbrev pub tcp_data_offset : ℕ
tcp_data_offset = 12

-- the checksum in a TCP header
abbrev pub tcp_checksum : ℕ
tcp_checksum = 16

-- the length in a UDP header
abbrev pub udp_len : ℕ
udp_len = 4

-- the checksum in a UDP header
abbrev pub udp_checksum : ℕ
udp_checksum = 6

-- the checksum in a header of ICMP or ICMPv6
abbrev pub icmp_checksum : ℕ
icmp_checksum = 2
