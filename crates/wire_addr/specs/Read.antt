-- The texts that parse as addresses.
-- Pinned by: `wire/texts`, `calls/worked_addresses`, `calls/eth`, `calls/ip`
use Rattle.std.specs.Prelude.{ℕ, ◌≡◌, List}
use Rattle.wire_addr.specs.Bytes.{address_bytes}
use Rattle.wire_addr.specs.declared.ethernet_address.EthernetAddress.{EthernetAddress}
use Rattle.wire_addr.specs.Grammar.{IsDotted, IsHexText, IsIpv6Text}

-- the text parses as this Ethernet address: six bytes in hex, joined all by dashes or all by colons
-- (RFC 4291, section 2.2)
abbrev pub ReadsEthernet : List ℕ → EthernetAddress → Type 0
ReadsEthernet text address = IsHexText text address.0

-- the text parses as the IPv4 address of these bytes: four decimal numbers joined by dots (RFC 4291, section 2.2)
abbrev pub ReadsIpv4 : List ℕ → List ℕ → Type 0
ReadsIpv4 text bytes = IsDotted text bytes

-- the text parses as the IPv6 address of these bytes (RFC 4291, section 2.2)
abbrev pub ReadsIpv6 : List ℕ → List ℕ → Type 0
ReadsIpv6 text bytes = (groups : List ℕ) × IsIpv6Text text groups × (bytes ≡ address_bytes groups)
