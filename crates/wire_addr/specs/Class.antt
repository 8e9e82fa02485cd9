-- Classes of addresses: multicast, link-local, and so on.
-- Pinned by: `tests/frames/class_lines.py`, `wire/ipv6_address`, `ClassWorked`
use Rattle.std.specs.Prelude.{ℕ, ◌≡◌, ◌≢◌, ◌⊎◌, ◌%◌, ◌==◌, if◌then◌else◌, Option, Some, None, List, [], ◌∷◌, ◌++◌, drop, replicate, slice_index, take}
use Rattle.wire_addr.specs.Block.{Block, IsIn}
use Rattle.wire_addr.specs.Hardware.{eui_64}
use Rattle.wire_addr.specs.Bytes.{address_bytes}
use Rattle.wire_addr.specs.declared.hardware_address.HardwareAddress.{HardwareAddress}
use Rattle.wire_addr.specs.declared.hardware_address.HardwareAddress.TheVariants.{Ip, Ethernet}
use Rattle.wire_addr.specs.declared.ipv6_multicast_scope.Ipv6MulticastScope.{Ipv6MulticastScope}
use Rattle.wire_addr.specs.declared.ipv6_multicast_scope.Ipv6MulticastScope.TheVariants as scope

-- ---- IPv4

-- the unspecified address of IPv4, 0.0.0.0 (RFC 1122, section 3.2.1.3)
abbrev pub ipv4_unspecified : List ℕ
ipv4_unspecified = replicate 4 0

-- the limited broadcast address of IPv4, 255.255.255.255 (RFC 919, section 7)
abbrev pub ipv4_broadcast : List ℕ
ipv4_broadcast = replicate 4 0xff

-- the multicast addresses of IPv4, 224.0.0.0/4 (RFC 5771, section 3)
abbrev pub ipv4_multicast : Block
ipv4_multicast = record { address = 224 ∷ 0 ∷ 0 ∷ 0 ∷ []; prefix_len = 4 }

-- the loopback addresses of IPv4, 127.0.0.0/8 (RFC 1122, section 3.2.1.3)
abbrev pub ipv4_loopback : Block
ipv4_loopback = record { address = 127 ∷ 0 ∷ 0 ∷ 0 ∷ []; prefix_len = 8 }

-- the link-local addresses of IPv4, 169.254.0.0/16 (RFC 3927, section 2.1)
abbrev pub ipv4_link_local : Block
ipv4_link_local = record { address = 169 ∷ 254 ∷ 0 ∷ 0 ∷ []; prefix_len = 16 }

-- an IPv4 address that is neither broadcast, multicast nor unspecified
abbrev pub IsIpv4Unicast : List ℕ → Type 0
IsIpv4Unicast address = (address ≢ ipv4_broadcast) × ¬ (IsIn ipv4_multicast address) × (address ≢ ipv4_unspecified)

-- ---- IPv6

-- the unspecified address of IPv6, `::` (RFC 4291, section 2.5.2)
abbrev pub ipv6_unspecified : List ℕ
ipv6_unspecified = replicate 16 0

-- the loopback address of IPv6, `::1` (RFC 4291, section 2.5.3)
abbrev pub ipv6_loopback : List ℕ
ipv6_loopback = address_bytes (0 ∷ 0 ∷ 0 ∷ 0 ∷ 0 ∷ 0 ∷ 0 ∷ 1 ∷ [])

-- the IPv6 block with this prefix length of the address with these groups
abbrev pub ipv6_block : List ℕ → ℕ → Block
ipv6_block groups prefix_len = record { address = address_bytes groups; prefix_len = prefix_len }

-- the multicast addresses of IPv6, ff00::/8 (RFC 4291, section 2.7)
abbrev pub ipv6_multicast : Block
ipv6_multicast = ipv6_block (0xff00 ∷ 0 ∷ 0 ∷ 0 ∷ 0 ∷ 0 ∷ 0 ∷ 0 ∷ []) 8

-- the unique local addresses of IPv6, fc00::/7 (RFC 4193, section 3.1)
abbrev pub ipv6_unique_local : Block
ipv6_unique_local = ipv6_block (0xfc00 ∷ 0 ∷ 0 ∷ 0 ∷ 0 ∷ 0 ∷ 0 ∷ 0 ∷ []) 7

-- the link-local addresses of IPv6, fe80::/64: the ten bits of the prefix and 54 zeros (RFC 4291, section 2.5.6)
abbrev pub ipv6_link_local : Block
ipv6_link_local = ipv6_block (0xfe80 ∷ 0 ∷ 0 ∷ 0 ∷ 0 ∷ 0 ∷ 0 ∷ 0 ∷ []) 64

-- the global unicast addresses of IPv6, 2000::/3 (RFC 3587, section 3)
abbrev pub ipv6_global_unicast : Block
ipv6_global_unicast = ipv6_block (0x2000 ∷ 0 ∷ 0 ∷ 0 ∷ 0 ∷ 0 ∷ 0 ∷ 0 ∷ []) 3

-- the solicited-node multicast addresses, ff02::1:ff00:0/104 (RFC 4291, section 2.7.1)
abbrev pub ipv6_solicited_node : Block
ipv6_solicited_node = ipv6_block (0xff02 ∷ 0 ∷ 0 ∷ 0 ∷ 0 ∷ 1 ∷ 0xff00 ∷ 0 ∷ []) 104

-- an IPv6 address that is neither multicast nor unspecified (RFC 4291, section 2.1)
abbrev pub IsIpv6Unicast : List ℕ → Type 0
IsIpv6Unicast address = ¬ (IsIn ipv6_multicast address) × (address ≢ ipv6_unspecified)

-- the solicited-node multicast address of an address: ff02::1:ff00:0/104 with its last three bytes (RFC 4291, section
-- 2.7.1)
abbrev pub solicited_node : List ℕ → List ℕ
solicited_node address = take 13 ipv6_solicited_node.address ++ drop 13 address

-- the address of an interface on a link with a prefix of 64 bits: the prefix and the interface identifier (RFC 2464,
-- section 4)
abbrev pub link_address : Block → HardwareAddress → Option (List ℕ)
link_address prefix Ip = None
link_address prefix (Ethernet hardware) =
    if prefix.prefix_len == 64 then Some (take 8 prefix.address ++ eui_64 hardware.0) else None

-- the multicast scope that a number names (RFC 4291, section 2.7)
abbrev pub scope_of : ℕ → Ipv6MulticastScope
scope_of n =
    if n == 1 then scope.InterfaceLocal else (
    if n == 2 then scope.LinkLocal else (
    if n == 4 then scope.AdminLocal else (
    if n == 5 then scope.SiteLocal else (
    if n == 8 then scope.OrganizationLocal else (
    if n == 14 then scope.Global else scope.Unknown)))))

-- the IPv6 address has this scope; that of a multicast address is in the low four bits of its second byte (RFC 4291,
-- section 2.7; RFC 6724, section 3.1)
pub record HasScope (address : List ℕ) (found : Ipv6MulticastScope) : Type 0 where
  pub multicast : IsIn ipv6_multicast address → found ≡ scope_of (slice_index address 1 % 16)
  pub link_local : ¬ (IsIn ipv6_multicast address) → IsIn ipv6_link_local address → found ≡ scope.LinkLocal
  pub global : ¬ (IsIn ipv6_multicast address) → ¬ (IsIn ipv6_link_local address)
      → IsIn ipv6_unique_local address ⊎ IsIn ipv6_global_unicast address → found ≡ scope.Global
  pub other : ¬ (IsIn ipv6_multicast address) → ¬ (IsIn ipv6_link_local address) → ¬ (IsIn ipv6_unique_local address)
      → ¬ (IsIn ipv6_global_unicast address) → found ≡ scope.Unknown
