-- Neighbour solicitations and advertisements (RFC 4861, sections 4.3, 4.4, 7.1.1 and 7.1.2).
-- Pinned by: `wire/ndisc`
use Rattle.std.specs.Prelude.{ℕ, zero, suc, ◌≡◌, ◌≤◌, ◌+◌, ◌^◌, ◌++◌, ◌==◌, ◌&&◌, ◌||◌, not, nat_le, bytes_eq, if◌then◌else◌, is_none, Bool, true, false, IsTrue, Option, Some, None, List, [], ◌∷◌, drop, length, slice_range}
use Rattle.std.specs.Option.{option_and_then, option_map}
use Rattle.wire_addr.specs.Block.{Block, IsIn}
use Rattle.wire_addr.specs.Class.{ipv6_multicast, ipv6_solicited_node, ipv6_unspecified}
use Rattle.wire_addr.specs.Prefix.{bit_of}
use Rattle.wire_addr.specs.declared.ethernet_address.EthernetAddress.{EthernetAddress}
use Rattle.wire_addr.specs.declared.ip_address.IpAddress.{IpAddress}
use Rattle.wire_addr.specs.declared.ip_address.IpAddress.TheVariants as address
use Rattle.net_base.specs.Field.{field}
use Rattle.wire_icmp.specs.Icmp.{Verifies, emitted, msg_code_of, msg_type_of, verifies}
use Rattle.wire_icmp.specs.declared.icmp.header.IcmpHeader.{IcmpHeader}
use Rattle.wire_icmp.specs.NdOption.{HasLladdr, lladdr_of}
use Rattle.wire_icmp.specs.declared.ndisc.repr.NdiscNeighborFlags.{NdiscNeighborFlags}
use Rattle.wire_icmp.specs.declared.ndisc.repr.NdiscRepr.{NdiscRepr}
use Rattle.wire_icmp.specs.declared.ndisc.repr.NdiscRepr.TheVariants.{NeighborSolicit, NeighborAdvert}

-- ---- the parts of a value

-- the ICMP type of a message
abbrev pub type_of : NdiscRepr → ℕ
type_of (NeighborSolicit target lladdr) = 135
type_of (NeighborAdvert flags target lladdr) = 136

-- the type of the option of a message for a link-layer address: source, or target (section 4.6.1)
abbrev pub option_type : NdiscRepr → ℕ
option_type (NeighborSolicit target lladdr) = 1
option_type (NeighborAdvert flags target lladdr) = 2

-- the target address of a message
abbrev pub target_of : NdiscRepr → List ℕ
target_of (NeighborSolicit target lladdr) = target
target_of (NeighborAdvert flags target lladdr) = target

-- the link-layer address in the option of a message, if it has one
abbrev pub address_in : NdiscRepr → Option EthernetAddress
address_in (NeighborSolicit target lladdr) = lladdr
address_in (NeighborAdvert flags target lladdr) = lladdr

-- ---- the rules for addresses (sections 7.1.1 and 7.1.2)

-- The addresses are valid: the target is no multicast address. A solicitation from the unspecified address goes to a
-- solicited-node group, and has no link-layer address. An advertisement to a group is not solicited.
abbrev pub IsAllowed : NdiscRepr → List ℕ → List ℕ → Type 0
IsAllowed (NeighborSolicit target lladdr) src dst =
    ¬ (IsIn ipv6_multicast target) × (src ≡ ipv6_unspecified → IsIn ipv6_solicited_node dst × (lladdr ≡ None))
IsAllowed (NeighborAdvert flags target lladdr) src dst =
    ¬ (IsIn ipv6_multicast target) × (IsIn ipv6_multicast dst → flags.solicited ≡ false)

-- ---- reading

-- the flags R, S and O of an advertisement
abbrev pub flags_of : List ℕ → NdiscNeighborFlags
flags_of bytes = record { router = field bytes 32 1 == 1; solicited = field bytes 33 1 == 1; override_ = field bytes 34 1 == 1 }

-- the value of an advertisement has the flags in the bytes; a solicitation has none
abbrev pub HasFlags : List ℕ → NdiscRepr → Type 0
HasFlags bytes (NeighborSolicit target lladdr) = Unit {0}
HasFlags bytes (NeighborAdvert flags target lladdr) = flags ≡ flags_of bytes

-- the bytes are a message between two addresses that parses as this value. The hop limit is that of its IPv6 header: a
-- router would have made it less than 255.
pub record Reads (bytes src dst : List ℕ) (hop_limit : ℕ) (verified : Bool) (v : NdiscRepr) : Type 0 where
  pub least : 24 ≤ length bytes
  pub hops : hop_limit ≡ 255
  pub checksum : IsTrue verified → Verifies (address.Ipv6 src) (address.Ipv6 dst) bytes
  pub type : msg_type_of bytes ≡ type_of v
  pub code : msg_code_of bytes ≡ 0
  pub flags : HasFlags bytes v
  pub target : target_of v ≡ slice_range bytes 8 24
  pub lladdr : HasLladdr (drop 24 bytes) (option_type v) (address_in v)
  pub allowed : IsAllowed v src dst

-- ---- parsing, computed

-- whether the first n bits of both are the same
unfoldable pub agree_first : ℕ → List ℕ → List ℕ → Bool
agree_first zero xs ys = true
agree_first (suc n) xs ys = bit_of xs n == bit_of ys n && agree_first n xs ys

-- whether the address is in the block
abbrev pub is_in : Block → List ℕ → Bool
is_in block address = agree_first block.prefix_len block.address address

-- whether the rules for addresses allow the value
abbrev pub is_allowed : NdiscRepr → List ℕ → List ℕ → Bool
is_allowed (NeighborSolicit target lladdr) src dst =
    not (is_in ipv6_multicast target) && (not (bytes_eq src ipv6_unspecified) || (is_in ipv6_solicited_node dst && is_none lladdr))
is_allowed (NeighborAdvert flags target lladdr) src dst =
    not (is_in ipv6_multicast target) && (not (is_in ipv6_multicast dst) || not flags.solicited)

-- whether length, hop limit, code and checksum are valid
abbrev pub is_sound : IpAddress → IpAddress → ℕ → Bool → List ℕ → Bool
is_sound src dst hop_limit verified bytes =
    nat_le 24 (length bytes) && hop_limit == 255 && msg_code_of bytes == 0 && (not verified || verifies src dst bytes)

-- the value of a solicitation or an advertisement, by its type, if its options are valid
abbrev pub value_of : List ℕ → Option NdiscRepr
value_of bytes =
    let target = slice_range bytes 8 24 in
    if msg_type_of bytes == 135 then option_map (λ lladdr. NeighborSolicit target lladdr) (lladdr_of 1 (drop 24 bytes))
    else (if msg_type_of bytes == 136 then option_map (λ lladdr. NeighborAdvert (flags_of bytes) target lladdr) (lladdr_of 2 (drop 24 bytes)) else None)

-- the value that the bytes parse as, if there is one
unfoldable pub ndisc_of : List ℕ → List ℕ → ℕ → Bool → List ℕ → Option NdiscRepr
ndisc_of src dst hop_limit verified bytes =
    if is_sound (address.Ipv6 src) (address.Ipv6 dst) hop_limit verified bytes
    then option_and_then (λ v. if is_allowed v src dst then Some v else None) (value_of bytes) else None

-- ---- writing

-- the second word of the header of an advertisement, with the flags R, S and O in its first bits
abbrev pub flags_word : NdiscNeighborFlags → ℕ
flags_word flags =
    (if flags.router then 2 ^ 31 else 0) + (if flags.solicited then 2 ^ 30 else 0) + (if flags.override_ then 2 ^ 29 else 0)

-- the ICMP header of a message; a solicitation has no flags
abbrev pub header_of : NdiscRepr → IcmpHeader
header_of (NeighborSolicit target lladdr) = record { msg_type = 135; msg_code = 0; word = 0 }
header_of (NeighborAdvert flags target lladdr) = record { msg_type = 136; msg_code = 0; word = flags_word flags }

-- the bytes of the option with a link-layer address, of one unit of 8 bytes; nothing without an address
abbrev pub option_bytes : ℕ → Option EthernetAddress → List ℕ
option_bytes type None = []
option_bytes type (Some address) = type ∷ 1 ∷ address.0

-- the bytes after the ICMP header: the target, and the option if there is an address
abbrev pub body_of : NdiscRepr → List ℕ
body_of v = target_of v ++ option_bytes (option_type v) (address_in v)

-- the length of the message in bytes
abbrev pub len_of : NdiscRepr → ℕ
len_of v = if is_none (address_in v) then 24 else 32

-- the message, with its checksum if it is computed, else with 0
abbrev pub bytes_of : NdiscRepr → List ℕ → List ℕ → Bool → List ℕ
bytes_of v src dst computed = emitted (header_of v) (body_of v) (address.Ipv6 src) (address.Ipv6 dst) computed
