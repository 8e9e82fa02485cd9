-- Link-layer headers of captured packets, by the link type of the capture (www.tcpdump.org/linktypes.html).
-- Pinned by: `worked/link`, `apps/links`
use Rattle.std.specs.Prelude.{ℕ, ◌+◌, ◌==◌, ◌||◌, not, nat_lt, if◌then◌else◌, Bool, List, [], ◌∷◌, drop, length, slice_index, Option, Some, None, Result, Ok, Err}
use Rattle.byteorder.specs.Endian.{little_number}
use Rattle.net_base.specs.Field.{field}
use Rattle.wire_link.specs.declared.link.Link.{Link}
use Rattle.wire_link.specs.declared.link.LinkFault.{LinkFault}
use Rattle.wire_link.specs.declared.link.LinkFault.TheVariants as fault
use Rattle.wire_link.specs.declared.link_type.LinkType.{LinkType}
use Rattle.wire_link.specs.declared.link_type.LinkType.TheVariants as kind

-- ---- the header of each link type

-- the link type of a number: LINKTYPE_NULL 0, ETHERNET 1, RAW 101 (as DLT_RAW 12 or 14), LOOP 108, LINUX_SLL 113,
-- IPV4 228, IPV6 229, LINUX_SLL2 276
abbrev pub link_type_of : ℕ → Option LinkType
link_type_of number =
    if number == 0 then Some kind.Null
    else if number == 1 then Some kind.Ethernet
    else if (number == 12) || (number == 14) || (number == 101) then Some kind.Raw
    else if number == 108 then Some kind.Loop
    else if number == 113 then Some kind.LinuxSll
    else if number == 228 then Some kind.Ipv4
    else if number == 229 then Some kind.Ipv6
    else if number == 276 then Some kind.LinuxSll2
    else None

-- the length of the header without tags, in bytes
abbrev pub header_len : LinkType → ℕ
header_len kind.Null = 4
header_len kind.Ethernet = 14
header_len kind.Loop = 4
header_len kind.Raw = 0
header_len kind.LinuxSll = 16
header_len kind.Ipv4 = 0
header_len kind.Ipv6 = 0
header_len kind.LinuxSll2 = 20

-- how many bytes tell the EtherType: the header, or the first byte of a packet without one
abbrev pub least_len : LinkType → ℕ
least_len kind.Raw = 1
least_len kind.Ipv4 = 1
least_len kind.Ipv6 = 1
least_len t = header_len t

-- the EtherType of a packet of this address family: IPv4 is 2 everywhere; IPv6 is 10 in Linux, 24 in NetBSD and
-- OpenBSD, 28 in FreeBSD, 30 in macOS; 0 for another family
abbrev pub family_type : ℕ → ℕ
family_type family =
    if family == 2 then 2048
    else if (family == 10) || (family == 24) || (family == 28) || (family == 30) then 34525
    else 0

-- the EtherType of a family that has the byte order of the capturing host, which may be either
abbrev pub loopback_type : List ℕ → ℕ
loopback_type bytes =
    let big = family_type (field bytes 0 32) in
    if big == 0 then family_type (little_number 4 bytes) else big

-- whether packets without a header have this version: of RAW 4 or 6, of IPV4 4, of IPV6 6
abbrev pub has_version : LinkType → ℕ → Bool
has_version kind.Ipv4 version = version == 4
has_version kind.Ipv6 version = version == 6
has_version t version = (version == 4) || (version == 6)

-- the EtherType of an IP packet of this version, if the link type has such packets
abbrev pub raw_type : LinkType → ℕ → Result ℕ LinkFault
raw_type t version =
    if not (has_version t version) then Err fault.BadVersion
    else if version == 4 then Ok 2048
    else Ok 34525

-- the EtherType in a Linux cooked header: its protocol field, unless frame relay (770), radiotap (803) or netlink (824)
-- is the ARPHRD type of the device; 0 then
abbrev pub cooked_type : ℕ → ℕ → ℕ
cooked_type device protocol = if (device == 770) || (device == 803) || (device == 824) then 0 else protocol

-- the EtherType in a header
abbrev pub type_in : LinkType → List ℕ → Result ℕ LinkFault
type_in kind.Null bytes = Ok (loopback_type bytes)
type_in kind.Ethernet bytes = Ok (field bytes 96 16)
type_in kind.Loop bytes = Ok (family_type (field bytes 0 32))
type_in kind.Raw bytes = raw_type kind.Raw (field bytes 0 4)
type_in kind.LinuxSll bytes = Ok (cooked_type (field bytes 16 16) (field bytes 112 16))
type_in kind.Ipv4 bytes = raw_type kind.Ipv4 (field bytes 0 4)
type_in kind.Ipv6 bytes = raw_type kind.Ipv6 (field bytes 0 4)
type_in kind.LinuxSll2 bytes = Ok (cooked_type (field bytes 64 16) (field bytes 0 16))

-- ---- VLAN tags

-- whether a VLAN tag follows this EtherType: 0x8100, 0x88a8 (IEEE 802.1Q) or 0x9100 (QinQ before 802.1ad)
abbrev pub is_tag : ℕ → Bool
is_tag ethertype = (ethertype == 33024) || (ethertype == 34984) || (ethertype == 37120)

-- a header of this length without tags
abbrev pub untagged : ℕ → ℕ → Link
untagged len ethertype = record { offset = len; ethertype = ethertype; tags = 0 ∷ 0 ∷ []; tag_count = 0 }

-- the link with one more tag: its control information and the next EtherType are the next four bytes
abbrev pub tagged : Link → List ℕ → Link
tagged l rest = record {
  offset = l.offset + 4;
  ethertype = field rest 16 16;
  tags = if l.tag_count == 0 then field rest 0 16 ∷ 0 ∷ [] else slice_index l.tags 0 ∷ field rest 0 16 ∷ [];
  tag_count = if l.tag_count == 0 then 1 else 2;
}

-- the link with the tag that follows it, if its EtherType names one
abbrev pub with_tag : List ℕ → Link → Result Link LinkFault
with_tag bytes l =
    if not (is_tag l.ethertype) then Ok l
    else if nat_lt (length (drop l.offset bytes)) 4 then Err (fault.TooShort (l.offset + 4))
    else Ok (tagged l (drop l.offset bytes))

-- ---- the header with its tags

-- what follows from a value, unless there is a fault instead of it
abbrev pub and_then : {A : Type 0} → (A → Result Link LinkFault) → Result A LinkFault → Result Link LinkFault
and_then f (Ok value) = f value
and_then f (Err why) = Err why

-- the header of this link type that the bytes begin with, with at most two tags, or why there is none
abbrev pub link_of : LinkType → List ℕ → Result Link LinkFault
link_of t bytes =
    if nat_lt (length bytes) (least_len t) then Err (fault.TooShort (least_len t))
    else and_then (λ ethertype. and_then (with_tag bytes) (with_tag bytes (untagged (header_len t) ethertype))) (type_in t bytes)
