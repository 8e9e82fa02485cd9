-- Link-layer addresses (for Ethernet IEEE 802.3, 3.2.3).
-- Pinned by: `wire/ethernet_address`, `ClassWorked`, `wire/hardware_address`, `wire/raw_hardware_address`
use Rattle.std.specs.Prelude.{ℕ, ◌≡◌, ◌-◌, ◌+◌, ◌*◌, ◌/◌, ◌%◌, IsBitSet, Option, Some, None, List, ◌∷◌, ◌++◌, codes, length, replicate, slice_index, slice_range}
use Rattle.net_base.specs.declared.medium.Medium.{Medium}
use Rattle.net_base.specs.declared.medium.Medium.TheVariants as medium
use Rattle.wire_addr.specs.Printed.{dashed}
use Rattle.wire_addr.specs.declared.hardware_address.HardwareAddress.{HardwareAddress}
use Rattle.wire_addr.specs.declared.hardware_address.HardwareAddress.TheVariants.{Ip, Ethernet}

-- ---- the six bytes of Ethernet

-- a broadcast Ethernet address: all bits are set (IEEE 802.3, section 3.2.3)
abbrev pub IsBroadcast : List ℕ → Type 0
IsBroadcast bytes = bytes ≡ replicate 6 0xff

-- a multicast Ethernet address: the I/G bit, the lowest bit of the first byte, is set (IEEE 802.3, section 3.2.3)
abbrev pub IsMulticast : List ℕ → Type 0
IsMulticast bytes = IsBitSet (slice_index bytes 0) 0

-- a locally administered Ethernet address: the U/L bit, the bit above the I/G bit, is set (IEEE 802.3, section 3.2.3)
abbrev pub IsLocal : List ℕ → Type 0
IsLocal bytes = IsBitSet (slice_index bytes 0) 1

-- a unicast Ethernet address: neither broadcast nor multicast
abbrev pub IsUnicast : List ℕ → Type 0
IsUnicast bytes = ¬ IsBroadcast bytes × ¬ IsMulticast bytes

-- the byte with the bit above its lowest one inverted (RFC 4291, appendix A)
abbrev pub with_local_inverted : ℕ → ℕ
with_local_inverted byte = byte / 4 * 4 + (1 - byte / 2 % 2) * 2 + byte % 2

-- the modified EUI-64 of an Ethernet address: its bytes with ff and fe in their middle and the U/L bit inverted (RFC
-- 4291, appendix A) (RFC 4291, appendix A)
abbrev pub eui_64 : List ℕ → List ℕ
eui_64 bytes = with_local_inverted (slice_index bytes 0) ∷ slice_range bytes 1 3 ++ 0xff ∷ 0xfe ∷ slice_range bytes 3 6

-- ---- addresses on any medium

-- the medium of a hardware address
abbrev pub medium_of : HardwareAddress → Medium
medium_of Ip = medium.Ip
medium_of (Ethernet address) = medium.Ethernet

-- the bytes of a hardware address, if it has any
abbrev pub address_bytes : HardwareAddress → Option (List ℕ)
address_bytes Ip = None
address_bytes (Ethernet address) = Some address.0

-- the modified EUI-64 of a hardware address, if it has one
abbrev pub eui_64_of : HardwareAddress → Option (List ℕ)
eui_64_of Ip = None
eui_64_of (Ethernet address) = Some (eui_64 address.0)

-- the printed text of a hardware address
abbrev pub address_text : HardwareAddress → List ℕ
address_text Ip = codes "no hardware addr"
address_text (Ethernet address) = dashed address.0

-- the bytes are this hardware address on a medium: on Ethernet six bytes; on no other medium are bytes an address
pub record AreAddress (bytes : List ℕ) (on : Medium) (address : HardwareAddress) : Type 0 where
  pub on_ethernet : on ≡ medium.Ethernet
  pub long : length bytes ≡ 6
  pub same : address_bytes address ≡ Some bytes
