-- Addresses and blocks that the definitions of classes, blocks and hardware addresses exclude.
use Rattle.std.proofs.Common.{ℕ, ◌≡◌, ◌≢◌, [], ◌∷◌, ap, arith, lit<, lit≤, refl}
use Rattle.std.specs.Prelude.{slice_index}
use Rattle.net_base.specs.declared.medium.Medium.TheVariants as medium
use Rattle.wire_addr.specs.Block.{IsIn, IsWithin}
use Rattle.wire_addr.specs.Class.{IsIpv4Unicast, IsIpv6Unicast, ipv4_broadcast, ipv4_multicast, ipv4_unspecified, ipv6_multicast, ipv6_unspecified}
use Rattle.wire_addr.specs.Hardware.{AreAddress, IsBroadcast, IsLocal, IsMulticast, IsUnicast}
use Rattle.wire_addr.specs.declared.hardware_address.HardwareAddress.{HardwareAddress}
use Rattle.wire_addr.proofs.Blocks.{prefix_from_within}
use Rattle.wire_addr.proofs.Numbers.{IsByteArray-bytes}

-- a bit of the prefix would be equal
lower : ◌≢◌ {A = ℕ} 1 0
lower e = omega (arith, e)

higher : ◌≢◌ {A = ℕ} 0 1
higher e = omega (arith, e)

-- ---- classes

multicast-before : ¬ (IsIn ipv4_multicast (223 ∷ 255 ∷ 255 ∷ 255 ∷ []))
multicast-before h = lower (h 2 (lit< tt))

multicast-past : ¬ (IsIn ipv4_multicast (240 ∷ 0 ∷ 0 ∷ 0 ∷ []))
multicast-past h = higher (h 3 (lit< tt))

broadcast-no_unicast : ¬ (IsIpv4Unicast ipv4_broadcast)
broadcast-no_unicast h = h.0 refl

unspecified-no_unicast : ¬ (IsIpv4Unicast ipv4_unspecified)
unspecified-no_unicast h = h.2 refl

multicast-no_unicast : ¬ (IsIpv4Unicast ipv4_multicast.address)
multicast-no_unicast h = h.1 (λ k below. refl)

multicast6-no_unicast : ¬ (IsIpv6Unicast ipv6_multicast.address)
multicast6-no_unicast h = h.0 (λ k below. refl)

unspecified6-no_unicast : ¬ (IsIpv6Unicast ipv6_unspecified)
unspecified6-no_unicast h = h.1 refl

-- ---- blocks

-- a block is not within its half
longer-prefix : ¬ (IsWithin 4 (record { address = 10 ∷ 0 ∷ 0 ∷ 0 ∷ []; prefix_len = 8 }) (record { address = 10 ∷ 0 ∷ 0 ∷ 0 ∷ []; prefix_len = 9 }))
longer-prefix h =
    let le = prefix_from_within 4 8 9 (10 ∷ 0 ∷ 0 ∷ 0 ∷ []) (10 ∷ 0 ∷ 0 ∷ 0 ∷ []) (IsByteArray-bytes 4 0xa000000) (lit≤ tt) h in
    omega (arith, le)

-- nor within the block next to it
next-block : ¬ (IsWithin 4 (record { address = 10 ∷ 1 ∷ 0 ∷ 0 ∷ []; prefix_len = 16 }) (record { address = 10 ∷ 0 ∷ 0 ∷ 0 ∷ []; prefix_len = 16 }))
next-block h = higher (h (10 ∷ 1 ∷ 0 ∷ 0 ∷ []) (IsByteArray-bytes 4 0xa010000) (λ k below. refl) 15 (lit< tt))

-- ---- hardware addresses

one_zero-no_broadcast : ¬ (IsBroadcast (0xff ∷ 0xff ∷ 0xff ∷ 0xff ∷ 0xff ∷ 0xfe ∷ []))
one_zero-no_broadcast h = let last : 254 ≡ 255 = ap (λ octets. slice_index octets 5) h in omega (arith, last)

local-no_multicast : ¬ (IsMulticast (0xfe ∷ 0xff ∷ 0xff ∷ 0xff ∷ 0xff ∷ 0xff ∷ []))
local-no_multicast h = h refl

group-not_local : ¬ (IsLocal (0xfd ∷ 0xff ∷ 0xff ∷ 0xff ∷ 0xff ∷ 0xff ∷ []))
group-not_local h = h refl

group-no_unicast : ¬ (IsUnicast (0x01 ∷ 0 ∷ 0x5e ∷ 0 ∷ 0 ∷ 0x01 ∷ []))
group-no_unicast h = h.1 lower

no_medium : (address : HardwareAddress) → ¬ (AreAddress (2 ∷ 0 ∷ 0 ∷ 0 ∷ 0 ∷ 1 ∷ []) medium.Ip address)
no_medium address h = absurd (cc)

five-octets : (address : HardwareAddress) → ¬ (AreAddress (2 ∷ 0 ∷ 0 ∷ 0 ∷ 0 ∷ []) medium.Ethernet address)
five-octets address h = omega (arith, h.long)
