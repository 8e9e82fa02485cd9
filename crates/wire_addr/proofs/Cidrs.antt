-- Blocks of either version that contain each other.
use Rattle.std.proofs.Common.{◌≤◌, arith}
use Rattle.wire_addr.proofs.Blocks.{prefix_from_within}
use Rattle.wire_addr.specs.IpAddress.{IsAddress, bits_of}
use Rattle.wire_addr.specs.IpCidr.{IsIn, IsWithin, block_address, block_prefix_len}
use Rattle.wire_addr.specs.declared.ip_address.IpAddress.TheVariants as ip
use Rattle.wire_addr.specs.declared.ip_cidr.IpCidr.{IpCidr}
use Rattle.wire_addr.specs.declared.ip_cidr.IpCidr.TheVariants.{Ipv4, Ipv6}
use Rattle.std.proofs.lemmas.Grind.{common_steps}
use Rattle.std.proofs.lemmas.Bool.Decides.{nat_tests}

-- a block contains the address from which it was made
own_address : (block : IpCidr) → IsIn block (block_address block)
own_address block = grind arith

-- so a block within another has its address in that one
pub IsWithin-address : (inner outer : IpCidr) → IsAddress (block_address inner) → IsWithin inner outer → IsIn outer (block_address inner)
IsWithin-address inner outer is within = within (block_address inner) is (own_address inner)

-- and its prefix is at least as long
pub IsWithin-prefix_len : (inner outer : IpCidr) → IsAddress (block_address inner) → block_prefix_len outer ≤ bits_of (block_address outer)
    → IsWithin inner outer → block_prefix_len outer ≤ block_prefix_len inner
IsWithin-prefix_len (Ipv4 inner) (Ipv4 outer) is bound within =
    prefix_from_within 4 inner.prefix_len outer.prefix_len inner.address outer.address is bound (λ octets. within (ip.Ipv4 octets))
IsWithin-prefix_len (Ipv4 inner) (Ipv6 outer) is bound within = absurd (IsWithin-address (Ipv4 inner) (Ipv6 outer) is within)
IsWithin-prefix_len (Ipv6 inner) (Ipv4 outer) is bound within = absurd (IsWithin-address (Ipv6 inner) (Ipv4 outer) is within)
IsWithin-prefix_len (Ipv6 inner) (Ipv6 outer) is bound within =
    prefix_from_within 16 inner.prefix_len outer.prefix_len inner.address outer.address is bound (λ octets. within (ip.Ipv6 octets))

-- the two together suffice
pub address-IsWithin : (inner outer : IpCidr) → IsIn outer (block_address inner) → block_prefix_len outer ≤ block_prefix_len inner
    → IsWithin inner outer
address-IsWithin inner outer member enough = grind (arith, common_steps, nat_tests)
