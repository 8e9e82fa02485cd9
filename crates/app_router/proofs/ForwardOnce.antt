-- A frame has one result of a hop, or a fault.
use Rattle.std.proofs.Common.{◌≡◌, ◌∙◌, ◌++◌, Bool, true, List, ℕ, None, drop, slice_range, sym, ap, subst}
use Rattle.app_host.proofs.MessagesOnce.{link-once}
use Rattle.app_router.proofs.Forwards.{no-fault}
use Rattle.app_router.specs.Forward.{CarriesAs, IsForwarded, fault_of, one_hop_less, with_hop_limit}
use Rattle.ip_wire.proofs.EthernetComputed.{ethernet_of-Reads}
use Rattle.ip_wire.proofs.Ipv4Computed.{ipv4_of-Reads}
use Rattle.ip_wire.proofs.Ipv6Computed.{ipv6_of-Reads}
use Rattle.ip_wire.proofs.ReadsOnce.{computed-one}
use Rattle.ip_wire.specs.Ethernet as ethernet
use Rattle.ip_wire.specs.Ip.{hop_limit_of}
use Rattle.ip_wire.specs.Types.{EthernetAddress, EthernetProtocol, EthernetRepr, IpRepr, Ipv4, Ipv6}
use Rattle.ip_wire.specs.declared.EthernetProtocol.TheVariants as ethertype

-- ---- the headers of a frame

header-once : (type : EthernetProtocol) (bytes : List ℕ) (verified : Bool) (v w : IpRepr) → CarriesAs type bytes verified v → CarriesAs type bytes verified w → v ≡ w
header-once type bytes verified (Ipv4 v) (Ipv4 w) a b =
    ap Ipv4 (computed-one _ v w ((ipv4_of-Reads verified bytes v).1 a.reads) ((ipv4_of-Reads verified bytes w).1 b.reads))
header-once type bytes verified (Ipv6 v) (Ipv6 w) a b = ap Ipv6 (computed-one _ v w ((ipv6_of-Reads bytes v).1 a.reads) ((ipv6_of-Reads bytes w).1 b.reads))
header-once type bytes verified (Ipv4 v) (Ipv6 w) a b = let apart : ethertype.Ipv4 ≡ ethertype.Ipv6 = sym a.names ∙ b.names in absurd (cc)
header-once type bytes verified (Ipv6 v) (Ipv4 w) a b = let apart : ethertype.Ipv6 ≡ ethertype.Ipv4 = sym a.names ∙ b.names in absurd (cc)

-- ---- a hop

pub forwarded-once : (old new other : List ℕ) (src dst : EthernetAddress) (h k : IpRepr) → IsForwarded old new src dst h → IsForwarded old other src dst k → (new ≡ other) × (h ≡ k)
forwarded-once old new other src dst h k a b =
    let link = link-once old a.from b.from a.carried.reads_link b.carried.reads_link in
    let packet = subst (λ (l : EthernetRepr). CarriesAs l.ethertype (drop 14 old) true a.before) link a.carried.packet in
    let before = header-once b.from.ethertype (drop 14 old) true a.before b.before packet b.carried.packet in
    let header : h ≡ k = a.hop ∙ ap one_hop_less before ∙ sym b.hop in
    (a.bytes ∙ (λ i. dst.0 ++ src.0 ++ slice_range old 12 14 ++ with_hop_limit (before i) (drop 14 old) (hop_limit_of (header i))) ∙ sym b.bytes, header)

-- ---- no fault

-- a frame that is forwarded has no fault
pub forwarded-no_fault : (old new : List ℕ) (src dst : EthernetAddress) (h : IpRepr) → IsForwarded old new src dst h → fault_of old ≡ None
forwarded-no_fault old new src dst h a =
    rw ((ethernet_of-Reads old a.from).1 a.carried.reads_link) (no-fault a.from.ethertype (drop 14 old) a.before a.carried.packet a.alive)
