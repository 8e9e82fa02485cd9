-- The printed texts of neighbour discovery messages.
-- Pinned by: `wire/ndisc`
use Rattle.std.specs.Prelude.{ℕ, ◌++◌, if◌then◌else◌, Option, Some, None, List, [], codes}
use Rattle.wire_addr.specs.Printed.{dashed, ipv6_text}
use Rattle.wire_addr.specs.declared.ethernet_address.EthernetAddress.{EthernetAddress}
use Rattle.wire_icmp.specs.declared.ndisc.repr.NdiscNeighborFlags.{NdiscNeighborFlags}
use Rattle.wire_icmp.specs.declared.ndisc.repr.NdiscRepr.{NdiscRepr}
use Rattle.wire_icmp.specs.declared.ndisc.repr.NdiscRepr.TheVariants.{NeighborSolicit, NeighborAdvert}

-- the printed text of a link-layer address, if there is one
abbrev pub lladdr_text : Option EthernetAddress → List ℕ
lladdr_text None = []
lladdr_text (Some address) = codes " lladdr=" ++ dashed address.0

-- the printed text of the flags that are set
abbrev pub flags_text : NdiscNeighborFlags → List ℕ
flags_text flags =
    (if flags.router then codes " router" else []) ++ (if flags.solicited then codes " solicited" else []) ++ (if flags.override_ then codes " override" else [])

-- the printed text of a neighbour discovery message
abbrev pub value_text : NdiscRepr → List ℕ
value_text (NeighborSolicit target lladdr) = codes "NDISC solicit target=" ++ ipv6_text target ++ lladdr_text lladdr
value_text (NeighborAdvert flags target lladdr) = codes "NDISC advert target=" ++ ipv6_text target ++ flags_text flags ++ lladdr_text lladdr
