-- What the call that forwards a frame returns and writes.
-- Pinned by: `worked/route`
use Rattle.std.specs.Prelude.{ℕ, ℤ, pos, ◌≡◌, ◌≤◌, ◌⊎◌, List, Some, length}
use Rattle.app_router.specs.Forward.{IsForwarded, fault_of}
use Rattle.ip_wire.specs.declared.HeaderFault.{HeaderFault}
use Rattle.ip_wire.specs.Types.{EthernetAddress, IpRepr}
use Rattle.c_structs.specs.Written.{max_len, within}
use Rattle.c_routing.specs.Rejections.{of_header, rejection_code}

-- the Ethernet address of six bytes
abbrev pub ethernet_addr : List ℕ → EthernetAddress
ethernet_addr bytes = record { 0 = bytes }

-- 0 is returned, and the frame is forwarded between the two hosts; or the number of the reason, and the frame is
-- unchanged
abbrev pub Forwards : List ℕ → List ℕ → EthernetAddress → EthernetAddress → ℤ → Type 0
Forwards old new src dst answer =
    ((answer ≡ pos 0) × (length old ≤ max_len) × ((header : IpRepr) × IsForwarded old new src dst header))
    ⊎ ((fault : HeaderFault) × (answer ≡ pos (rejection_code (of_header fault))) × (fault_of (within old) ≡ Some fault) × (new ≡ old))
