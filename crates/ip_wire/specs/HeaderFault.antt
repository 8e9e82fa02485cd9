-- Why the IP header of a frame is rejected.
-- Pinned by: `apps/router`, `apps/nat`
use Rattle.std.specs.Prelude.{ℕ, ◌==◌, if◌then◌else◌, is_none, false, List, Option, Some, None, take}
use Rattle.wire_checksum.specs.WordSum.{sum_of_bytes}
use Rattle.wire_ipv4.specs.Ipv4.{header_len, ipv4_of}
use Rattle.ip_wire.specs.declared.frame.header.HeaderFault.{HeaderFault}
use Rattle.ip_wire.specs.declared.frame.header.HeaderFault.TheVariants.{BadHeader, WrongChecksum}

-- why the header of an IPv4 packet is rejected: its version or its lengths are wrong, or else its checksum
abbrev pub ipv4_fault : List ℕ → Option HeaderFault
ipv4_fault bytes =
    if is_none (ipv4_of false bytes) then Some BadHeader
    else if sum_of_bytes (take (header_len bytes) bytes) == 65535 then None
    else Some WrongChecksum
