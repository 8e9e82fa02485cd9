-- Multicast listener discovery in the structs of C: reports that are written, and queries that are found.
-- Pinned by: `worked/mld`, `judge`
use Rattle.std.specs.Prelude.{ℕ, ℤ, pos, negsuc, ◌≡◌, ◌⊎◌, ◌&&◌, if◌then◌else◌, Bool, List, Option, None, Some}
use Rattle.app_mld.specs.Mld.{IsQuery, report_bytes}
use Rattle.c_icmp.specs.Neighbours.{is_ipv6}
use Rattle.c_structs.specs.declared.failures.Failure.{Failure}
use Rattle.c_structs.specs.declared.failures.Failure.TheVariants as failure
use Rattle.c_structs.specs.declared.types.Addr.{Addr}
use Rattle.c_structs.specs.declared.types.FrameFields.{FrameFields}
use Rattle.c_write.specs.Headers.{only_if}

-- whether source and destination are IPv6 addresses
abbrev pub are_ipv6 : FrameFields → Bool
are_ipv6 f = is_ipv6 f.src.addr && is_ipv6 f.dst.addr

-- the bytes of the frame of a report, if it can be written; the destination is the group
abbrev pub mld_report : FrameFields → Option (List ℕ)
mld_report f = only_if (are_ipv6 f) (report_bytes (record { 0 = f.ethernet.src }) f.src.addr.octets f.dst.addr.octets)

-- the failure of a report
abbrev pub mld_failure : FrameFields → Option Failure
mld_failure f = if are_ipv6 f then None else Some failure.NoVersion

-- the frame is a query that asks for the group
abbrev pub AsksFor : Addr → List ℕ → ℕ → Type 0
AsksFor group frame delay = (group.version ≡ 6) × IsQuery group.octets frame delay

-- the delay of a query is returned, or -1 if there is none
abbrev pub TellsDelay : (ℕ → Type 0) → ℤ → Type 0
TellsDelay IsAsked answer =
    ((delay : ℕ) × (answer ≡ pos delay) × IsAsked delay) ⊎ ((answer ≡ negsuc 0) × ((delay : ℕ) → ¬ IsAsked delay))
