-- Why a call with an address or a CIDR block returns nothing.
-- Pinned by: `judge`
use Rattle.std.specs.Prelude.{◌||◌, ◌==◌, is_none, if◌then◌else◌, Bool, Option, None, Some}
use Rattle.c_structs.specs.Addresses.{block_of, ip_of}
use Rattle.c_structs.specs.declared.failures.Failure.{Failure}
use Rattle.c_structs.specs.declared.failures.Failure.TheVariants as failure
use Rattle.c_structs.specs.declared.types.Addr.{Addr}
use Rattle.c_structs.specs.declared.types.Block.{Block}

-- whether the struct has an address: its version is 4 or 6
abbrev pub has_version : Addr → Bool
has_version a = (a.version == 4) || (a.version == 6)

-- the failure of a call with this address
abbrev pub addr_failure : Addr → Option Failure
addr_failure a = if has_version a then None else Some failure.NoVersion

-- the failure of a call with this CIDR block
abbrev pub block_failure : Block → Option Failure
block_failure b = if is_none (ip_of b.addr) then Some failure.NoVersion else if is_none (block_of b) then Some failure.BadPrefix else None
