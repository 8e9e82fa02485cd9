-- TCP headers that parse without a walk over their options.
-- Pinned by: `judge`
use Rattle.std.specs.Prelude.{ℕ, ◌≡◌, ◌≢◌, ◌⊎◌, List}
use Rattle.ip_wire.specs.Field.{field}
use Rattle.ip_wire.specs.Tcp.{header_len}
use Rattle.c_structs.specs.TcpKept.{HasPaddedStamp, HasStamp}

-- The segment parses, if its checksum is not looked at: the ports are not 0, the flags are ACK or ACK and PSH, and there
-- is no option, or only a timestamp.
pub record IsUsual (bytes : List ℕ) : Type 0 where
  pub sender : field bytes 0 16 ≢ 0
  pub receiver : field bytes 16 16 ≢ 0
  pub flags : (field bytes 104 8 ≡ 0x10) ⊎ (field bytes 104 8 ≡ 0x18)
  pub list : (header_len bytes ≡ 20) ⊎ HasPaddedStamp bytes ⊎ HasStamp bytes
