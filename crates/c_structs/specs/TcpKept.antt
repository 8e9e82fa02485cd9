-- TCP headers with no option, or only a timestamp.
-- Pinned by: `judge`
use Rattle.std.specs.Prelude.{ℕ, ◌≡◌, ◌≤◌, List, length}
use Rattle.ip_wire.specs.Field.{field}
use Rattle.ip_wire.specs.Tcp.{header_len}

-- the options are a timestamp and two zeros, as they are emitted
pub record HasStamp (bytes : List ℕ) : Type 0 where
  pub whole : 32 ≤ length bytes
  pub size : header_len bytes ≡ 32
  pub kind : field bytes 160 16 ≡ 0x080a
  pub ended : field bytes 240 16 ≡ 0

-- the options are two bytes of no operation and a timestamp (RFC 7323, appendix A)
pub record HasPaddedStamp (bytes : List ℕ) : Type 0 where
  pub whole : 32 ≤ length bytes
  pub size : header_len bytes ≡ 32
  pub kinds : field bytes 160 32 ≡ 0x0101080a
