-- TCP headers that are rebuilt from their bytes.
-- Pinned by: `judge`
use Rattle.std.specs.Prelude.{ℕ, ◌≡◌, ◌≢◌, ◌≤◌, ◌⊎◌, List, [], ◌∷◌, length, slice_range}
use Rattle.ip_wire.specs.Field.{field, with_field, with_range}
use Rattle.ip_wire.specs.Tcp.{Verifies}
use Rattle.ip_wire.specs.WordSum.{updated}
use Rattle.ip_wire.specs.declared.IpAddress.{IpAddress}

-- the flags are ACK and at most one of PSH, RST, SYN and FIN
abbrev pub IsAck : ℕ → Type 0
IsAck flags = (flags ≡ 0x10) ⊎ (flags ≡ 0x11) ⊎ (flags ≡ 0x12) ⊎ (flags ≡ 0x14) ⊎ (flags ≡ 0x18)

-- The first 20 bytes of a header are emitted as they are: they have no reserved bit, no other flag and no urgent
-- pointer, and a checksum that can be computed.
pub record IsPlain (bytes : List ℕ) : Type 0 where
  pub least : 20 ≤ length bytes
  pub flags : IsAck (field bytes 100 12)
  pub urgent_at : field bytes 144 16 ≡ 0
  pub checksum : field bytes 128 16 ≢ 0xffff

-- the segment has a header, its ports are not 0, and its checksum is valid
pub record IsSound (src dst : IpAddress) (bytes : List ℕ) : Type 0 where
  pub least : 20 ≤ length bytes
  pub sender : field bytes 0 16 ≢ 0
  pub receiver : field bytes 16 16 ≢ 0
  pub checksum : Verifies src dst bytes

-- the segment with two zeros after the timestamp instead of the bytes of no operation before it
abbrev pub with_stamp_first : List ℕ → List ℕ → List ℕ
with_stamp_first header bytes =
    let moved = with_range (with_range bytes 20 30 (slice_range header 22 32)) 30 32 (0 ∷ 0 ∷ []) in
    with_field moved 128 16 (updated (field header 128 16) 0x0101 0)
