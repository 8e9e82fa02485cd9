-- Up to six bytes in an array of six.
-- Pinned by: `wire/raw_hardware_address`
use Rattle.std.specs.Prelude.{ℕ, ◌≡◌, ◌≤◌, ◌-◌, List, ◌++◌, length, replicate, take}
use Rattle.wire_addr.specs.Bytes.{IsByteArray}

-- the bytes, padded with zeros to six
abbrev pub with_zeros : List ℕ → List ℕ
with_zeros bytes = bytes ++ replicate (6 - length bytes) 0

-- the array of six bytes has zeros after its first `len` bytes
pub record HasZerosAfter (len : ℕ) (array : List ℕ) : Type 0 where
  pub within : len ≤ 6
  pub octets : IsByteArray 6 array
  pub zeros : array ≡ with_zeros (take len array)
