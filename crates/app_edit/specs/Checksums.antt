-- Checksum fields after a change of the bytes that they cover.
-- Pinned by: `worked/values`, `judge`
use Rattle.std.specs.Prelude.{ℕ, ◌≡◌, ◌<◌, ◌⊎◌, ◌-◌, ◌%◌, ◌==◌, ◌++◌, ◌∷◌, [], List, if◌then◌else◌, length}
use Rattle.ip_wire.specs.Udp.{checksum_for}
use Rattle.ip_wire.specs.WordSum.{sum_of_bytes, updated}

-- the updated checksum field of UDP; 0, which means that there is no checksum, stays 0
abbrev pub updated_udp : ℕ → ℕ → ℕ → ℕ
updated_udp field before after = if field == 0 then 0 else checksum_for (65535 - updated field before after)

-- the sum of bytes from this offset of a message on: at an odd offset the first one is the low byte of a word (RFC 1071,
-- section 2 B)
abbrev pub sum_at : ℕ → List ℕ → ℕ
sum_at offset bytes = sum_of_bytes (if offset % 2 == 0 then bytes else 0 ∷ bytes)

-- If the field is the checksum of a message with the bytes `before` at this offset, the result is that of the message
-- with the bytes `after` instead. A message is all that the checksum covers, with 0 in the field. The checksum of a sum
-- is `checksum_of`. The bytes after the part keep their places in words, and some covered byte is not 0.
abbrev pub StaysComputed : (ℕ → ℕ) → ℕ → List ℕ → List ℕ → ℕ → ℕ → Type 0
StaysComputed checksum_of offset before after field result =
    (front rest : List ℕ) → length front % 2 ≡ offset % 2 → (length before % 2 ≡ length after % 2) ⊎ (rest ≡ [])
    → 0 < sum_of_bytes (front ++ (after ++ rest)) → field ≡ checksum_of (sum_of_bytes (front ++ (before ++ rest)))
    → result ≡ checksum_of (sum_of_bytes (front ++ (after ++ rest)))
