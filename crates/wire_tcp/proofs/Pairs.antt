-- Two numbers, written as one.
use Rattle.std.proofs.Common.{ℕ, ◌≡◌, ◌+◌, ◌*◌, ◌^◌, ◌<◌, ◌++◌, arith}
use Rattle.byteorder.specs.Endian.{big_bytes}

-- two numbers of 16 bits as one of 32
pub joined : (high low : ℕ) → high < 2 ^ 16 → low < 2 ^ 16 → big_bytes 4 (high * 2 ^ 16 + low) ≡ big_bytes 2 high ++ big_bytes 2 low
joined high low h l = grind arith

-- two numbers of 32 bits as one of 64
pub paired : (high low : ℕ) → high < 2 ^ 32 → low < 2 ^ 32 → big_bytes 8 (high * 2 ^ 32 + low) ≡ big_bytes 4 high ++ big_bytes 4 low
paired high low h l = grind arith
