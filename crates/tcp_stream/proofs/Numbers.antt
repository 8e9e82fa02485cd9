-- Sequence numbers, and the places that they stand for.
use Rattle.std.proofs.Common.{◌≡◌, ℕ, ◌+◌, ◌-◌, ◌%◌, ◌≤◌, ◌<◌, arith}
use Rattle.tcp_stream.specs.Endpoint.{distance}
use Rattle.tcp_stream.specs.Network.{number_at}

pub distance_after : (i a b : ℕ) → b ≤ a → a < b + 4294967296 → distance (number_at i a) (number_at i b) ≡ a - b
distance_after i a b le near = omega arith

pub distance_before : (i a b : ℕ) → a < b → b ≤ a + 4294967296 → distance (number_at i a) (number_at i b) ≡ a + 4294967296 - b
distance_before i a b le near = omega arith

-- one number stands for one place near the receiver
pub same_place : (i now a b : ℕ) → number_at i a ≡ number_at i b → now < a + 2147483648 → a ≤ now + 2147483648 → now < b + 2147483648 → b ≤ now + 2147483648 → a ≡ b
same_place i now a b is a_alive a_sent b_alive b_sent = omega arith

pub number_more : (i a n : ℕ) → (number_at i a + n) % 4294967296 ≡ number_at i (a + n)
number_more i a n = omega arith
