-- An emitted IP header parses as the value from which it was emitted.
use Rattle.std.proofs.Common.{ℕ, ◌≤◌, Bool, IsTrue, List, ◌++◌, length, refl, arith}
use Rattle.wire_ipv4.proofs.Ipv4ReadsBack as ipv4
use Rattle.wire_ipv6.proofs.Ipv6Emitted as ipv6
use Rattle.wire_ipv6.proofs.Ipv6ReadsBack as ipv6_read
use Rattle.wire_ip.specs.Ip.{Reads, bytes_of, normal, payload_len_of}
use Rattle.wire_ip.specs.declared.ip.repr.IpRepr.{IpRepr}
use Rattle.wire_ip.specs.declared.ip.repr.IpRepr.TheVariants.{Ipv4, Ipv6}

-- the value has a header of its version
abbrev pub IsInRange : IpRepr → Type 0
IsInRange (Ipv4 v) = ipv4.IsInRange v
IsInRange (Ipv6 v) = ipv6.IsInRange v

-- an emitted header with a payload parses as the normal form of its value
pub reads_bytes_of : (v : IpRepr) (rest : List ℕ) (computed verified : Bool) → IsInRange v → payload_len_of v ≤ length rest
    → (IsTrue verified → IsTrue computed) → Reads (bytes_of v computed ++ rest) verified (normal v)
reads_bytes_of (Ipv4 v) rest computed verified h room sound = record {
  version = record { some = omega arith; number = refl };
  header = ipv4.reads_bytes_of v rest computed verified h room sound;
}
reads_bytes_of (Ipv6 v) rest computed verified h room sound = record {
  version = record { some = omega arith; number = refl };
  header = ipv6_read.reads_bytes_of v rest h room;
}
