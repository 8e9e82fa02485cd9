-- The packets that are rejected for their checksum.
use Rattle.std.proofs.Common.{ℕ, ◌≡◌, ◌≢◌, ◌↔◌, Bool, true, false, IsErr, IsTrue, List, Result, Ok, Err, refl}
use Rattle.ip_wire.specs.Field.{field}
use Rattle.ip_wire.specs.Udp.{HasChecksum, HasLengths, Reads, header_of, payload_of}
use Rattle.ip_wire.specs.Types.{Error, IpAddress, UdpRepr}

-- a packet with valid lengths and a destination port parses, if its checksum is valid or not verified
whole-Reads : (bytes : List ℕ) (src dst : IpAddress) (verified : Bool) → HasLengths bytes → field bytes 16 16 ≢ 0
    → (IsTrue verified → HasChecksum src dst bytes) → Reads bytes src dst verified (header_of bytes) (payload_of bytes)
whole-Reads bytes src dst verified lengths receiver checksum = record {
  lengths = lengths;
  receiver = receiver;
  checksum = checksum;
  src_port = refl;
  dst_port = refl;
  body = refl;
}

-- the result of a parser for a packet with valid lengths and a destination port
pub rejected : (bytes : List ℕ) (src dst : IpAddress) (verified : Bool) (answer : Result UdpRepr Error)
    → ((v : UdpRepr) → (answer ≡ Ok v) ↔ Reads bytes src dst verified v (payload_of bytes)) → HasLengths bytes → field bytes 16 16 ≢ 0
    → IsErr answer ↔ (IsTrue verified × ¬ HasChecksum src dst bytes)
rejected bytes src dst verified (Ok v) reads lengths receiver =
    (λ e. absurd (cc), λ (on, fails). absurd (fails (((reads v).0 refl).checksum on)))
rejected bytes src dst true (Err e) reads lengths receiver =
    (λ _. (refl, λ holds. let is : Err e ≡ Ok (header_of bytes) = (reads _).1 (whole-Reads bytes src dst true lengths receiver (λ _. holds)) in cc), λ _. refl)
rejected bytes src dst false (Err e) reads lengths receiver =
    let is : Err e ≡ Ok (header_of bytes) = (reads _).1 (whole-Reads bytes src dst false lengths receiver (λ on. absurd (cc))) in
    (λ _. absurd (cc), λ _. refl)
