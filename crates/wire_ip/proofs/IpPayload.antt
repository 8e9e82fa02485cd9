-- The payload length of a parsed packet.
use Rattle.std.proofs.Common.{ℕ, ◌≡◌, ◌≤◌, ◌-◌, Bool, List, drop, length, sym, ◌∙◌, arith}
use Rattle.std.proofs.lemmas.List.{length-drop, length-take-le}
use Rattle.wire_ipv4.specs.Ipv4 as ipv4
use Rattle.wire_ipv6.specs.Ipv6 as ipv6
use Rattle.wire_ip.specs.Ip.{ReadsHeader, max_payload_len, payload_len_of, payload_of, version_of}
use Rattle.wire_ip.specs.declared.ip.repr.IpRepr.{IpRepr}
use Rattle.wire_ip.specs.declared.ip.repr.IpRepr.TheVariants.{Ipv4, Ipv6}

-- the payload of a parsed packet has the length in its value
pub payload-len : (bytes : List ℕ) (verified : Bool) (v : IpRepr) → ReadsHeader bytes verified v → length (payload_of bytes (version_of v)) ≡ payload_len_of v
payload-len bytes verified (Ipv4 v) r =
    let n = ipv4.header_len bytes in
    let following = length-drop n bytes in
    length-take-le (ipv4.total_len bytes - n) (drop n bytes) (omega (arith, following, r.lengths.whole)) ∙ sym r.payload_len
payload-len bytes verified (Ipv6 v) r =
    let following = length-drop 40 bytes in
    length-take-le (ipv6.total_len bytes - 40) (drop 40 bytes) (omega (arith, following, r.lengths)) ∙ omega (arith, r.payload_len)

-- a header can express the payload length of a parsed value
pub payload-fits : (bytes : List ℕ) (verified : Bool) (v : IpRepr) → ReadsHeader bytes verified v → payload_len_of v ≤ max_payload_len v
payload-fits bytes verified (Ipv4 v) r = omega (arith, r.payload_len, r.lengths.header)
payload-fits bytes verified (Ipv6 v) r = omega (arith, r.payload_len)
