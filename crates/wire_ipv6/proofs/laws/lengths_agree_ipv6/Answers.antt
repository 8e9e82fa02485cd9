use Rattle.std.proofs.Common.{ℕ, ◌≡◌, ◌≤◌, ◌-◌, List, drop, length, sym, ap, ◌∙◌, rules, arith, length-drop}
use Rattle.std.proofs.lemmas.List.{length-take-le}
use Rattle.net_base.specs.Field.{field}
use Rattle.wire_ipv6.specs.Ipv6.{HasLengths, packet_bytes, payload_of, total_len}
use Rattle.wire_ipv6.proofs.laws.lengths_agree_ipv6.Goals as goal

-- the payload is as long as its length field says
long : (bytes : List ℕ) → HasLengths bytes → length (payload_of bytes) ≡ field bytes 32 16
long bytes whole =
    let room : total_len bytes - 40 ≤ length (drop 40 bytes) = omega (arith, whole, length-drop 40 bytes) in
    let size : total_len bytes - 40 ≡ field bytes 32 16 = omega arith in
    length-take-le (total_len bytes - 40) (drop 40 bytes) room ∙ size

pub returns-then-total_len-payload_len : goal.returns-then-total_len-payload_len
returns-then-total_len-payload_len c =
    let named : c.from-payload_len.result ≡ field (packet_bytes c.args.packet.now) 32 16 = search rules in
    let same : length c.payload.result.now ≡ c.from-payload_len.result = ap length c.payload.ensures ∙ long (packet_bytes c.args.packet.now) c.requires ∙ sym named in
    rw (same) (search rules)
