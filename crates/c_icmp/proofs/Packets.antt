-- Packets with a message: the IP header before it, and the message.
use Rattle.std.proofs.Common.{ℕ, ◌≡◌, ◌∙◌, ◌+◌, ◌≤◌, ◌++◌, Bool, true, false, List, Option, Some, None, ap, arith, drop, length, length-append, nat_le, refl, subst, sym}
use Rattle.std.proofs.lemmas.Bool.Decides.{nat_tests}
use Rattle.std.proofs.lemmas.Grind.{common_steps}
use Rattle.std.proofs.lemmas.Option.{none-some}
use Rattle.std.specs.Option.{option_and_then, option_map}
use Rattle.ip_wire.specs.Types.{IpAddress, IpRepr}
use Rattle.net_base.specs.Filled as filled
use Rattle.wire_icmp.specs.Icmp.{emitted}
use Rattle.wire_icmp.specs.declared.icmp.header.IcmpHeader.{IcmpHeader}
use Rattle.c_structs.specs.Addresses.{pair_of}
use Rattle.c_write.proofs.Framed.{same-Some}
use Rattle.c_write.specs.Frames.{ip_header, ip_packet}
use Rattle.c_write.specs.Headers.{header_bytes, only_if}
use Rattle.c_structs.specs.Written.{Fills}
use Rattle.c_structs.specs.declared.types.Addr.{Addr}
use Rattle.c_structs.specs.declared.types.FrameFields.{FrameFields}
use Rattle.c_icmp.specs.Messages.{header_value, icmp_bytes}
use Rattle.c_structs.specs.declared.types.Icmp.{Icmp}

length-emitted : (h : IcmpHeader) (payload : List ℕ) (src dst : IpAddress) (computed : Bool) → length (emitted h payload src dst computed) ≡ 8 + length payload
length-emitted h payload src dst computed = simp length-append (omega arith)

filtered-length : (b : Bool) (bytes packet : List ℕ) (size : ℕ) → length bytes ≡ size → only_if b bytes ≡ Some packet → length packet ≡ size
filtered-length true bytes packet size is e = ap length (sym (same-Some bytes packet e)) ∙ is
filtered-length false bytes packet size is e = absurd (none-some packet e)

paired-length : (h : Icmp) (payload packet : List ℕ) (computed : Bool) (pair : Option (IpAddress × IpAddress))
    → option_and_then (λ pair. only_if (nat_le (length payload) 65527) (emitted (header_value h) payload pair.0 pair.1 computed)) pair ≡ Some packet
    → length packet ≡ 8 + length payload
paired-length h payload packet computed None e = absurd (none-some packet e)
paired-length h payload packet computed (Some pair) e =
    filtered-length (nat_le (length payload) 65527) (emitted (header_value h) payload pair.0 pair.1 computed) packet (8 + length payload)
    (length-emitted (header_value h) payload pair.0 pair.1 computed) e

-- a message has a header of 8 bytes
pub length-icmp : (h : Icmp) (src dst : Addr) (payload packet : List ℕ) (computed : Bool) → icmp_bytes h src dst payload computed ≡ Some packet
    → length packet ≡ 8 + length payload
length-icmp h src dst payload packet computed e = paired-length h payload packet computed (pair_of src dst) e

-- the IP header, and after it a message that fills the front of the rest of the slice
pub packet-filled : (f : FrameFields) (number size : ℕ) (packet : Option (List ℕ)) (v : IpRepr) (old front rest new : List ℕ) (start n : ℕ) (answer : Option ℕ)
    → ip_header f number size ≡ Some v → ((bytes : List ℕ) → packet ≡ Some bytes → length bytes ≡ size)
    → front ≡ header_bytes f.ip true v → length front ≡ start → rest ≡ drop start old → start ≤ length old → Fills packet rest new answer → answer ≡ Some n
    → Fills (option_and_then (ip_packet f number) packet) old (front ++ new) (Some (start + size))
packet-filled f number size None v old front rest new start n answer found sized is len tail room (none, same) some = absurd (none-some n (sym none ∙ some))
packet-filled f number size (Some bytes) v old front rest new start n None found sized is len tail room fills some = absurd (none-some n some)
packet-filled f number size (Some bytes) v old front rest new start n (Some k) found sized is len tail room (count, fits, holds) some =
    let many : length bytes ≡ size = sized bytes refl in
    let frame : ip_packet f number bytes ≡ Some (header_bytes f.ip true v ++ bytes) = ap (λ o. option_map (λ v. header_bytes f.ip true v ++ bytes) o) (ap (ip_header f number) many ∙ found) in
    let total : start + size ≡ length (header_bytes f.ip true v ++ bytes) = grind (arith, common_steps, many, len, is) in
    let within : start + size ≤ length old = grind (arith, common_steps, many, count, fits, tail, room) in
    let all : front ++ new ≡ (header_bytes f.ip true v ++ bytes) ++ drop (start + size) old = grind (arith, common_steps, many, count, holds, tail, is) in
    subst (λ o. Fills o old (front ++ new) (Some (start + size))) (sym frame) (total, within, all)

-- a message that fills the front of a slice, with a header of these values
pub message-filled : (h : Icmp) (v : IcmpHeader) (payload : List ℕ) (src dst : Addr) (a b : IpAddress) (computed done : Bool) (old new : List ℕ) (answer : Option ℕ)
    → length payload ≤ 65527 → pair_of src dst ≡ Some (a, b) → v ≡ header_value h → done ≡ computed
    → filled.Fills (emitted v payload a b done) (8 + length payload) old new answer → Fills (icmp_bytes h src dst payload computed) old new answer
message-filled h v payload src dst a b computed done old new answer fits pair is same fills =
    let bytes = emitted (header_value h) payload a b computed in
    let small : nat_le (length payload) 65527 ≡ true = grind (arith, nat_tests, fits) in
    let message : icmp_bytes h src dst payload computed ≡ Some bytes =
    ap (λ o. option_and_then (λ pair. only_if (nat_le (length payload) 65527) (emitted (header_value h) payload pair.0 pair.1 computed)) o) pair
    ∙ ap (λ t. only_if t bytes) small in
    let ours = subst (λ w. filled.Fills (emitted w payload a b done) (8 + length payload) old new answer) is fills in
    let whole = subst (λ t. filled.Fills (emitted (header_value h) payload a b t) (8 + length payload) old new answer) same ours in
    subst (λ o. Fills o old new answer) (sym message)
    (subst (λ k. filled.Fills bytes k old new answer) (sym (length-emitted (header_value h) payload a b computed)) whole)
