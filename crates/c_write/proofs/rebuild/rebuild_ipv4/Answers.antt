use Rattle.std.proofs.Common.{◌≡◌, ◌≤◌, ◌<◌, ◌∙◌, ◌++◌, ◌⊎◌, inl, inr, List, ℕ, Some, None, ap, arith, drop, false, length, refl, rules, slice_index, slice_range, sym, take, true}
use Rattle.std.proofs.lemmas.Grind.{common_steps}
use Rattle.ip_wire.proofs.Frames.{rebuilt-ipv4, rebuilt-ipv4-copied, rebuilt_transport-fits}
use Rattle.ip_wire.specs.Field.{field}
use Rattle.ip_wire.specs.Frame.{rebuilt_packet, rebuilt_transport}
use Rattle.ip_wire.specs.Ip.{bytes_of, header_before, max_payload_len, with_payload_len}
use Rattle.ip_wire.specs.Ipv4.{HasLengths, Reads, header_len, ipv4_of, is_fragment, total_len}
use Rattle.ip_wire.specs.Protocol.{protocol_of}
use Rattle.ip_wire.specs.Types.{Ipv4, Ipv4Repr}
use Rattle.ip_wire.specs.declared.IpProtocol.TheVariants.{Unknown}
use Rattle.ip_wire.specs.Checksum.{computes, verifies}
use Rattle.net_base.proofs.Spelled.{AreBytes}
use Rattle.c_write.proofs.Filled.{filled-after}
use Rattle.c_write.proofs.Numbered.{bytes_of-number, fits-number}
use Rattle.c_structs.specs.Written.{Fills}
use Rattle.c_write.proofs.rebuild.rebuild_ipv4.Goals.{in_default-via-in-Ok+else-not-is_fragment, in_default-via-in_default}
use Rattle.c_write.proofs.rebuild.rebuild_ipv4.Goals as goal

payload-fits : (bytes : List ℕ) → HasLengths bytes → length (slice_range bytes (header_len bytes) (total_len bytes)) ≤ 65515
payload-fits bytes lengths =
    let header = lengths.header in
    let whole = lengths.whole in
    grind (arith, common_steps, header, whole)

named : (bytes : List ℕ) (v : Ipv4Repr) → AreBytes bytes → Reads bytes true v → v.next_header ≡ protocol_of (slice_index bytes 9)
named bytes v h reads =
    let small = h 9 in
    let number : field bytes 72 8 ≡ slice_index bytes 9 = omega (arith, small) in
    reads.next_header ∙ ap protocol_of number

pub rebuild_transport-requires : goal.rebuild_transport-requires
rebuild_transport-requires c =
    let bytes = c.args.bytes.now in
    let are : AreBytes bytes = λ i. (c.type_inv.bytes i).fits in
    let caps : verifies c.default.result.ipv4 ≡ true = search rules in
    let reads : Reads bytes true c.in-Ok.header = rw (caps, c.new_unchecked-packet.ensures) at (c.in-Ok.ensures.reads c.in-Ok.header).0 refl in
    named bytes c.in-Ok.header are reads

pub emit-requires-clause-payload_len : goal.emit-requires-clause-payload_len
emit-requires-clause-payload_len c =
    let bytes = c.args.bytes.now in
    let header = Ipv4 c.in-Ok.header in
    let protocol = slice_index bytes 9 in
    let inner = rebuilt_transport header c.payload.result.now in
    let count : c.in_ok-payload_len-in-Ok.payload_len ≡ length inner = search rules in
    let numbered : c.before-header.result ≡ header_before header (Unknown protocol) (length inner) = c.before-header.ensures ∙ ap (header_before header (Unknown protocol)) count in
    let lengths : HasLengths bytes = rw c.new_unchecked-packet.ensures at ((c.in-Ok.ensures.reads c.in-Ok.header).0 refl).lengths in
    let payload : c.payload.result.now ≡ slice_range bytes (header_len bytes) (total_len bytes) = rw c.new_unchecked-packet.ensures at c.payload.ensures in
    let len : length c.payload.result.now ≤ max_payload_len header = rw payload (payload-fits bytes lengths) in
    rw numbered (fits-number header protocol (length inner) (rebuilt_transport-fits header c.payload.result.now len))

pub returns-in_err-payload_len-in-Ok : goal.returns-in_err-payload_len-in-Ok
returns-in_err-payload_len-in-Ok c =
    let bytes = c.args.bytes.now in
    let caps : verifies c.default.result.ipv4 ≡ true = search rules in
    let read : ipv4_of true bytes ≡ Some c.in-Ok.header = rw (caps, c.new_unchecked-packet.ensures) at c.in-Ok.ensures.value in
    let whole : is_fragment bytes ≡ false = ap (λ slice. is_fragment slice.now) (sym c.new_unchecked-packet.ensures) ∙ sym c.is_fragment.ensures ∙ c.if-not-is_fragment.true in
    let payload : c.payload.result.now ≡ slice_range bytes (header_len bytes) (total_len bytes) = rw c.new_unchecked-packet.ensures at c.payload.ensures in
    let packet = rebuilt_packet (Ipv4 c.in-Ok.header) c.payload.result.now in
    let old = c.args.out.now in
    let new = c.in_ok-out-in-Ok.front.now ++ c.rebuild_transport.new.out in
    let none : c.from_residual-in_err-payload_len-in-Ok.result ≡ None = search rules in
    let small : length c.in_ok-out-in-Ok.rest.now < length (rebuilt_transport (Ipv4 c.in-Ok.header) c.payload.result.now) = search rules in
    let short : length old < length packet = grind (arith, common_steps, small) in
    let same : new ≡ old = search rules in
    let unfilled : Fills (Some packet) old new c.from_residual-in_err-payload_len-in-Ok.result = rw none (short, same) in
    rw (rebuilt-ipv4 bytes c.in-Ok.header read whole, ← payload) unfilled

pub returns-in_ok-payload_len-in-Ok : goal.returns-in_ok-payload_len-in-Ok
returns-in_ok-payload_len-in-Ok c =
    let bytes = c.args.bytes.now in
    let caps : verifies c.default.result.ipv4 ≡ true = search rules in
    let read : ipv4_of true bytes ≡ Some c.in-Ok.header = rw (caps, c.new_unchecked-packet.ensures) at c.in-Ok.ensures.value in
    let whole : is_fragment bytes ≡ false = ap (λ slice. is_fragment slice.now) (sym c.new_unchecked-packet.ensures) ∙ sym c.is_fragment.ensures ∙ c.if-not-is_fragment.true in
    let payload : c.payload.result.now ≡ slice_range bytes (header_len bytes) (total_len bytes) = rw c.new_unchecked-packet.ensures at c.payload.ensures in
    let header = Ipv4 c.in-Ok.header in
    let protocol = slice_index bytes 9 in
    let are : AreBytes bytes = λ i. (c.type_inv.bytes i).fits in
    let reads : Reads bytes true c.in-Ok.header = rw (caps, c.new_unchecked-packet.ensures) at (c.in-Ok.ensures.reads c.in-Ok.header).0 refl in
    let inner = rebuilt_transport header c.payload.result.now in
    let count : c.in_ok-payload_len-in-Ok.payload_len ≡ length inner = search rules in
    let numbered : c.before-header.result ≡ header_before header (Unknown protocol) (length inner) = c.before-header.ensures ∙ ap (header_before header (Unknown protocol)) count in
    let computed : computes c.default-in-Ok.result.ipv4 ≡ true = search rules in
    let old = c.args.out.now in
    let front : c.in_ok-out-in-Ok.front.now ≡ take 20 old = search rules in
    let written : c.emit.new.buffer ≡ bytes_of (with_payload_len header (length inner)) true ++ drop 20 (take 20 old) =
    (rw (computed, numbered, front) at c.emit.ensures) ∙ ap (λ b. b ++ drop 20 (take 20 old)) (bytes_of-number header protocol (length inner) (named bytes c.in-Ok.header are reads)) in
    rw (rebuilt-ipv4 bytes c.in-Ok.header read whole, ← payload) (filled-after (bytes_of (with_payload_len header (length inner)) true) inner old _ c.emit.new.buffer c.rebuild_transport.new.out 20 c.in_ok-payload_len-in-Ok.payload_len
    (search rules) (search rules) refl written (search rules) (search rules) (search rules))

pub returns-in_default : goal.returns-in_default
returns-in_default c =
    let bytes = c.args.bytes.now in
    let caps : verifies c.default.result.ipv4 ≡ true = search rules in
    let copied : (ipv4_of true bytes ≡ None) ⊎ (is_fragment bytes ≡ true) = elim c.in_default.branch [
      | in_default-via-in-Ok+else-not-is_fragment w ↦
          inr (ap (λ slice. is_fragment slice.now) (sym c.new_unchecked-packet.ensures) ∙ sym w.is_fragment.ensures ∙ w.if-not-is_fragment.false)
      | in_default-via-in_default w ↦ inl (rw (caps, c.new_unchecked-packet.ensures) at w.in_default.ensures.value)
    ] in
    rw (rebuilt-ipv4-copied bytes copied) c.try_copy.ensures
