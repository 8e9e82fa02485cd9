use Rattle.std.proofs.Common.{◌≡◌, ◌∙◌, ◌≤◌, ◌<◌, ◌++◌, ap, arith, drop, length, length-drop, nat_le, refl, rules, take, true}
use Rattle.std.proofs.lemmas.Bool.Decides.{nat_tests}
use Rattle.ip_wire.specs.Ethernet.{frame_bytes, protocol_of}
use Rattle.ip_wire.specs.Field.{field}
use Rattle.ip_wire.specs.Frame.{rebuilt, rebuilt_payload}
use Rattle.net_base.proofs.Spelled.{AreBytes}
use Rattle.c_write.proofs.Filled.{filled-after}
use Rattle.c_write.proofs.Headed.{fills-none, length-rebuilt, rebuilt-headed}
use Rattle.c_write.proofs.rebuild.rebuild_frame.Goals as goal

pub returns-then-bytes-lt-ETHERNET_HEADER_LEN : goal.returns-then-bytes-lt-ETHERNET_HEADER_LEN
returns-then-bytes-lt-ETHERNET_HEADER_LEN c =
    let frame = c.args.bytes.now in
    let old = c.args.out.now in
    let bytes : AreBytes frame = λ i. (c.type_inv.bytes i).fits in
    let either = c.then-bytes-lt-ETHERNET_HEADER_LEN.either in
    let small : 14 ≤ length frame → length old < length (rebuilt frame) = λ whole. let size = length-rebuilt frame bytes whole in omega (arith, size, either, whole) in
    fills-none frame old old small refl

pub returns-in-None : goal.returns-in-None
returns-in-None c =
    let frame = c.args.bytes.now in
    let old = c.args.out.now in
    let bytes : AreBytes frame = λ i. (c.type_inv.bytes i).fits in
    let of : frame_bytes c.new_unchecked-frame.result ≡ frame = ap (λ slice. slice.now) c.new_unchecked-frame.ensures in
    let type : c.ethertype.result ≡ protocol_of (field frame 96 16) = c.ethertype.ensures ∙ ap (λ b. protocol_of (field b 96 16)) of in
    let following : c.payload.result.now ≡ drop 14 frame = c.payload.ensures ∙ ap (drop 14) of in
    let back : c.split_at_mut-front.result.1.now ≡ drop 14 old = search rules in
    let short : length (drop 14 old) < length (rebuilt_payload (protocol_of (field frame 96 16)) (drop 14 frame)) = rw (← type, ← following, ← back) (c.in-None.ensures).0 in
    let room = c.if-out-lt-ETHERNET_HEADER_LEN.false in
    let rest = length-drop 14 old in
    let small : 14 ≤ length frame → length old < length (rebuilt frame) = λ whole. let size = length-rebuilt frame bytes whole in omega (arith, size, short, rest, room) in
    fills-none frame old _ small (search rules)

pub returns-in-Some : goal.returns-in-Some
returns-in-Some c =
    let frame = c.args.bytes.now in
    let old = c.args.out.now in
    let bytes : AreBytes frame = λ i. (c.type_inv.bytes i).fits in
    let whole : 14 ≤ length frame = search rules in
    let long : nat_le 14 (length frame) ≡ true = grind (arith, nat_tests, whole) in
    let of : frame_bytes c.new_unchecked-frame.result ≡ frame = ap (λ slice. slice.now) c.new_unchecked-frame.ensures in
    let type : c.ethertype.result ≡ protocol_of (field frame 96 16) = c.ethertype.ensures ∙ ap (λ b. protocol_of (field b 96 16)) of in
    let following : c.payload.result.now ≡ drop 14 frame = c.payload.ensures ∙ ap (drop 14) of in
    let inner = rebuilt_payload c.ethertype.result c.payload.result.now in
    let front : c.array_at.result ≡ take 14 frame = search rules in
    let room : c.split_at_mut-front.result.0.now ≡ take 14 old = search rules in
    let written : c.write_front.new.bytes ≡ take 14 frame ++ drop 14 (take 14 old) = rw (front, room) at c.write_front.ensures in
    rw (long, rebuilt-headed frame bytes whole, ← type, ← following) (filled-after (take 14 frame) inner old c.write_front.new.bytes c.write_front.new.bytes c.rebuild_payload.new.out 14 c.in-Some.len
    (search rules) (search rules) refl written (search rules) (search rules) (search rules))
