use Rattle.std.proofs.Common.{IsTrue, refl, rules}
use Rattle.ip_wire.proofs.UdpLayer.{AreWords}
use Rattle.net_base.proofs.Spelled.{AreBytes}
use Rattle.c_write.proofs.TcpStamped.{rebuilt-stamped, rebuilt-unsound}
use Rattle.c_write.specs.TcpKept.{IsSound}
use Rattle.c_write.proofs.rebuild.rebuild_tcp.Goals as goal

pub returns-then-not-is_sound : goal.returns-then-not-is_sound
returns-then-not-is_sound c =
    let src = c.args.src_addr in
    let dst = c.args.dst_addr in
    let bytes = c.args.bytes.now in
    let test : IsSound src dst bytes → IsTrue c.is_sound.result = c.is_sound.ensures.1 in
    let unsound : IsSound src dst bytes → ⊥ = λ sound. let is = test sound in absurd (cc) in
    rw (rebuilt-unsound src dst bytes unsound) c.try_copy.ensures

pub returns-then-is_stamped : goal.returns-then-is_stamped
returns-then-is_stamped c =
    let src = c.args.src_addr in
    let dst = c.args.dst_addr in
    let bytes = c.args.bytes.now in
    let are : AreBytes bytes = λ i. (c.type_inv.bytes i).fits in
    let words : AreWords src dst = record { src_bytes = search rules; dst_bytes = search rules } in
    let sound : IsSound src dst bytes = c.is_sound.ensures.0 c.if-not-is_sound.false in
    let (plain, options) = c.if-is_stamped.ensures refl in
    rw (rebuilt-stamped src dst bytes are words sound plain options) c.copy_stamped.ensures
