use Rattle.std.proofs.Common.{◌≡◌, ◌≤◌, Some, length, refl, sym}
use Rattle.std.proofs.lemmas.List.{length-take-le}
use Rattle.ip_wire.specs.Arp.{arp_of}
use Rattle.net_base.proofs.Spelled.{AreBytes}
use Rattle.c_write.proofs.ArpKept.{rebuilt-arp-kept}
use Rattle.c_write.proofs.rebuild.rebuild_arp.Goals as goal

pub slice_bounds-try_copy-end : goal.slice_bounds-try_copy-end
slice_bounds-try_copy-end c =
    let r = (c.in-Ok.ensures.reads c.in-Ok.field-0).0 refl in
    let whole : 28 ≤ length c.args.bytes.now = rw c.new_unchecked.ensures at r.whole in
    sym (length-take-le 28 c.args.bytes.now whole)

pub returns-in-Ok : goal.returns-in-Ok
returns-in-Ok c =
    let bytes = c.args.bytes.now in
    let are : AreBytes bytes = λ i. (c.type_inv.bytes i).fits in
    let read : arp_of bytes ≡ Some c.in-Ok.field-0 = rw c.new_unchecked.ensures at c.in-Ok.ensures.value in
    rw (rebuilt-arp-kept bytes c.in-Ok.field-0 are read) c.try_copy.ensures
