use Rattle.std.proofs.Common.{◌∙◌, ap, is_some, unwrap_or}
use Rattle.app_edit.proofs.Kept.{found}
use Rattle.app_edit.proofs.ReadBack.{addr-is, addr-read, takes}
use Rattle.app_edit.specs.Fields.{addr_of}
use Rattle.app_edit.proofs.laws.addr_reads_back.Goals as goal

pub returns : goal.returns
returns c p is version some =
    let xs = c.args.frame.now in
    let o = c.args.offload in
    let side = c.args.side in
    let a = c.args.addr.now in
    let may = takes p.carried p.version a version some in
    let made = addr-is o xs side a p may is in (
      c.set_addr.ensures.done ∙ ap is_some made,
      ap (addr_of side p.version) (c.set_addr.ensures.bytes ∙ ap (λ r. unwrap_or r xs) made) ∙ addr-read o p xs side a (found c.of.result xs p c.of.ensures.value c.of.ensures.holds is) may c.address_fits.ensures,
    )
