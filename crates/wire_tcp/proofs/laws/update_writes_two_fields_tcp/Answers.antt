use Rattle.std.proofs.Common.{ℕ, ◌≡◌, ◌≤◌, List, length, refl, sym, subst, arith}
use Rattle.net_base.proofs.Cells.{cells-drop}
use Rattle.wire_tcp.specs.Tcp.{with_updated_checksum}
use Rattle.wire_tcp.specs.TcpFields.{after_update, sums_of, with_update}
use Rattle.wire_tcp.specs.declared.laws.TcpUpdate.{TcpUpdate}
use Rattle.wire_tcp.specs.declared.laws.TcpUpdate.TheVariants as update
use Rattle.wire_tcp.proofs.laws.update_writes_two_fields_tcp.Goals as goal
use Rattle.std.proofs.lemmas.Grind.{common_steps}
use Rattle.std.proofs.lemmas.Bool.Decides.{nat_tests}

-- a port or window that is written leaves the checksum, so that it may be updated from the new bytes or the old ones
abbrev Same : TcpUpdate → List ℕ → Type 0
Same call bytes = with_updated_checksum (with_update call bytes) (sums_of call bytes).0 (sums_of call bytes).1 ≡ after_update call bytes

same : (call : TcpUpdate) (bytes : List ℕ) → 18 ≤ length bytes → Same call bytes
same (update.SrcPort x) bytes room = subst (Same (update.SrcPort x)) (sym (cells-drop 18 bytes room)) refl
same (update.DstPort x) bytes room = subst (Same (update.DstPort x)) (sym (cells-drop 18 bytes room)) refl
same (update.WindowLen x) bytes room = subst (Same (update.WindowLen x)) (sym (cells-drop 18 bytes room)) refl
same (update.Address old new) bytes room = refl

pub returns-in-SrcPort-clause-fields : goal.returns-in-SrcPort-clause-fields
returns-in-SrcPort-clause-fields c = grind (arith, common_steps, nat_tests, same)

pub returns-in-DstPort-clause-fields : goal.returns-in-DstPort-clause-fields
returns-in-DstPort-clause-fields c = grind (arith, common_steps, nat_tests, same)

pub returns-in-WindowLen-clause-fields : goal.returns-in-WindowLen-clause-fields
returns-in-WindowLen-clause-fields c = grind (arith, common_steps, nat_tests, same)
