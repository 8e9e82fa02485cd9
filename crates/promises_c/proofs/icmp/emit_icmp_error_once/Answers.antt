use Rattle.std.proofs.Common.{ap, of_z, subst, sym, to_z, w32, w64}
use Rattle.c_icmp.specs.Errors.{WritesError, own_interface, problem_by}
use Rattle.promises_c.proofs.RepliesOnce.{errors_once}
use Rattle.promises_c.proofs.icmp.emit_icmp_error_once.Goals as goal

pub returns-clause-returned : goal.returns-clause-returned
returns-clause-returned c = ap (λ r. to_z w64 (of_z w64 r)) (errors_once (own_interface c.args.own.now) c.args.frame.now (problem_by (to_z w32 (of_z w32 c.args.problem))) c.args.mtu c.args.out.now _ _ _ _ c.lk_emit_icmp_error.ensures
    (subst (λ o. WritesError (own_interface c.args.own.now) c.args.frame.now (problem_by (to_z w32 (of_z w32 c.args.problem))) c.args.mtu o c.lk_emit_icmp_error-2.new.out c.lk_emit_icmp_error-2.result) (sym c.requires) c.lk_emit_icmp_error-2.ensures)).0

pub returns-clause-written : goal.returns-clause-written
returns-clause-written c = (errors_once (own_interface c.args.own.now) c.args.frame.now (problem_by (to_z w32 (of_z w32 c.args.problem))) c.args.mtu c.args.out.now _ _ _ _ c.lk_emit_icmp_error.ensures
    (subst (λ o. WritesError (own_interface c.args.own.now) c.args.frame.now (problem_by (to_z w32 (of_z w32 c.args.problem))) c.args.mtu o c.lk_emit_icmp_error-2.new.out c.lk_emit_icmp_error-2.result) (sym c.requires) c.lk_emit_icmp_error-2.ensures)).1
