use Rattle.std.proofs.Common.{ℤ, ap, of_z, subst, sym, to_z, w32}
use Rattle.c_routing.specs.Clamped.{Clamps}
use Rattle.c_routing.specs.Edited.{offload_of}
use Rattle.promises_c.proofs.RoutingOnce.{clamps_once}
use Rattle.promises_c.proofs.routing.clamp_mss_as_once.Goals as goal

-- a number of 32 bits, as a call takes it
abbrev taken : ℤ → ℤ
taken n = to_z w32 (of_z w32 n)

pub returns-clause-returned : goal.returns-clause-returned
returns-clause-returned c =
    let o = offload_of (taken c.args.offload) in
    ap taken (clamps_once o c.args.frame.now _ _ _ _ _ c.lk_clamp_mss_as.ensures
    (subst (λ frame. Clamps o frame c.lk_clamp_mss_as-2.new.frame c.args.max_seg_size c.lk_clamp_mss_as-2.result) (sym c.requires) c.lk_clamp_mss_as-2.ensures)).0

pub returns-clause-written : goal.returns-clause-written
returns-clause-written c =
    let o = offload_of (taken c.args.offload) in
    (clamps_once o c.args.frame.now _ _ _ _ _ c.lk_clamp_mss_as.ensures
    (subst (λ frame. Clamps o frame c.lk_clamp_mss_as-2.new.frame c.args.max_seg_size c.lk_clamp_mss_as-2.result) (sym c.requires) c.lk_clamp_mss_as-2.ensures)).1
