use Rattle.std.proofs.Common.{◌≡◌, false}
use Rattle.app_congestion.specs.Congestion.{is_past}
use Rattle.app_congestion.proofs.laws.old_duplicates_send_nothing_again.Given as goal

abbrev pub invariant-loop : goal.invariant-loop
invariant-loop l = record { phase : is_past l.fn.c.phase l.una ≡ false → is_past l.c.phase l.una ≡ false; again : is_past l.fn.c.phase l.una ≡ false → l.again ≡ false }
