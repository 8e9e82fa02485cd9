-- Limited transmit: one duplicate acknowledgement more does not change what cwnd is without it.
use Rattle.std.proofs.Common.{arith, ◌≡◌, ◌≤◌, ◌<◌, ◌+◌, ◌-◌, ◌*◌, ℕ, zero, suc, min, max, false}
use Rattle.app_congestion.specs.declared.phase.Phase.{Phase}
use Rattle.app_congestion.specs.declared.phase.Phase.TheVariants.{Open, Recovery, Recovered}
use Rattle.app_congestion.specs.Congestion.{Sender, acknowledged, acknowledged_in, capped, duplicated, heard, is_in_recovery, is_third, unchanged}

-- cwnd without what limited transmit allows for n duplicate acknowledgements, and for one more; the third begins fast recovery
pub one-more : (mss cwnd n : ℕ) → cwnd + mss ≤ 1073741824 → n < 2 →
    max mss (capped (cwnd + mss) - min 2 (n + 1) * mss) ≡ max mss (cwnd - min 2 n * mss)
one-more mss cwnd zero room few = grind arith
one-more mss cwnd (suc zero) room few = grind arith
one-more mss cwnd (suc (suc n)) room few = grind arith

-- no more after two
pub no-more : (n : ℕ) → 2 ≤ n → min 2 (min 255 (n + 1)) ≡ min 2 n
no-more n many = grind arith

-- what is not cwnd, duplicates or FlightSize
pub same-cwnd : (phase : Phase) (s t : Sender) (newly flight una : ℕ) → is_in_recovery phase ≡ false →
    s.mss ≡ t.mss → s.cwnd ≡ t.cwnd → s.ssthresh ≡ t.ssthresh → s.acked ≡ t.acked →
    (acknowledged_in phase s newly flight una).cwnd ≡ (acknowledged_in phase t newly flight una).cwnd
same-cwnd Open s t newly flight una outside mss cwnd ssthresh acked = grind arith
same-cwnd (Recovered recover) s t newly flight una outside mss cwnd ssthresh acked = grind arith
same-cwnd (Recovery recover) s t newly flight una outside mss cwnd ssthresh acked = grind arith

-- what a duplicate acknowledgement outside fast recovery keeps
pub record Kept (s t : Sender) : Type 0 where
  pub mss : t.mss ≡ s.mss
  pub ssthresh : t.ssthresh ≡ s.ssthresh
  pub acked : t.acked ≡ s.acked
  pub phase : t.phase ≡ s.phase

pub kept : (s : Sender) (flight una next : ℕ) → is_in_recovery s.phase ≡ false → is_third s una ≡ false → Kept s (duplicated s flight una next)
kept s flight una next outside first =
    record { mss = grind arith; ssthresh = grind arith; acked = grind arith; phase = grind arith }

pub same-unchanged : (s : Sender) (flight una next : ℕ) → is_in_recovery s.phase ≡ false → is_third s una ≡ false →
    s.cwnd + s.mss ≤ 1073741824 → unchanged (duplicated s flight una next) ≡ unchanged s
same-unchanged s flight una next outside first room =
    grind (arith, one-more s.mss s.cwnd s.duplicates room, no-more s.duplicates)

-- an acknowledgement of new data makes the same cwnd with a duplicate acknowledgement before it
pub same-acknowledged : (s t : Sender) (newly flight una : ℕ) → Kept s t → is_in_recovery s.phase ≡ false → unchanged t ≡ unchanged s → 1 ≤ newly →
    (acknowledged t newly flight una).cwnd ≡ (acknowledged s newly flight una).cwnd
same-acknowledged s t newly flight una keeps outside same some =
    let inside : (acknowledged_in s.phase (heard t) newly flight una).cwnd ≡ (acknowledged_in s.phase (heard s) newly flight una).cwnd =
    same-cwnd s.phase (heard t) (heard s) newly flight una outside keeps.mss (grind (arith, keeps.phase)) keeps.ssthresh keeps.acked
    in
    grind (arith, inside, keeps.phase)
