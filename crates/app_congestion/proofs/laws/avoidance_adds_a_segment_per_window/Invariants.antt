use Rattle.std.proofs.Common.{◌≡◌, ◌+◌, ◌≤◌, ◌⊎◌, sum_by, take, false}
use Rattle.app_congestion.specs.Congestion.{is_in_recovery}
use Rattle.app_congestion.proofs.laws.avoidance_adds_a_segment_per_window.Given as goal

-- cwnd has not grown over what it began with, or since then it takes a window more to grow.
abbrev pub invariant-loop-newly : goal.invariant-loop-newly
invariant-loop-newly l =
    record {
      mss : l.c.mss ≡ l.fn.c.mss;
      ssthresh : l.c.ssthresh ≡ l.fn.c.ssthresh;
      outside : is_in_recovery l.c.phase ≡ false;
      most : l.c.cwnd ≤ l.fn.c.cwnd + l.fn.c.mss;
      counted : (l.c.cwnd ≤ l.fn.c.cwnd) ⊎ (l.c.acked ≤ sum_by (λ a. a.0) (take l.newly-index l.acks));
    }
