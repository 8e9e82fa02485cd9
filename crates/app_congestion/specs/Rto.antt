-- The retransmission timer (RFC 6298), in milliseconds: 8 * SRTT and 4 * RTTVAR are whole numbers, and divisions round down.
-- Pinned by: `congestion/rto`
use Rattle.std.specs.Prelude.{ℕ, ◌+◌, ◌-◌, ◌*◌, ◌/◌, ◌≤◌, min, max, Option, Some, None}
use Rattle.std.specs.Int.{abs_diff}
use Rattle.app_congestion.specs.declared.estimate.Estimate.{Estimate}

-- SRTT
abbrev pub srtt_of : Estimate → ℕ
srtt_of e = e.srtt_8 / 8

-- The first sample r (section 2.2): SRTT = r, RTTVAR = r/2. A further one (section 2.3), with the old SRTT in both:
-- RTTVAR = 3/4 RTTVAR + 1/4 |SRTT - r|, SRTT = 7/8 SRTT + 1/8 r.
abbrev pub sampled : Option Estimate → ℕ → Estimate
sampled None r = record { srtt_8 = 8 * r; rttvar_4 = 2 * r }
sampled (Some e) r = record { srtt_8 = e.srtt_8 - e.srtt_8 / 8 + r; rttvar_4 = e.rttvar_4 - e.rttvar_4 / 4 + abs_diff (srtt_of e) r }

-- SRTT + max (G, 4 * RTTVAR) (section 2.3), at most 60 s (section 2.5). G is 200: so late may an acknowledgement come that is
-- delayed. This stands for the minimum of 1 s (section 2.4).
abbrev pub timeout_of : Estimate → ℕ
timeout_of e = min 60000 (srtt_of e + max 200 e.rttvar_4)

-- When a loss probe goes: 2 * SRTT (RFC 8985, section 7.2) + max (10, 4 * RTTVAR), so that a round trip which varies has no
-- probe before the timeout.
abbrev pub probe_of : Estimate → ℕ
probe_of e = min 60000 (e.srtt_8 / 4 + max 10 e.rttvar_4)

-- the same before the first sample, and at most the timeout
abbrev pub probe_after : Option Estimate → ℕ → ℕ
probe_after None timeout = timeout
probe_after (Some e) timeout = min timeout (probe_of e)

-- a and b differ by at most d
abbrev pub IsWithin : ℕ → ℕ → ℕ → Type 0
IsWithin d a b = (a ≤ b + d) × (b ≤ a + d)

-- The formulas of section 2.3 without rounding, after a further sample. 8 * SRTT differs by less than 1 (SRTT by less than
-- 1/8 ms), and 4 * RTTVAR by less than 2 (RTTVAR by less than 1/2 ms).
pub record IsRounded (old new : Estimate) (r : ℕ) : Type 0 where
  pub srtt : IsWithin 7 (8 * new.srtt_8) (7 * old.srtt_8 + 8 * r)
  pub rttvar : IsWithin 14 (8 * new.rttvar_4) (6 * old.rttvar_4 + abs_diff old.srtt_8 (8 * r))
