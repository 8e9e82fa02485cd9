-- Loss probes (RFC 8985, section 7).
-- Pinned by: `socket/scenarios`
use Rattle.std.specs.Prelude.{ℕ, Bool, nat_lt, if◌then◌else◌}
use Rattle.app_congestion.specs.Congestion.{Sender, probed, sender_of}
use Rattle.app_congestion.specs.Rto.{probe_after}
use Rattle.app_congestion.specs.declared.phase.Phase.{Phase}
use Rattle.app_congestion.specs.declared.phase.Phase.TheVariants.{Recovery}
use Rattle.app_socket.specs.declared.flow.Flow.{Flow}

-- for how long the timer runs: until a loss probe, or after one until the time-out (RFC 8985, sections 7.2 and 7.3)
abbrev pub timer_of : Flow → ℕ
timer_of f = if f.is_probed then f.rto.timeout else probe_after f.rto.estimate f.rto.timeout

-- whether the timer is that of a loss probe
abbrev pub is_probing : Flow → Bool
is_probing f = nat_lt (timer_of f) f.rto.timeout

-- The sender when something new is acknowledged, of `flight` numbers in flight up to `next`. If a loss probe is out, it repaired a
-- loss, to which congestion control responds (RFC 8985, section 7.4.2).
abbrev pub repaired : Flow → ℕ → ℕ → Sender
repaired f flight next = if f.has_probe then probed (sender_of f.congestion) flight next else sender_of f.congestion

-- what is known of losses then: fast recovery begins
abbrev pub phase_heard : Flow → ℕ → Phase
phase_heard f next = if f.has_probe then Recovery next else f.congestion.phase
