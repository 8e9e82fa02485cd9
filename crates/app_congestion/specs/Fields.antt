-- The states that fields without enums stand for.
use Rattle.std.specs.Prelude.{Some, None, if◌then◌else◌}
use Rattle.app_congestion.specs.declared.congestion.Congestion.{Congestion}
use Rattle.app_congestion.specs.declared.fields.CongestionFields.{CongestionFields}
use Rattle.app_congestion.specs.declared.fields.RtoFields.{RtoFields}
use Rattle.app_congestion.specs.declared.phase.Phase.{Phase}
use Rattle.app_congestion.specs.declared.phase.Phase.TheVariants.{Open, Recovery, Recovered}
use Rattle.app_congestion.specs.declared.rto.Rto.{Rto}

-- the retransmission timer
abbrev pub rto_of : RtoFields → Rto
rto_of f = record { estimate = if f.is_sampled then Some f.estimate else None; timeout = f.timeout; low = f.low; high = f.high }

-- what is known of losses
abbrev pub phase_of : CongestionFields → Phase
phase_of f = if f.is_recovering then Recovery f.recover else if f.is_recovered then Recovered f.recover else Open

-- the congestion window
abbrev pub congestion_of : CongestionFields → Congestion
congestion_of f = record {
  mss = f.mss;
  cwnd = f.cwnd;
  ssthresh = f.ssthresh;
  acked = f.acked;
  duplicates = f.duplicates;
  first_flight = f.first_flight;
  phase = phase_of f;
  is_resent = f.is_resent;
  some = f.some;
  small = f.small;
  low = f.low;
  high = f.high;
  two = f.two;
  bound = f.bound;
  counted = f.counted;
}
