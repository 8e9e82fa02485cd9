-- Each direction keeps what it keeps alone.
use Rattle.std.proofs.Common.{ℕ, List, [], ◌∷◌}
use Rattle.tcp_stream.specs.Network.{Segment_comes, Ack_comes}
use Rattle.tcp_stream.specs.Both.{Both, Turn, There, Back, Packet_there, Packet_back, turns, run_both, both_start, BothDeliver}
use Rattle.tcp_stream.proofs.Kept.{Good, good_start, good_delivers, happens_good}

record Pair (b : Both) : Type 0 where
  there : Good b.there
  back : Good b.back

turns_good : (b : Both) (t : Turn) → Pair b → Pair (turns b t)
turns_good b (There e) pair = record { there = happens_good b.there e pair.there; back = pair.back }
turns_good b (Back e) pair = record { there = pair.there; back = happens_good b.back e pair.back }
turns_good b (Packet_there segment ack room) pair = record { there = happens_good b.there (Segment_comes segment room) pair.there; back = happens_good b.back (Ack_comes ack) pair.back }
turns_good b (Packet_back segment ack room) pair = record { there = happens_good b.there (Ack_comes ack) pair.there; back = happens_good b.back (Segment_comes segment room) pair.back }

run_both_good : (ts : List Turn) (b : Both) → Pair b → Pair (run_both ts b)
run_both_good [] b pair = pair
run_both_good (t ∷ ts) b pair = run_both_good ts (turns b t) (turns_good b t pair)

pub both_deliver : (i j : ℕ) (ts : List Turn) → BothDeliver (run_both ts (both_start i j))
both_deliver i j ts =
    let pair = run_both_good ts (both_start i j) (record { there = good_start i; back = good_start j }) in
    record { there = good_delivers _ pair.there; back = good_delivers _ pair.back }
