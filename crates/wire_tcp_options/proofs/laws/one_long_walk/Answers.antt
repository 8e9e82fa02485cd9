use Rattle.wire_tcp_options.proofs.Walks.{long, one_long_walk, stuck_walk}
use Rattle.wire_tcp_options.proofs.laws.one_long_walk.Goals as goal

pub returns : goal.returns
returns c =
    let s = stuck_walk c.args.bytes.now in
    record {
      some = (s.marks, s.rest, long c.args.bytes.now s.marks s.rest s.walk s.nothing);
      only = one_long_walk c.args.bytes.now;
    }
