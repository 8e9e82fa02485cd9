use Rattle.std.proofs.Common.{length, drop}
use Rattle.tcp_stream.specs.Waits.{count_of}
use Rattle.app_connection.specs.Endpoints.{OutFits, InFits}
use Rattle.app_socket.specs.Exchanges.{MayExchange}
use Rattle.app_socket.specs.Pair.{Past, end_at}
use Rattle.app_socket.specs.Runs.{Runs}
use Rattle.app_socket.proofs.Exchanging.{Going}
use Rattle.app_socket.proofs.laws.rounds.rounds_of_two_sockets_deliver.Given as goal

abbrev pub invariant-loop-round : goal.invariant-loop-round
invariant-loop-round l =
    record {
      out : OutFits l.here.connection.sending (length l.outgoing);
      rings : InFits l.here.connection.receiving (length l.incoming);
      out_there : OutFits l.there.connection.sending (length l.answers);
      rings_there : InFits l.there.connection.receiving (length l.text);
      going : (h t : Past) → Runs (record { here = end_at l.fn.here l.outgoing l.fn.incoming h; there = end_at l.fn.there l.answers l.fn.text t }) → MayExchange l.fn.here l.fn.there (length l.fn.text) h t l.rounds
          → Going l.here l.there l.outgoing l.incoming l.answers l.text h t (drop l.round-index l.rounds) l.round-index (count_of l.fn.here.connection.sending);
    }
