use Rattle.std.proofs.Common.{◌≡◌, length, drop}
use Rattle.std.specs.Prelude.{None}
use Rattle.tcp_stream.specs.Waits.{count_of}
use Rattle.app_connection.specs.Endpoints.{OutFits, InFits}
use Rattle.app_socket.specs.Rounds.{StandsFor}
use Rattle.app_socket.proofs.ManyRounds.{Going}
use Rattle.app_socket.proofs.laws.rounds_acknowledge_all.Given as goal

abbrev pub invariant-loop-round : goal.invariant-loop-round
invariant-loop-round l =
    record {
      out : OutFits l.socket.connection.sending (length l.outgoing);
      rings : InFits l.socket.connection.receiving (length l.incoming);
      going : StandsFor l.fn.socket.connection l.outgoing l.fn.incoming → Going l.socket l.outgoing l.incoming (drop l.round-index l.rounds) l.round-index (count_of l.fn.socket.connection.sending);
      recent : StandsFor l.fn.socket.connection l.outgoing l.fn.incoming → l.fn.socket.agreed.recent ≡ None → l.socket.agreed.recent ≡ None;
    }
