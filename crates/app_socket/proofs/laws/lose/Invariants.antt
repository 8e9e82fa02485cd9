use Rattle.std.proofs.Common.{ℕ, ◌<◌, length, drop}
use Rattle.tcp_stream.specs.Waits.{count_of}
use Rattle.app_connection.specs.Endpoints.{OutFits, InFits}
use Rattle.app_socket.specs.Rounds.{AreBefore, IsWaiting, StandsFor}
use Rattle.app_socket.proofs.ManyRounds.{Losing}
use Rattle.app_socket.proofs.laws.lose.Given as goal

abbrev pub invariant-loop-time : goal.invariant-loop-time
invariant-loop-time l =
    record {
      out : OutFits l.socket.connection.sending (length l.outgoing);
      rings : InFits l.socket.connection.receiving (length l.incoming);
      waits : (by end : ℕ) → 0 < count_of l.fn.socket.connection.sending → IsWaiting l.fn.socket by end → AreBefore l.times end → StandsFor l.fn.socket.connection l.outgoing l.fn.incoming
          → Losing l.fn.socket l.socket l.outgoing l.incoming l.times (drop l.time-index l.times) by end;
    }
