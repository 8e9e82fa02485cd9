use Rattle.std.proofs.Common.{◌≤◌, length}
use Rattle.app_connection.specs.Endpoints.{OutFits, InFits}
use Rattle.app_socket.proofs.laws.silence_ends.Given as goal

abbrev pub invariant-loop-time : goal.invariant-loop-time
invariant-loop-time l =
    record {
      out : OutFits l.socket.connection.sending (length l.outgoing);
      rings : InFits l.socket.connection.receiving (length l.incoming);
      later : l.socket.timers.ends_at ≤ l.fn.socket.timers.ends_at;
    }
