use Rattle.std.proofs.Common.{◌≡◌}
use Rattle.app_socket.specs.Resends.{IsSound}
use Rattle.app_socket.proofs.socket.Socket.learn_sack.Given as goal

abbrev pub invariant-loop-first : goal.invariant-loop-first
invariant-loop-first l =
    record {
      same : l.self ≡ record l.fn.self { flow = record l.fn.self.flow { scoreboard = l.self.flow.scoreboard } };
      sound : IsSound l.fn.self.flow l.fn.self.connection.sending.flight → IsSound l.self.flow l.fn.self.connection.sending.flight;
    }
