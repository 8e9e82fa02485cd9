-- A run of two sockets is one of their connections.
use Rattle.std.proofs.Common.{◌≡◌, ◌⊎◌, inl, inr, sym, ap, subst}
use Rattle.app_connection.specs.declared.connection.Connection.{Connection}
use Rattle.app_connection.specs.Runs as connection
use Rattle.app_connection.proofs.Delivery as connections
use Rattle.app_socket.specs.Runs.{Calls, End, Ends, Runs, begins, end_of, ends_of, here, others, reads, steps, there, writes}
use Rattle.app_socket.specs.Segments.{taken_of}

-- a call of a socket is one of its connection, or none
pub calls_of : (a b c : End) → Calls a b c → connection.Calls (end_of a) (end_of b) (end_of c) ⊎ (end_of c ≡ end_of a)
calls_of a b c (steps now e new incoming result may once out s) = inl (connection.steps (taken_of a.socket now e) new.connection incoming result may once out s)
calls_of a b c (writes new outgoing bytes out s) = inl (connection.writes new.connection outgoing bytes out s)
calls_of a b c (reads new bytes s) = inl (connection.reads new.connection bytes s)
calls_of a b c (others new is) = inr (ap (λ (x : Connection). record (end_of a) { connection = x }) is)

pub runs_of : (p : Ends) → Runs p → connection.Runs (ends_of p)
runs_of p (begins q here_new there_new) = connection.begins (ends_of p) here_new there_new
runs_of p (here q new run calls) = elim (calls_of q.here q.there new calls) [
  | inl one ↦ connection.here (ends_of q) (end_of new) (runs_of q run) one
  | inr is ↦ subst (λ (x : connection.End). connection.Runs (record (ends_of q) { here = x })) (sym is) (runs_of q run)
]
runs_of p (there q new run calls) = elim (calls_of q.there q.here new calls) [
  | inl one ↦ connection.there (ends_of q) (end_of new) (runs_of q run) one
  | inr is ↦ subst (λ (x : connection.End). connection.Runs (record (ends_of q) { there = x })) (sym is) (runs_of q run)
]

pub two_sockets_deliver : (p : Ends) → Runs p → connection.BothRead (ends_of p)
two_sockets_deliver p run = connections.two_connections_deliver (ends_of p) (runs_of p run)
