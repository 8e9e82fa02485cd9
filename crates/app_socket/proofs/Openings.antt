-- A run of two programs with sockets that open again and again is one of their connections.
use Rattle.std.proofs.Common.{◌≡◌, inl, inr, refl, sym, ◌∙◌, ap, subst, ℕ, List, []}
use Rattle.std.proofs.lemmas.List.{append-nil}
use Rattle.tcp_stream.specs.Stands.{Stands}
use Rattle.app_connection.specs.Openings as connection
use Rattle.app_connection.specs.Runs as calls
use Rattle.app_connection.specs.Steps.{Reads}
use Rattle.app_connection.proofs.Openings as connections
use Rattle.app_socket.specs.Openings.{OthersStay, Program, Programs, Runs, Turns, begins, ends_of, here, opens, present, program_of, programs_of, renews, rests, stays, there}
use Rattle.app_socket.specs.Runs.{Calls, End, end_of}
use Rattle.app_socket.specs.Segments.{taken_of}
use Rattle.app_socket.proofs.Delivery.{calls_of}

-- a call that leaves the connection reads nothing
read_none : (a b c : calls.End) → c ≡ a → calls.Calls a b c
read_none a b c is =
    let reads : Reads a.connection a.connection a.incoming [] = record { same = refl; stands = λ back consumed stands. subst (λ (l : List ℕ). Stands back l a.connection.receiving a.incoming) (sym (append-nil consumed)) stands } in
    subst (λ (x : calls.End). calls.Calls a b x) (ap (λ (l : List ℕ). record a { read = l }) (append-nil a.read) ∙ sym is) (calls.reads a.connection [] reads)

call_of : (a b c : End) → Calls a b c → calls.Calls (end_of a) (end_of b) (end_of c)
call_of a b c call = elim (calls_of a b c call) [ inl one ↦ one | inr is ↦ read_none (end_of a) (end_of b) (end_of c) is ]

others_of : (k : ℕ) (a new : Program) → OthersStay k a new → connection.OthersStay k (program_of a) (program_of new)
others_of k a new others = λ n other. ap end_of (others n other)

turns_of : (a b c : Program) → Turns a b c → connection.Turns (program_of a) (program_of b) (program_of c)
turns_of a b c (stays new number others call) = connection.stays (program_of c) number (others_of a.number a c others) (call_of (present a) (b.ends a.number) (c.ends a.number) call)
turns_of a b c (rests new now e s incoming result number others none still out steps is) =
    connection.rests (program_of c) (taken_of (present a).socket now e) s.connection incoming result number (others_of a.number a c others) none still out steps (ap end_of is)
turns_of a b c (opens new k now e s incoming result number others shut none has may out steps is) =
    connection.opens (program_of c) k (taken_of (present a).socket now e) s.connection incoming result number (others_of k a c others) shut none has may out steps (ap end_of is)
turns_of a b c (renews new k number shut same) = connection.renews (program_of c) k number shut (λ n. ap end_of (same n))

runs_of : (p : Programs) → Runs p → connection.Runs (programs_of p)
runs_of p (begins q here_new there_new) = connection.begins (programs_of p) here_new there_new
runs_of p (here q new run turns) = connection.here (programs_of q) (program_of new) (runs_of q run) (turns_of q.here q.there new turns)
runs_of p (there q new run turns) = connection.there (programs_of q) (program_of new) (runs_of q run) (turns_of q.there q.here new turns)

pub sockets_that_open_again_deliver : (p : Programs) → Runs p → (n : ℕ) → calls.BothRead (ends_of p n)
sockets_that_open_again_deliver p run = connections.connections_that_open_again_deliver (programs_of p) (runs_of p run)
