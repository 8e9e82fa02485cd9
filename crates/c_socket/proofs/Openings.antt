-- A run of two programs in C that open again and again is one of their sockets.
use Rattle.std.proofs.Common.{◌≡◌, ap, ℕ}
use Rattle.app_connection.specs.Runs.{BothRead}
use Rattle.app_socket.specs.Fields.{socket_of}
use Rattle.app_socket.specs.Openings as socket
use Rattle.app_socket.proofs.Openings as sockets
use Rattle.c_socket.specs.Openings.{OthersStay, Program, Programs, Runs, Turns, begins, ends_of, here, opens, present, program_of, programs_of, renews, rests, stays, there}
use Rattle.c_socket.specs.Runs.{end_of, stored}
use Rattle.c_socket.proofs.Delivery.{calls_of, met_steps}

others_of : (k : ℕ) (a new : Program) → OthersStay k a new → socket.OthersStay k (program_of a) (program_of new)
others_of k a new others = λ n other. ap end_of (others n other)

turns_of : (a b c : Program) → Turns a b c → socket.Turns (program_of a) (program_of b) (program_of c)
turns_of a b c (stays new number others call) = socket.stays (program_of c) number (others_of a.number a c others) (calls_of (present a) (b.ends a.number) (c.ends a.number) call)
turns_of a b c (rests new now e f incoming out out' code number others none still m is) =
    socket.rests (program_of c) now e (socket_of f) incoming (stored code out') number (others_of a.number a c others) none still m.steps.out
    (met_steps (present a).fields f (present a).outgoing (present a).incoming incoming e now out out' code m) (ap end_of is)
turns_of a b c (opens new k now e f incoming out out' code number others shut none has may m is) =
    socket.opens (program_of c) k now e (socket_of f) incoming (stored code out') number (others_of k a c others) shut none has may m.steps.out
    (met_steps (present a).fields f (present a).outgoing (present a).incoming incoming e now out out' code m) (ap end_of is)
turns_of a b c (renews new k number shut same) = socket.renews (program_of c) k number shut (λ n. ap end_of (same n))

runs_of : (p : Programs) → Runs p → socket.Runs (programs_of p)
runs_of p (begins q here_new there_new) = socket.begins (programs_of p) here_new there_new
runs_of p (here q new run turns) = socket.here (programs_of q) (program_of new) (runs_of q run) (turns_of q.here q.there new turns)
runs_of p (there q new run turns) = socket.there (programs_of q) (program_of new) (runs_of q run) (turns_of q.there q.here new turns)

pub programs_that_open_again_deliver : (p : Programs) → Runs p → (n : ℕ) → BothRead (ends_of p n)
programs_that_open_again_deliver p run = sockets.sockets_that_open_again_deliver (programs_of p) (runs_of p run)
