use Rattle.std.proofs.Common.{refl, length}
use Rattle.c_socket.specs.Runs.{begins}
use Rattle.c_socket.proofs.laws.runs.two_new_programs_are_a_run.Goals as goal

pub returns : goal.returns
returns c =
    let a = c.init.ensures in
    let b = c.init-2.ensures in
    begins _
    (record { endpoint = a.closed; stands = a.stands c.args.incoming.now; out = a.out (length c.args.outgoing.now) c.requires.some c.requires.small; opened = refl; wrote = refl; read = refl; sent = refl })
    (record { endpoint = b.closed; stands = b.stands c.args.text.now; out = b.out (length c.args.answers.now) c.requires.some_there c.requires.small_there; opened = refl; wrote = refl; read = refl; sent = refl })
