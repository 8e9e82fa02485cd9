use Rattle.std.proofs.Common.{◌∙◌, ap, ℤ, w32, rules}
use Rattle.std.proofs.lemmas.Int.{to_z-of_z}
use Rattle.c_socket.specs.Openings.{opening}
use Rattle.c_socket.specs.Runs.{stepped, stored}
use Rattle.c_socket.proofs.Extending.{connects}
use Rattle.c_socket.proofs.laws.runs.a_connect_opens_again.Goals as goal

pub returns : goal.returns
returns c = λ a b new k fields ring incoming shut number others is.
    let it = c.connect in
    connects c.args.here.now it.new.connection c.args.outgoing.now c.args.incoming.now it.new.incoming c.args.now c.args.iss c.args.out.now it.new.out it.result c.requires.none (record { out = c.requires.out; rings = c.requires.rings }) it.ensures a b new k fields ring incoming shut number others
    (is ∙ ap (λ (z : ℤ). stepped (opening a k) (b.ends k) it.new.connection it.new.incoming (stored z it.new.out)) (to_z-of_z w32 it.result (search rules)))
