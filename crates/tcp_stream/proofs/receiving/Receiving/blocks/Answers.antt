use Rattle.std.proofs.Common.{sym, subst}
use Rattle.tcp_stream.specs.Stands.{AreTold}
use Rattle.tcp_stream.proofs.Told.{blocks_told}
use Rattle.tcp_stream.proofs.receiving.Receiving.blocks.Goals as goal

pub returns-clause-legal : goal.returns-clause-legal
returns-clause-legal c = λ w consumed buffer stands. subst (AreTold w) (sym c.blocks-2.ensures) (blocks_told w consumed c.args.self.now buffer stands)
