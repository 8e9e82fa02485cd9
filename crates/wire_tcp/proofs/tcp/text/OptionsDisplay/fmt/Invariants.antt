use Rattle.std.proofs.Common.{ℕ, ◌≡◌, ◌++◌, List, length}
use Rattle.std.specs.Fmt.{HasWritten, IsPlainFormatter}
use Rattle.wire_tcp.specs.TcpText.{options_text}
use Rattle.wire_tcp.proofs.tcp.text.OptionsDisplay.fmt.Given as goal

-- the options that the walk has passed are printed
abbrev pub invariant-loop-rest : goal.invariant-loop-rest
invariant-loop-rest g l =
    (done : List ℕ) × (options_text l.self.0.now ≡ done ++ options_text l.rest)
    × (IsPlainFormatter l.fn.f → HasWritten g.W.Write.write_str_gives l.fn.f done l.f)

abbrev pub decreases-loop-rest : goal.decreases-loop-rest
decreases-loop-rest g l = length l.rest
