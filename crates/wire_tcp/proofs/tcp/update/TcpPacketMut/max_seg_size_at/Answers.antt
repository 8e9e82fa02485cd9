use Rattle.std.proofs.Common.{◌≡◌, ◌+◌, ℕ, List, Option, Some, None, subst}
use Rattle.std.specs.Option.{option_and_then, option_map}
use Rattle.wire_tcp.specs.TcpRepr.{items_in}
use Rattle.wire_tcp.proofs.TcpResized.{place_found}
use Rattle.wire_tcp_options.specs.TcpPlace.{segment_size_at}
use Rattle.wire_tcp.proofs.tcp.update.TcpPacketMut.max_seg_size_at.Goals as goal

-- the index in these options
abbrev IsPlace : Option ℕ → List ℕ → Type 0
IsPlace at options = option_map (λ n. 20 + n) at ≡ option_map (λ n. 20 + n) (option_and_then segment_size_at (items_in options))

pub returns-in-Some-clause-value : goal.returns-in-Some-clause-value
returns-in-Some-clause-value c =
    subst (IsPlace (Some c.in-Some.at)) c.option_bytes.ensures (place_found c.option_bytes.result.now (Some c.in-Some.at) c.in-Some.ensures.listed c.in-Some.ensures.malformed)

pub returns-in-None-clause-value : goal.returns-in-None-clause-value
returns-in-None-clause-value c =
    subst (IsPlace None) c.option_bytes.ensures (place_found c.option_bytes.result.now None c.in-None.ensures.listed c.in-None.ensures.malformed)
