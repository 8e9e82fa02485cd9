use Rattle.std.proofs.Common.{◌≡◌, rules}
use mir.Syntax.{named}
use Rattle.wire_tcp.specs.TcpRepr.{header_of}
use Rattle.wire_tcp.proofs.TcpReadsBack.{same_written}
use Rattle.wire_tcp.proofs.ValueInRange.{value_is_writable}
use Rattle.wire_tcp.proofs.laws.equal_bytes.Goals as goal

same : (c : goal.Start) → (header_of c.args.value ≡ header_of c.args.other) × (c.args.value.payload.now ≡ c.args.other.payload.now)
same c =
    let v = value_is_writable (record { mir = named 0; lft = c.lifetimes.0 }) c.args.value _ c.well_formed.0 c.requires.value_sender c.requires.value_receiver c.requires.value_len in
    let w = value_is_writable (record { mir = named 1; lft = c.lifetimes.1.0 }) c.args.other _ c.well_formed.1.0 c.requires.other_sender c.requires.other_receiver c.requires.other_len in
    same_written (header_of c.args.value) (header_of c.args.other) c.args.src_addr c.args.dst_addr c.args.value.payload.now c.args.other.payload.now c.requires.value_normal c.requires.other_normal v w
    (search rules) (search rules) c.requires.bytes

pub returns-clause-value : goal.returns-clause-value
returns-clause-value c = (same c).0

pub returns-clause-payload : goal.returns-clause-payload
returns-clause-payload c = (same c).1
